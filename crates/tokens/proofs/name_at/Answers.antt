-- `tokens::name_at` meets its contract. Assumes nothing.
use Rattle.std.proofs.Common.{arith, ◌+◌, ◌*◌}
use Rattle.tokens.proofs.TokenLaws.{name-small, names-token}
use Rattle.tokens.proofs.name_at.Goals as goal

pub overflow_cast-result : goal.overflow_cast-result
overflow_cast-result c = omega (arith, name-small c.args.count c.args.ws.now c.args.pool.now c.args.j (omega (arith, c.type_inv.ws (4 * c.args.j + 2))) _ c.length_at.ensures)

pub returns : goal.returns
returns c = search names-token
