-- `lexrun::run` meets its contract. Assumes nothing.
use Rattle.std.proofs.Common.{arith}
use Rattle.lexer.proofs.Outcomes.{when-entries-fit}
use Rattle.lexrun.proofs.run.Goals as goal

pub new-requires : goal.new-requires
new-requires g c = when-entries-fit _ _ _ _ _ _ c.lex.ensures _ c.in-Ok.is (record { small = omega arith; ws_room = omega arith; pool_room = omega arith })
