-- `parser::name_at` meets its contract. Assumes nothing.
use Rattle.std.proofs.Common.{arith, refl}
use Rattle.parser.proofs.Answering.{shows, shows-none}
use Rattle.parser.proofs.name_at.Goals as goal

pub returns-then-kind : goal.returns-then-kind
returns-then-kind c = shows _ _ c.kind.ensures _ (omega (arith, c.if-kind.true)) c.name.ensures

pub returns-else-kind : goal.returns-else-kind
returns-else-kind c = shows-none _ _ c.kind.ensures _ (omega (arith, c.if-kind.false)) refl
