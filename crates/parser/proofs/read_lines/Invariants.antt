-- `parser::read_lines` meets its contract. Assumes nothing.
use Rattle.std.proofs.Common.{◌≡◌, ◌-◌, length}
use Rattle.parser.proofs.Lines.{Parsing}
use Rattle.parser.proofs.read_lines.Given as goal

abbrev pub invariant-loop-progress : goal.invariant-loop-progress
invariant-loop-progress l = Parsing l.layout.n l.layout.count l.initial.ws l.ws l.pool l.progress × (length l.ws ≡ length l.initial.ws)

abbrev pub decreases-loop-progress : goal.decreases-loop-progress
decreases-loop-progress l = l.layout.count - l.progress.next
