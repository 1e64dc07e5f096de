-- `lexer::find_refusal` meets its contract. Assumes nothing.
use Rattle.std.proofs.Common.{length, ◌-◌}
use Rattle.lexer.proofs.Fates.{Fated}
use Rattle.lexer.proofs.find_refusal.Given as goal

abbrev pub invariant-loop-i : goal.invariant-loop-i
invariant-loop-i l = Fated l.text l.i

abbrev pub decreases-loop-i : goal.decreases-loop-i
decreases-loop-i l = length l.text - l.i
