-- `lexer::keep::keep_plain` meets its contract. Assumes nothing.
use Rattle.std.proofs.Common.{◌+◌, ◌-◌}
use Rattle.lexer.proofs.Keeps.{Keeping}
use Rattle.lexer.proofs.keep.keep_plain.Given as goal

abbrev pub invariant-loop-j : goal.invariant-loop-j
invariant-loop-j l = Keeping l.text l.initial.pool l.pool l.i l.used l.stop l.j (l.used + (l.j - l.i))
