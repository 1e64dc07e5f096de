-- `lexer::fill` meets its contract. Assumes nothing.
use Rattle.std.proofs.Common.{length, ◌-◌}
use Rattle.lexer.proofs.Fills.{Filling}
use Rattle.lexer.proofs.fill.Given as goal

abbrev pub invariant-loop-i : goal.invariant-loop-i
invariant-loop-i l = Filling l.text l.initial.ws l.initial.pool l.ws l.pool l.i l.count l.gathered.start l.gathered.end l.gathered.source

abbrev pub decreases-loop-i : goal.decreases-loop-i
decreases-loop-i l = length l.text - l.i
