-- `lexer::blocks::run_end` meets its contract. Assumes nothing.
use Rattle.std.proofs.Common.{◌≡◌, ℕ, Bool}
use Rattle.lexer.specs.Marks.{OnRun}
use Rattle.lexer.proofs.blocks.run_end.Given as goal

abbrev pub invariant-loop-j : goal.invariant-loop-j
invariant-loop-j g l = goal.F-IsAlwaysCallable g l.passes × ((p : ℕ → Bool) → ((b : ℕ) (r : Bool) → goal.F-post g l.passes b r → r ≡ p b) → OnRun p l.text l.i l.j)
