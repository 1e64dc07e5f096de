-- `lexer::blocks::next_stop` meets its contract. Assumes nothing.
use Rattle.std.proofs.Common.{◌≡◌, ◌≤◌, ◌-◌, ℕ, Bool, length}
use Rattle.lexer.specs.Marks.{free, OnRun}
use Rattle.lexer.proofs.blocks.next_stop.Given as goal

abbrev pub invariant-loop-j : goal.invariant-loop-j
invariant-loop-j g l = goal.F-IsAlwaysCallable g l.stops × (l.j ≤ length l.text) × ((p : ℕ → Bool) → ((b : ℕ) (r : Bool) → goal.F-post g l.stops b r → r ≡ p b) → OnRun (free p) l.text l.i l.j)

abbrev pub decreases-loop-j : goal.decreases-loop-j
decreases-loop-j g l = length l.text - l.j

abbrev pub invariant-loop-k : goal.invariant-loop-k
invariant-loop-k g l = goal.F-IsAlwaysCallable g l.stops × ((p : ℕ → Bool) → ((b : ℕ) (r : Bool) → goal.F-post g l.stops b r → r ≡ p b) → OnRun (free p) l.text l.i l.k)
