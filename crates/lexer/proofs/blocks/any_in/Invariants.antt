-- `lexer::blocks::any_in` meets its contract: what was seen so far, and what the test said where nothing was. Assumes nothing.
use Rattle.std.proofs.Common.{◌≡◌, ◌<◌, ℕ, Bool, false, get_or, take}
use Rattle.std.specs.List.{list_any}
use Rattle.lexer.proofs.blocks.any_in.Given as goal

abbrev pub invariant-loop-b : goal.invariant-loop-b
invariant-loop-b g l =
    ((p : ℕ → Bool) → ((b : ℕ) (r : Bool) → goal.F-post g l.stops b r → r ≡ p b) → l.seen ≡ list_any p (take l.b-index l.block))
    × (l.seen ≡ false → (k : ℕ) → k < l.b-index → goal.F-post g l.stops (get_or l.block k 0) false)
