-- Texts of Table 3-7's first row alone. Assumes nothing.
use Prim.Native.Nat.{ℕ, suc, ◌<◌}
use mathlib.Core.Path.{◌≡◌, refl, ◌∙◌, ap}
use mathlib.Core.Bool.{true}
use mathlib.Core.List.{List, [], ◌∷◌}
use mathlib.Core.Option.{Option}
use native.Mathlib.Omega.{arith}
use lib.ListN.{get_or, take, drop}
use Rattle.rules.specs.Utf8.{Range, ◌to◌, rows, follows}
use Rattle.utf8.specs.Dues.{after}
use Rattle.utf8.proofs.Rows.{row, goes_on, after-byte}

first : (b : ℕ) (bs : List ℕ) → b < 128 → follows [] (b ∷ bs) ≡ follows [] bs
unfolding after goes_on rows ◌to◌
first b bs l =
    after-byte [] b bs ∙ ap (λ (d : Option (List Range)). goes_on d bs) (row b (take 0 rows) 0x00 0x7F [] (drop 1 rows) (omega arith) (omega arith) (omega arith))

pub ascii : (bs : List ℕ) → ((i : ℕ) → get_or bs i 0 < 128) → follows [] bs ≡ true
unfolding follows
ascii [] h = refl
ascii (b ∷ bs) h = first b bs (h 0) ∙ ascii bs (λ i. h (suc i))
