-- What is due after a byte of UTF-8, as three numbers, against the ranges of the Unicode Standard's Table 3-7. Assumes nothing.
use Rattle.std.specs.Prelude.{ℕ, zero, suc, true, false, List, [], ◌∷◌, replicate}
use Rattle.std.specs.Prelude as Std
use Rattle.std.proofs.Math.Option.{Option, none, some}
use Rattle.rules.specs.Utf8.{Range, ◌to◌, in_range, due_after, rows}
use Rattle.utf8.specs.declared.Due.{Due}

-- so many bytes are due, the first of them from `low` to `high`
unfoldable pub ranges : ℕ → ℕ → ℕ → List Range
ranges zero low high = []
ranges (suc count) low high = low to high ∷ replicate count (0x80 to 0xBF)

unfoldable pub due_of : Std.Option Due → Option (List Range)
due_of (Std.Some d) = some (ranges d.count d.low d.high)
due_of Std.None = none

-- what is due after a byte, where `due` was: a first byte's row says it where nothing was
unfoldable pub after : List Range → ℕ → Option (List Range)
after [] b = due_after b rows
after (r ∷ due) b = elim (in_range r b) [ true ↦ some due | false ↦ none ]
