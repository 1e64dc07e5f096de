-- The field of a key as a number, and the fields read so far as bits of a number (document 01, "Lines"). Assumes nothing.
use Rattle.std.specs.Prelude.{ℕ, ◌≤◌, ◌≡◌, Bool, true, false, List}
use Rattle.std.proofs.Math.Option.{Option, none, some}
use Rattle.rules.specs.Lines.{Field, field, field_keys, field_at}
pub use Rattle.scan.specs.Bits.{bit_at}

-- 0 for none
unfoldable pub or_zero : Option ℕ → ℕ
or_zero none = 0
or_zero (some f) = f

-- the number of the key's field; 0 where it is none
abbrev pub field_number : List ℕ → ℕ
field_number key = or_zero (field 1 field_keys key)

unfoldable pub is_some : Option Field → Bool
is_some none = false
is_some (some g) = true

-- the bits of m are the fields read so far, by their numbers
abbrev pub Marks : ℕ → List Field → Type 0
Marks m fields = (f : ℕ) → f ≤ 10 → bit_at m f ≡ is_some (field_at f fields)
