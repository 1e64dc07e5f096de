-- The Unicode Standard, section 3.9: Table 3-7, Well-Formed UTF-8 Byte Sequences, and Table 3-6, UTF-8 Bit Distribution. Assumes nothing.
use Rattle.std.specs.Prelude.{ℕ, ◌+◌, ◌*◌, ◌-◌, Bool, true, false, ◌&&◌, List, [], ◌∷◌}
use Rattle.std.proofs.Math.Option.{Option, none, some}
use Rattle.rules.specs.Bytes.{within}

-- the bytes from `low` to `high`
pub record Range : Type 0 where
  pub low : ℕ
  pub high : ℕ

infix 70 ◌to◌
unfoldable pub ◌to◌ : ℕ → ℕ → Range
low to high = record { low = low; high = high }

-- Table 3-7, row by row: a range for each byte of the sequence
unfoldable pub rows : List (List Range)
rows =
    (0x00 to 0x7F ∷ [])
    ∷ (0xC2 to 0xDF ∷ 0x80 to 0xBF ∷ [])
    ∷ (0xE0 to 0xE0 ∷ 0xA0 to 0xBF ∷ 0x80 to 0xBF ∷ [])
    ∷ (0xE1 to 0xEC ∷ 0x80 to 0xBF ∷ 0x80 to 0xBF ∷ [])
    ∷ (0xED to 0xED ∷ 0x80 to 0x9F ∷ 0x80 to 0xBF ∷ [])
    ∷ (0xEE to 0xEF ∷ 0x80 to 0xBF ∷ 0x80 to 0xBF ∷ [])
    ∷ (0xF0 to 0xF0 ∷ 0x90 to 0xBF ∷ 0x80 to 0xBF ∷ 0x80 to 0xBF ∷ [])
    ∷ (0xF1 to 0xF3 ∷ 0x80 to 0xBF ∷ 0x80 to 0xBF ∷ 0x80 to 0xBF ∷ [])
    ∷ (0xF4 to 0xF4 ∷ 0x80 to 0x8F ∷ 0x80 to 0xBF ∷ 0x80 to 0xBF ∷ [])
    ∷ []

unfoldable pub in_range : Range → ℕ → Bool
in_range r b = within r.low r.high b

-- the ranges due after a first byte, by the row that it stands in
unfoldable pub due_after : ℕ → List (List Range) → Option (List Range)
due_after b [] = none
due_after b ([] ∷ rest) = due_after b rest
due_after b ((first ∷ due) ∷ rest) = elim (in_range first b) [ true ↦ some due | false ↦ due_after b rest ]

-- bytes of the ranges `due` stand at the front, and whole characters after them
unfoldable pub follows : List Range → List ℕ → Bool
follows [] [] = true
follows (r ∷ due) [] = false
follows [] (b ∷ bs) = elim (due_after b rows) [ none ↦ false | some due ↦ follows due bs ]
follows (r ∷ due) (b ∷ bs) = in_range r b && follows due bs

unfoldable pub well_formed : List ℕ → Bool
well_formed text = follows [] text

-- Table 3-6: what the first byte gives (its last 7, 5, 4 or 3 bits), by what is due after it
unfoldable pub leading : List Range → ℕ → ℕ
leading [] b = b
leading (r ∷ []) b = b - 0xC0
leading (r ∷ s ∷ []) b = b - 0xE0
leading (r ∷ s ∷ t ∷ due) b = b - 0xF0

-- each byte due adds its last six bits
unfoldable pub trailing : List Range → ℕ → List ℕ → ℕ
trailing [] c bs = c
trailing (r ∷ due) c [] = c
trailing (r ∷ due) c (b ∷ bs) = trailing due (c * 0x40 + (b - 0x80)) bs

-- the code point at the front of a well-formed text
unfoldable pub code_point : ℕ → List ℕ → ℕ
code_point b bs = elim (due_after b rows) [ none ↦ b | some due ↦ trailing due (leading due b) bs ]
