-- Laws of Table 3-7's rows and of what they make due. Assumes nothing.
use Prim.Native.Nat.{ℕ, zero, suc, ◌+◌, ◌-◌, ◌≤◌, ◌<◌}
use mathlib.Core.Path.{◌≡◌, refl, sym, ◌∙◌, ap}
use mathlib.Core.Bool.{Bool, true, false, ◌&&◌}
use mathlib.Core.List.{List, [], ◌∷◌, ◌++◌}
use mathlib.Core.Option.{Option, none, some}
use native.Mathlib.Omega.{arith}
use native.Mathlib.Numerals.{add-one}
use lib.Dec.{eqb, leb}
use lib.ListN.{length, get_or, take, drop, replicate}
use lib.Seq.{drop-cons}
use borrow.Author.Tests.{le-leb, lt-leb, ne_eqb}
use Rattle.rules.specs.Bytes.{within}
use Rattle.rules.specs.Utf8.{Range, ◌to◌, rows, in_range, due_after, follows, well_formed}
use Rattle.utf8.specs.declared.Due.{Due}
use Rattle.std.specs.Prelude as Std
use Rattle.utf8.specs.Dues.{ranges, due_of, after}

pub in-range : (low high b : ℕ) → low ≤ b → b ≤ high → in_range (low to high) b ≡ true
unfolding in_range within ◌to◌
in-range low high b h k = rw (le-leb low b h, le-leb b high k)

pub under-range : (low high b : ℕ) → b < low → in_range (low to high) b ≡ false
unfolding in_range within ◌to◌
under-range low high b h = rw (lt-leb low b h)

pub over-range : (low high b : ℕ) → high < b → in_range (low to high) b ≡ false
unfolding in_range within ◌to◌
over-range low high b h = go (leb low b)
  where
    go : (t : Bool) → (t && leb b high) ≡ false
    go true = lt-leb b high h
    go false = refl

-- the byte b stands above the first bytes of all these rows
abbrev pub Above : ℕ → List (List Range) → Type 0
Above b [] = Unit
Above b ([] ∷ rest) = Above b rest
Above b ((first ∷ due) ∷ rest) = (first.high < b) × Above b rest

-- or below them
abbrev pub Below : ℕ → List (List Range) → Type 0
Below b [] = Unit
Below b ([] ∷ rest) = Below b rest
Below b ((first ∷ due) ∷ rest) = (b < first.low) × Below b rest

skip : (b : ℕ) (front rest : List (List Range)) → Above b front → due_after b (front ++ rest) ≡ due_after b rest
unfolding due_after ◌to◌
skip b [] rest h = refl
skip b ([] ∷ front) rest h = skip b front rest h
skip b ((first ∷ due) ∷ front) rest h = rw (over-range first.low first.high b h.0, due_after) (skip b front rest h.1)

pub no_row : (b : ℕ) (front rest : List (List Range)) → Above b front → Below b rest → due_after b (front ++ rest) ≡ none
unfolding due_after ◌to◌
no_row b front rest h k = skip b front rest h ∙ go rest k
  where
    go : (rest : List (List Range)) → Below b rest → due_after b rest ≡ none
    go [] k = refl
    go ([] ∷ rest) k = go rest k
    go ((first ∷ due) ∷ rest) k = rw (under-range first.low first.high b k.0, due_after) (go rest k.1)

-- A first byte's row is the one whose range it stands in, past all rows before it
pub row : (b : ℕ) (front : List (List Range)) (low high : ℕ) (due : List Range) (rest : List (List Range))
    → Above b front → low ≤ b → b ≤ high → due_after b (front ++ ((low to high ∷ due) ∷ rest)) ≡ some due
unfolding due_after
row b front low high due rest h l k = skip b front ((low to high ∷ due) ∷ rest) h ∙ rw (in-range low high b l k, due_after)

-- the row of characters of two bytes
pub two_byte_row : (b : ℕ) → 0xC2 ≤ b → b ≤ 0xDF → due_of (Std.Some (record { count = 1; low = 0x80; high = 0xBF })) ≡ due_after b rows
unfolding due_of ranges rows ◌to◌
two_byte_row b l h = sym (row b (take 1 rows) 0xC2 0xDF (ranges 1 0x80 0xBF) (drop 2 rows) (omega arith) l h)

pub rest-ranges : (count : ℕ) → replicate count (0x80 to 0xBF) ≡ ranges count 0x80 0xBF
unfolding ranges
rest-ranges zero = refl
rest-ranges (suc count) = refl

-- what is due after a byte: by its row where nothing was, never where it is out of range, and else one byte less
pub after_none : (count low high b : ℕ) → count ≡ 0 → after (ranges count low high) b ≡ due_after b rows
unfolding after ranges
after_none zero low high b e = refl
after_none (suc count) low high b e = absurd (omega arith)

pub after-under : (count low high b : ℕ) → (count ≡ 0 → ⊥) → b < low → after (ranges count low high) b ≡ none
unfolding after ranges
after-under zero low high b e h = absurd (e refl)
after-under (suc count) low high b e h = rw (under-range low high b h, after)

pub after-over : (count low high b : ℕ) → (count ≡ 0 → ⊥) → high < b → after (ranges count low high) b ≡ none
unfolding after ranges
after-over zero low high b e h = absurd (e refl)
after-over (suc count) low high b e h = rw (over-range low high b h, after)

pub after-in : (count low high b : ℕ) → (count ≡ 0 → ⊥) → low ≤ b → b ≤ high → after (ranges count low high) b ≡ some (ranges (count - 1) 0x80 0xBF)
unfolding after ranges
after-in zero low high b e h k = absurd (e refl)
after-in (suc count) low high b e h k = let s : count ≡ suc count - 1 = omega arith in rw (in-range low high b h k, after) (ap some (rest-ranges count) ∙ ap (λ (n : ℕ). some (ranges n 0x80 0xBF)) s)

-- whether whole characters follow, by what is due
unfoldable pub goes_on : Option (List Range) → List ℕ → Bool
goes_on none bs = false
goes_on (some due) bs = follows due bs

pub after-byte : (due : List Range) (b : ℕ) (bs : List ℕ) → follows due (b ∷ bs) ≡ goes_on (after due b) bs
unfolding follows after goes_on
after-byte [] b bs = go (due_after b rows)
  where
    go : (d : Option (List Range)) → elim d as (λ _. Bool) [ none ↦ false | some due ↦ follows due bs ] ≡ goes_on d bs
    go none = refl
    go (some due) = refl
after-byte (r ∷ due) b bs = go (in_range r b)
  where
    go : (t : Bool) → (t && follows due bs) ≡ goes_on (elim t as (λ _. Option (List Range)) [ true ↦ some due | false ↦ none ]) bs
    go true = refl
    go false = refl

-- a turn of goes_by_rows: d is what is due after the byte at i
module _ (text : List ℕ) (i count low high : ℕ) (d : Std.Option Due) (h : i < length text) (e : due_of d ≡ after (ranges count low high) (get_or text i 0)) where
  turn : goes_on (due_of d) (drop (i + 1) text) ≡ follows (ranges count low high) (drop i text)
  turn = rw (add-one, drop-cons text i 0 h, after-byte (ranges count low high) (get_or text i 0) (drop (suc i) text), e)

  pub turn-never : d ≡ Std.None → false ≡ follows (ranges count low high) (drop i text)
  unfolding goes_on due_of
  turn-never m = rw m at turn

  pub turn-bytes : (x : Due) → d ≡ Std.Some x → follows (ranges x.count x.low x.high) (drop (i + 1) text) ≡ follows (ranges count low high) (drop i text)
  unfolding goes_on due_of
  turn-bytes x m = rw m at turn

-- at the end of the text nothing may be due
pub at-end : (count low high : ℕ) → eqb count 0 ≡ follows (ranges count low high) []
unfolding follows ranges
at-end zero low high = refl
at-end (suc count) low high = ne_eqb (suc count) 0 (λ e. omega arith)

pub at-start : (text : List ℕ) (low high : ℕ) → follows (ranges 0 low high) text ≡ well_formed text
unfolding well_formed ranges
at-start text low high = refl
