-- Laws of code points: what a first byte and the bytes due after it give. Assumes nothing.
use Prim.Native.Nat.{ℕ, zero, suc, ◌+◌, ◌*◌, ◌-◌, ◌≤◌, ◌<◌}
use mathlib.Core.Path.{◌≡◌, refl, sym, ◌∙◌, ap}
use mathlib.Core.Bool.{Bool, true, false}
use mathlib.Core.List.{List, [], ◌∷◌}
use mathlib.Core.Option.{none, some}
use native.Mathlib.Omega.{arith}
use native.Mathlib.Numerals.{add-one}
use lib.ListN.{length, get_or, take, drop, length-replicate, get_or-eq_default}
use lib.Seq.{drop-cons}
use Rattle.rules.specs.Bytes.{within}
use Rattle.rules.specs.Utf8.{Range, ◌to◌, rows, in_range, due_after, leading, trailing, code_point}
use Rattle.utf8.specs.declared.Due.{Due}
use Rattle.std.specs.Prelude as Std
use Rattle.utf8.specs.Dues.{ranges, due_of}
use Rattle.utf8.proofs.Rows.{rest-ranges}

-- only the number of bytes due counts, not their ranges
leading-same : (count low high b : ℕ) → leading (ranges count low high) b ≡ leading (ranges count 0x80 0xBF) b
unfolding leading ranges
leading-same zero low high b = refl
leading-same (suc zero) low high b = refl
leading-same (suc (suc zero)) low high b = refl
leading-same (suc (suc (suc count))) low high b = refl

trailing-same : (count low high c : ℕ) (bs : List ℕ) → trailing (ranges count low high) c bs ≡ trailing (ranges count 0x80 0xBF) c bs
unfolding trailing ranges
trailing-same zero low high c bs = refl
trailing-same (suc count) low high c [] = refl
trailing-same (suc count) low high c (b ∷ bs) = refl

-- from three bytes on the first byte gives its last three bits
pub leading-more : (count b : ℕ) → 3 ≤ count → leading (ranges count 0x80 0xBF) b ≡ b - 0xF0
unfolding leading ranges
leading-more zero b e = absurd (omega arith)
leading-more (suc zero) b e = absurd (omega arith)
leading-more (suc (suc zero)) b e = absurd (omega arith)
leading-more (suc (suc (suc count))) b e = refl

leading-less : (due : List Range) (b : ℕ) → leading due b ≤ b
unfolding leading
leading-less [] b = omega arith
leading-less (r ∷ []) b = omega arith
leading-less (r ∷ s ∷ []) b = omega arith
leading-less (r ∷ s ∷ t ∷ due) b = omega arith

pub leading-small : (due : List Range) (b n : ℕ) → n ≡ leading due b → b < 256 → n ≤ 255
leading-small due b n e h = omega (arith, leading-less due b)

-- how large the number is at most while so many bytes are due
unfoldable pub limit : ℕ → ℕ
limit zero = 67375167
limit (suc zero) = 1052735
limit (suc (suc zero)) = 16447
limit (suc (suc (suc left))) = 255

pub limit-start : (left n : ℕ) → n ≤ 255 → n ≤ limit left
unfolding limit
limit-start zero n h = omega arith
limit-start (suc zero) n h = omega arith
limit-start (suc (suc zero)) n h = omega arith
limit-start (suc (suc (suc left))) n h = omega arith

pub limit-fits : (left n : ℕ) → 0 < left → n ≤ limit left → n ≤ 1052735
unfolding limit
limit-fits zero n p h = absurd (omega arith)
limit-fits (suc zero) n p h = omega arith
limit-fits (suc (suc zero)) n p h = omega arith
limit-fits (suc (suc (suc left))) n p h = omega arith

pub limit-more : (left n b : ℕ) → 0 < left → left ≤ 3 → b < 256 → n ≤ limit left → n * 0x40 + (b - 0x80) ≤ limit (left - 1)
unfolding limit
limit-more zero n b p q r h = absurd (omega arith)
limit-more (suc zero) n b p q r h = omega arith
limit-more (suc (suc zero)) n b p q r h = omega arith
limit-more (suc (suc (suc zero))) n b p q r h = omega arith
limit-more (suc (suc (suc (suc left)))) n b p q r h = absurd (omega arith)

-- a turn of more_bits, and its ends
pub bits-more : (text : List ℕ) (i left n : ℕ) → 0 < left → i < length text
    → trailing (ranges (left - 1) 0x80 0xBF) (n * 0x40 + (get_or text i 0 - 0x80)) (drop (i + 1) text) ≡ trailing (ranges left 0x80 0xBF) n (drop i text)
unfolding trailing ranges
bits-more text i zero n p h = absurd (omega arith)
bits-more text i (suc left) n p h =
    let e : suc left - 1 ≡ left = omega arith in
    rw (add-one, drop-cons text i 0 h, e) (ap (λ (due : List Range). trailing due (n * 0x40 + (get_or text i 0 - 0x80)) (drop (suc i) text)) (sym (rest-ranges left)))

pub bits_none : (left n : ℕ) (bs : List ℕ) → left ≡ 0 → trailing (ranges left 0x80 0xBF) n bs ≡ n
unfolding trailing ranges
bits_none zero n bs e = refl
bits_none (suc left) n bs e = absurd (omega arith)

-- bytes past those due add nothing, and where the text ends there are fewer
pub bits_part : (k n : ℕ) (bs : List ℕ) → trailing (ranges (length (take k bs)) 0x80 0xBF) n (take k bs) ≡ trailing (ranges k 0x80 0xBF) n bs
unfolding trailing ranges
bits_part zero n bs = refl
bits_part (suc k) n [] = refl
bits_part (suc k) n (b ∷ bs) =
    ap (λ (due : List Range). trailing due (n * 0x40 + (b - 0x80)) (take k bs)) (rest-ranges (length (take k bs))) ∙ bits_part k (n * 0x40 + (b - 0x80)) bs
    ∙ sym (ap (λ (due : List Range). trailing due (n * 0x40 + (b - 0x80)) bs) (rest-ranges k))

-- no row has more than three bytes due
abbrev Short : List (List Range) → Type 0
Short [] = Unit
Short ([] ∷ rest) = Short rest
Short ((first ∷ due) ∷ rest) = (length due ≤ 3) × Short rest

short : (b : ℕ) (table : List (List Range)) (due : List Range) → Short table → due_after b table ≡ some due → length due ≤ 3
unfolding due_after
short b [] due h e = let z : ◌≡◌ {A = ℕ} 0 1 = cc in absurd (omega arith)
short b ([] ∷ rest) due h e = short b rest due h e
short b ((first ∷ d) ∷ rest) due h e = go (in_range first b) refl (λ k. short b rest due h.1 k)
  where
    go : (t : Bool) → in_range first b ≡ t → (due_after b rest ≡ some due → length due ≤ 3) → length due ≤ 3
    go true f ih = let s : some d ≡ some due = rw (f, due_after) at e in let z : d ≡ due = cc in omega (arith, h.0, ap length z)
    go false f ih = ih (rw (f, due_after) at e)

ranges-length : (count low high : ℕ) → length (ranges count low high) ≡ count
unfolding ranges
ranges-length zero low high = refl
ranges-length (suc count) low high = ap suc (length-replicate count (0x80 to 0xBF))

-- what a byte's row d says
module _ (b : ℕ) (d : Std.Option Due) (e : due_of d ≡ due_after b rows) where
  pub few : (x : Due) → d ≡ Std.Some x → x.count ≤ 3
  unfolding due_of rows
  few x m =
      let due = ranges x.count x.low x.high in
      let s : due_after b rows ≡ some due = sym e ∙ ap due_of m in
      omega (arith, short b rows due (omega arith) s, ranges-length x.count x.low x.high)

  pub point-never : (bs : List ℕ) → d ≡ Std.None → b ≡ code_point b bs
  unfolding due_of code_point
  point-never bs m = let s : due_after b rows ≡ none = sym e ∙ ap due_of m in rw (s, code_point)

  pub point-bytes : (bs : List ℕ) (x : Due) → d ≡ Std.Some x
      → trailing (ranges x.count 0x80 0xBF) (leading (ranges x.count 0x80 0xBF) b) bs ≡ code_point b bs
  unfolding due_of code_point
  point-bytes bs x m =
      let s : due_after b rows ≡ some (ranges x.count x.low x.high) = sym e ∙ ap due_of m in
      rw (s, code_point)
      (sym (trailing-same x.count x.low x.high (leading (ranges x.count x.low x.high) b) bs ∙ ap (λ (c : ℕ). trailing (ranges x.count 0x80 0xBF) c bs) (leading-same x.count x.low x.high b)))

pub point-past : (text : List ℕ) (i : ℕ) → length text ≤ i → 0 ≡ code_point (get_or text i 0) (drop (i + 1) text)
unfolding code_point due_after rows ◌to◌ in_range within trailing leading
point-past text i h = rw (get_or-eq_default text 0 h)
