-- Laws of measuring: its turns, and how large a need can be. Assumes nothing.
use Prim.Native.Nat.{ℕ, zero, suc, ◌+◌, ◌*◌, ◌-◌, ◌≤◌, ◌<◌}
use mathlib.Core.Path.{◌≡◌, refl, sym, ◌∙◌, ap}
use mathlib.Core.Bool.{Bool, true, false}
use mathlib.Core.List.{List}
use native.Mathlib.Decide.{dec_lt}
use native.Mathlib.Omega.{arith}
use lib.ListN.{get_or, take, drop}
use borrow.Author.Tests.{le-leb, lt-leb}
use Rattle.rules.specs.Bytes.{pick}
use Rattle.rules.specs.Lines.{is_string}
use Rattle.scan.proofs.Lists.{cell_in, cell-past}
use Rattle.rules.specs.Tokens.{Token}
use Rattle.passes.specs.Sums.{top, size_in, Advance, advance}
use Rattle.passes.specs.declared.sums.Stop.{Stop as Refusal}
use Rattle.passes.specs.declared.sums.Stop.TheVariants.{Over, Missing}
use Rattle.passes.proofs.Advances.{advances}
use Rattle.records.specs.Measuring.{Measured, on_sum, on_need, sum_of_row, measure_rows, measure_entry, measure_fields}
use Rattle.std.specs.Prelude.{Option, None, Some, SomeIff, Ok, Err}
use Rattle.records.specs.declared.measure.Stop.{Stop}
use Rattle.records.specs.declared.measure.Stop.TheVariants.{Undefined, TooLarge}

-- a column's cell is one of the list's entries, or 0
pub cell-small : (ws : List ℕ) (base n k : ℕ) → ((i : ℕ) → get_or ws i 0 < 4294967296) → get_or (take n (drop base ws)) k 0 < 4294967296
cell-small ws base n k h = elim (dec_lt k n) [
  | yes l ↦ omega (arith, cell_in ws base n k l, h (base + k))
  | no l ↦ omega (arith, sym (cell-past ws base n k (omega arith)))
]

-- no sum is above the limit
pub sum-small : (ts : List Token) (ranks lens : List ℕ) (from to x : ℕ) → Ok x ≡ advance (size_in ts ranks lens) from 0 (to - from) → x ≤ top
sum-small ts ranks lens from to x e = (rw (← e) at (advances ts ranks lens to from 0 (omega arith))).0

-- one sum
module _ (f : ℕ) where
  pub one-over : (r a : Advance) (s : Refusal) → r ≡ Err s → s ≡ Over → r ≡ a → Err (TooLarge f) ≡ on_sum f a (λ x. Ok x)
  unfolding on_sum
  one-over r a s p q e = ap (λ (b : Advance). on_sum f b (λ x. Ok x)) (ap (λ (x : Refusal). Err x) (sym q) ∙ sym p ∙ e)

  pub one-missing : (r a : Advance) (s : Refusal) (j t : ℕ) → r ≡ Err s → s ≡ Missing j t → r ≡ a → Err (Undefined f j) ≡ on_sum f a (λ x. Ok x)
  unfolding on_sum
  one-missing r a s j t p q e = ap (λ (b : Advance). on_sum f b (λ x. Ok x)) (ap (λ (x : Refusal). Err x) (sym q) ∙ sym p ∙ e)

  pub one-sum : (r a : Advance) (x : ℕ) → r ≡ Ok x → r ≡ a → Ok x ≡ on_sum f a (λ y. Ok y)
  unfolding on_sum
  one-sum r a x p e = ap (λ (b : Advance). on_sum f b (λ y. Ok y)) (sym p ∙ e)

  -- what it says of the sum, and of what goes on with it
  pub one-ok : (a : Advance) (m : Measured) (x : ℕ) → m ≡ on_sum f a (λ y. Ok y) → m ≡ Ok x → Ok x ≡ a
  unfolding on_sum
  one-ok (Err Over) m x p q = absurd (let y : Err (TooLarge f) ≡ Ok x = sym p ∙ q in let z : ◌≡◌ {A = ℕ} 0 1 = cc in omega arith)
  one-ok (Err (Missing j s)) m x p q = absurd (let y : Err (Undefined f j) ≡ Ok x = sym p ∙ q in let z : ◌≡◌ {A = ℕ} 0 1 = cc in omega arith)
  one-ok (Ok y) m x p q = let e : Ok y ≡ Ok x = sym p ∙ q in let z : y ≡ x = cc in ap (λ (k : ℕ). Ok k) (sym z)

  pub one-small : (ts : List Token) (ranks lens : List ℕ) (starts ends : List ℕ) (i : ℕ) (m : Measured) (x : ℕ) → m ≡ on_sum f (sum_of_row (size_in ts ranks lens) starts ends i) (λ y. Ok y) → m ≡ Ok x → x ≤ top
  one-small ts ranks lens starts ends i m x p q =
      sum-small ts ranks lens (get_or starts i 0) (get_or ends i 0) x (one-ok (sum_of_row (size_in ts ranks lens) starts ends i) m x p q)

  one-err : (a : Advance) (m : Measured) (e : Stop) → m ≡ on_sum f a (λ y. Ok y) → m ≡ Err e → (go : ℕ → Measured) → on_sum f a go ≡ Err e
  unfolding on_sum
  one-err (Err Over) m e p q go = sym p ∙ q
  one-err (Err (Missing j s)) m e p q go = sym p ∙ q
  one-err (Ok y) m e p q go = absurd (let k : Ok y ≡ Err e = sym p ∙ q in let z : ◌≡◌ {A = ℕ} 0 1 = cc in omega arith)

pub sum-row : (size : ℕ → ℕ) (starts ends : List ℕ) (i from to : ℕ) → from ≡ get_or starts i 0 → to ≡ get_or ends i 0 → (r : Advance) → r ≡ advance size from 0 (to - from)
    → r ≡ sum_of_row size starts ends i
sum-row size starts ends i from to p q r e = e ∙ rw (p, q) refl

module _ (size : ℕ → ℕ) (starts ends : List ℕ) (f : ℕ) where
  -- turns of the loop over rows
  pub rows_start : (need row rows : ℕ) → measure_rows size starts ends f need row (row + rows - row) ≡ measure_rows size starts ends f need row rows
  rows_start need row rows = ap (measure_rows size starts ends f need row) (omega arith)

  module _ (need end i : ℕ) where
    pub rows_end : end ≤ i → measure_rows size starts ends f need i (end - i) ≡ Ok need
    unfolding measure_rows
    rows_end h = let e : end - i ≡ 0 = omega arith in rw e

    module _ (h : i < end) (m : Measured) (me : m ≡ on_sum f (sum_of_row size starts ends i) (λ x. Ok x)) where
      rows-front : measure_rows size starts ends f need i (end - i) ≡ on_sum f (sum_of_row size starts ends i) (λ x. measure_rows size starts ends f (need + (6 + x)) (suc i) (end - suc i))
      unfolding measure_rows
      rows-front = let e : end - i ≡ suc (end - suc i) = omega arith in rw (e, measure_rows) refl

      pub rows-stop : (e : Stop) → m ≡ Err e → measure_rows size starts ends f need i (end - i) ≡ Err e
      rows-stop e q = rows-front ∙ one-err f (sum_of_row size starts ends i) m e me q (λ x. measure_rows size starts ends f (need + (6 + x)) (suc i) (end - suc i))

      pub rows_more : (x : ℕ) → m ≡ Ok x → measure_rows size starts ends f need i (end - i) ≡ measure_rows size starts ends f (need + (6 + x)) (i + 1) (end - (i + 1))
      unfolding on_sum
      rows_more x q = let e : suc i ≡ i + 1 = omega arith in rows-front ∙ rw (← one-ok f (sum_of_row size starts ends i) m x me q, e) refl

  -- a field by its entry, which is its key token + 1
  module _ (need entry : ℕ) (o : Option ℕ) (oe : SomeIff o (1 ≤ entry) (entry - 1)) where
    entry-key : (k : ℕ) → o ≡ Some k → entry ≡ suc k
    entry-key k q = let y = rw q at oe in omega (arith, y.0, y.1)

    pub entry-none : o ≡ None → Ok need ≡ measure_entry size starts ends f need entry
    unfolding measure_entry
    entry-none q = let y = rw q at oe in elim (dec_lt 0 entry) [ yes h ↦ absurd (y (omega arith)) | no h ↦ (let z : entry ≡ 0 = omega arith in rw z refl) ]

    module _ (k : ℕ) (q : o ≡ Some k) where
      pub entry-rows : (from to : ℕ) → from ≡ get_or starts k 0 → to ≡ get_or ends k 0 → 8 ≤ f → measure_rows size starts ends f (need + 10) from to ≡ measure_entry size starts ends f need entry
      unfolding measure_entry is_string pick
      entry-rows from to fe te h = rw (entry-key k q, measure_entry, lt-leb f 7 (omega arith), fe, te) refl

      module _ (h : f < 8) (m : Measured) (me : m ≡ on_sum f (sum_of_row size starts ends k) (λ x. Ok x)) where
        is-string : measure_entry size starts ends f need entry ≡ on_sum f (sum_of_row size starts ends k) (λ x. Ok (need + (6 + x)))
        unfolding measure_entry is_string pick
        is-string = rw (entry-key k q, measure_entry, le-leb f 7 (omega arith)) refl

        pub entry-stop : (e : Stop) → m ≡ Err e → Err e ≡ measure_entry size starts ends f need entry
        entry-stop e p = sym (is-string ∙ one-err f (sum_of_row size starts ends k) m e me p (λ x. Ok (need + (6 + x))))

        pub entry-sum : (x : ℕ) → m ≡ Ok x → Ok (need + (6 + x)) ≡ measure_entry size starts ends f need entry
        unfolding on_sum
        entry-sum x p = sym (is-string ∙ rw (← one-ok f (sum_of_row size starts ends k) m x me p) refl)

-- turns of the loop over fields
module _ (size : ℕ → ℕ) (starts ends entries : List ℕ) (need f : ℕ) where
  pub fields-end : 10 < f → measure_fields size starts ends entries need f (11 - f) ≡ Ok need
  unfolding measure_fields
  fields-end h = let e : 11 - f ≡ 0 = omega arith in rw e

  module _ (h : f ≤ 10) (m : Measured) (me : m ≡ measure_entry size starts ends f need (get_or entries f 0)) where
    fields-front : measure_fields size starts ends entries need f (11 - f) ≡ on_need m (λ x. measure_fields size starts ends entries x (suc f) (11 - suc f))
    unfolding measure_fields
    fields-front = let e : 11 - f ≡ suc (11 - suc f) = omega arith in rw (e, measure_fields, me) refl

    pub fields-more : (x : ℕ) → m ≡ Ok x → measure_fields size starts ends entries need f (11 - f) ≡ measure_fields size starts ends entries x (f + 1) (11 - (f + 1))
    unfolding on_need
    fields-more x q = let e : suc f ≡ f + 1 = omega arith in fields-front ∙ rw (q, e) refl

    pub fields-stop : (e : Stop) → m ≡ Err e → measure_fields size starts ends entries need f (11 - f) ≡ Err e
    unfolding on_need
    fields-stop e q = fields-front ∙ rw q refl

-- a need is far below what 64 bits hold
module _ (size : ℕ → ℕ) (starts ends : List ℕ) (small : (from to x : ℕ) → Ok x ≡ advance size from 0 (to - from) → x ≤ top) (f : ℕ) where
  sum_bound : (i need x y : ℕ) → sum_of_row size starts ends i ≡ Ok y → y ≤ top
  sum_bound i need x y q = small (get_or starts i 0) (get_or ends i 0) y (sym q)

  rows_bound : (m need i x : ℕ) → measure_rows size starts ends f need i m ≡ Ok x → x ≤ need + m * 67108870
  unfolding measure_rows on_sum
  rows_bound zero need i x e = let q : need ≡ x = cc in omega arith
  rows_bound (suc m) need i x e = go (sum_of_row size starts ends i) refl (λ y. rows_bound m (need + (6 + y)) (suc i) x)
    where
      go : (a : Advance) → sum_of_row size starts ends i ≡ a → ((y : ℕ) → measure_rows size starts ends f (need + (6 + y)) (suc i) m ≡ Ok x → x ≤ need + (6 + y) + m * 67108870)
          → x ≤ need + suc m * 67108870
      go (Err Over) q ih = let y : Err (TooLarge f) ≡ Ok x = rw q at e in let z : ◌≡◌ {A = ℕ} 0 1 = cc in absurd (omega arith)
      go (Err (Missing j s)) q ih = let y : Err (Undefined f j) ≡ Ok x = rw q at e in let z : ◌≡◌ {A = ℕ} 0 1 = cc in absurd (omega arith)
      go (Ok y) q ih = omega (arith, ih y (rw q at e), sum_bound i need x y q)

  pub entry-bound : (need entry x : ℕ) → get_or ends (entry - 1) 0 < 4294967296 → measure_entry size starts ends f need entry ≡ Ok x → x ≤ need + 300000000000000000
  unfolding measure_entry on_sum pick
  entry-bound need zero x h e = let q : need ≡ x = cc in omega arith
  entry-bound need (suc k) x h e = go (is_string f) refl
    where
      one : (a : Advance) → sum_of_row size starts ends k ≡ a → is_string f ≡ true → x ≤ need + 300000000000000000
      one (Err Over) q s = let y : Err (TooLarge f) ≡ Ok x = rw (s, q) at e in let z : ◌≡◌ {A = ℕ} 0 1 = cc in absurd (omega arith)
      one (Err (Missing j w)) q s = let y : Err (Undefined f j) ≡ Ok x = rw (s, q) at e in let z : ◌≡◌ {A = ℕ} 0 1 = cc in absurd (omega arith)
      one (Ok y) q s = let p : Ok (need + (6 + y)) ≡ Ok x = rw (s, q) at e in let r : need + (6 + y) ≡ x = cc in omega (arith, sum_bound k need x y q)

      go : (b : Bool) → is_string f ≡ b → x ≤ need + 300000000000000000
      go true s = one (sum_of_row size starts ends k) refl s
      go false s = let q : suc k - 1 ≡ k = omega arith in let l : get_or ends k 0 < 4294967296 = rw q at h in omega (arith, rows_bound (get_or ends k 0) (need + 10) (get_or starts k 0) x (rw s at e))
