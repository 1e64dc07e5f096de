-- A law for writing values with a stack: how deep it goes. Assumes nothing.
use Prim.Native.Nat.{ℕ, zero, suc, ◌<◌, ◌≤◌, ◌+◌}
use mathlib.Core.Path.{◌≡◌, ap}
use mathlib.Core.List.{List}
use native.Mathlib.Decide.{dec_lt}
use native.Mathlib.Omega.{arith}
use lib.ListN.{length}
use Rattle.rules.specs.Variables.{Piece}
use Rattle.rules.proofs.Ranks.{Numbered}

-- A numbering by numbers below the count of names: how many names have a smaller number. The stack's owners have falling numbers, so it is never deeper than that count.
one : {P : Type 0} → Dec P → ℕ
one (yes p) = 1
one (no p) = 0

below : (ℕ → ℕ) → ℕ → ℕ → ℕ
below num zero c = 0
below num (suc m) c = one (dec_lt (num m) c) + below num m c

one-le : {P : Type 0} (d : Dec P) → one d ≤ 1
unfolding one
one-le (yes p) = omega arith
one-le (no p) = omega arith

one_mono : {P Q : Type 0} (d : Dec P) (e : Dec Q) → (P → Q) → one d ≤ one e
unfolding one
one_mono (yes p) (yes q) f = omega arith
one_mono (yes p) (no q) f = absurd (q (f p))
one_mono (no p) e f = omega arith

one-strict : {P Q : Type 0} (d : Dec P) (e : Dec Q) → (P → ⊥) → Q → one d < one e
unfolding one
one-strict (yes p) e f q = absurd (f p)
one-strict (no p) (yes q') f q = omega arith
one-strict (no p) (no q') f q = absurd (q' q)

below-le : (num : ℕ → ℕ) (m c : ℕ) → below num m c ≤ m
unfolding below
below-le num zero c = omega arith
below-le num (suc m) c = omega (arith, below-le num m c, one-le (dec_lt (num m) c))

below_mono : (num : ℕ → ℕ) (m c d : ℕ) → c ≤ d → below num m c ≤ below num m d
unfolding below
below_mono num zero c d h = omega arith
below_mono num (suc m) c d h = omega (arith, below_mono num m c d h, one_mono (dec_lt (num m) c) (dec_lt (num m) d) (λ x. omega arith))

below-strict : (num : ℕ → ℕ) (m k d : ℕ) → k < m → num k < d → below num m (num k) < below num m d
unfolding below
below-strict num zero k d h l = absurd (omega arith)
below-strict num (suc m) k d h l = elim (dec_lt k m) [
  | yes k<m ↦ omega (arith, below-strict num m k d k<m l, one_mono (dec_lt (num m) (num k)) (dec_lt (num m) d) (λ x. omega arith))
  | no k≮m ↦ (
      let p : k ≡ m = omega arith in
      let e : num k ≡ num m = ap num p in
      let x : one (dec_lt (num m) (num k)) < one (dec_lt (num m) d) = one-strict (dec_lt (num m) (num k)) (dec_lt (num m) d) (λ y. omega arith) (omega arith) in
      omega (arith, below_mono num m (num k) d (omega arith)))
]

pub bounded : (rules : List (List Piece)) (num : ℕ → ℕ) → Numbered rules num
    → (rank : ℕ → ℕ) × Numbered rules rank × ((j : ℕ) → j < length rules → rank j < length rules)
bounded rules num f = (
  (λ j. below num (length rules) (num j)),
  (λ j h k r. let x = f j h k r in (x.0, below-strict num (length rules) k (num j) x.0 x.1)),
  λ j h. omega (arith, below-strict num (length rules) j (suc (num j)) h (omega arith), below-le num (length rules) (suc (num j))),
)
