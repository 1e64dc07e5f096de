-- Laws of values: a value is one; every name has a value exactly where a numbering exists. Assumes nothing.
use Prim.Native.Nat.{ℕ, zero, suc, ◌<◌, ◌+◌}
use mathlib.Core.Path.{◌≡◌, refl, ap, ap₂}
use mathlib.Core.Logic.{◌↔◌}
use mathlib.Core.List.{List, [], ◌∷◌, ◌++◌}
use mathlib.Core.Option.{Option, none}
use native.Mathlib.Decide.{dec_lt}
use native.Mathlib.Omega.{arith}
use lib.ListN.{length, get_or}
use Rattle.rules.specs.Tokens.{Token}
use Rattle.rules.specs.Variables.{Piece}
use Rattle.rules.proofs.Ranks.{Joined, nil, HasValue, Numbered, Refers, here, there, Upto}

module _ (rules : List (List Piece)) where
  pub joined-one : {ps : List Piece} {v w : List ℕ} → Joined rules ps v → Joined rules ps w → v ≡ w
  joined-one nil nil = refl
  joined-one (Joined.text {s} d) (Joined.text d') = ap (λ (x : List ℕ). s ++ x) (joined-one d d')
  joined-one (Joined.ref h d f) (Joined.ref h' d' f') = ap₂ (λ (x y : List ℕ). x ++ y) (joined-one d d') (joined-one f f')

  pub upto-joined : {ps : List Piece} {v w : List ℕ} {e : Option Token} → Joined rules ps v → Upto rules ps w e → (w ≡ v) × (e ≡ none)
  upto-joined nil Upto.whole = (refl, refl)
  upto-joined (Joined.text {s} d) (Upto.text u) = (ap (λ (x : List ℕ). s ++ x) (upto-joined d u).0, (upto-joined d u).1)
  upto-joined (Joined.ref h d f) (Upto.ref x u) = (ap₂ (λ (x y : List ℕ). x ++ y) (joined-one x.1 d) (upto-joined f u).0, (upto-joined f u).1)
  upto-joined (Joined.ref {u} h d f) (Upto.stop none') = absurd (none' (u, (h, d)))

  -- how much goes into a value: more than into each value that it brings in
  pub height : {ps : List Piece} {v : List ℕ} → Joined rules ps v → ℕ
  height nil = 0
  height (Joined.text d) = height d
  height (Joined.ref h d f) = suc (height d + height f)

  pub height-one : {ps : List Piece} {v w : List ℕ} (d : Joined rules ps v) (d' : Joined rules ps w) → height d ≡ height d'
  unfolding height
  height-one nil nil = refl
  height-one (Joined.text d) (Joined.text d') = height-one d d'
  height-one (Joined.ref h d f) (Joined.ref h' d' f') = ap₂ (λ (x y : ℕ). suc (x + y)) (height-one d d') (height-one f f')

  pub lower : {ps : List Piece} {v : List ℕ} {k : ℕ} (d : Joined rules ps v) → Refers ps k
      → (k < length rules) × ((u : List ℕ) × (d' : Joined rules (get_or rules k []) u) × (height d' < height d))
  unfolding height
  lower {k = k} nil m = elim m [ ]
  lower (Joined.text d) (there m) = lower d m
  lower (Joined.ref {u} h d f) here = (h, (u, d, omega arith))
  lower (Joined.ref h d f) (there m) =
      let r = lower f m in
      (r.0, (r.1.0, r.1.1, omega (arith, r.1.2)))

  number : ((j : ℕ) → j < length rules → HasValue rules j) → ℕ → ℕ
  number all j = elim (dec_lt j (length rules)) [ yes h ↦ height (all j h).1.1 | no h ↦ 0 ]

  number_is : (all : (j : ℕ) → j < length rules → HasValue rules j) (j : ℕ) → j < length rules → {v : List ℕ} (d : Joined rules (get_or rules j []) v) → number all j ≡ height d
  unfolding number
  number_is all j h d =
      elim (dec_lt j (length rules)) as (λ x. (elim x as (λ _. ℕ) [ yes h ↦ height (all j h).1.1 | no h ↦ 0 ]) ≡ height d) [
        | yes h' ↦ height-one _ d
        | no h' ↦ absurd (h' h)
      ]

  numbering : (all : (j : ℕ) → j < length rules → HasValue rules j) → Numbered rules (number all)
  numbering all j h k m =
      let d = (all j h).1.1 in
      let r = lower d m in
      (r.0, omega (arith, r.1.2, number_is all j h d, number_is all k r.0 r.1.1))

  pub join : (ps : List Piece) → ((k : ℕ) → Refers ps k → HasValue rules k) → (v : List ℕ) × Joined rules ps v
  join [] f = ([], nil)
  join (Piece.text s ∷ ps) f = let r = join ps (λ k m. f k (there m)) in (s ++ r.0, Joined.text r.1)
  join (Piece.ref n k ∷ ps) f =
      let r = join ps (λ k m. f k (there m)) in
      let u = f k here in
      (u.0 ++ r.0, Joined.ref u.1.0 u.1.1 r.1)

  below : (num : ℕ → ℕ) → Numbered rules num → (b j : ℕ) → num j < b → j < length rules → HasValue rules j
  below num good zero j h lt = absurd (omega arith)
  below num good (suc b) j h lt =
      let r = join (get_or rules j []) (λ k m. below num good b k (omega (arith, (good j lt k m).1)) (good j lt k m).0) in
      (r.0, (lt, r.1))

  -- every assigned name has a value exactly where a numbering exists
  pub numbered-iff : ((num : ℕ → ℕ) × Numbered rules num) ↔ ((j : ℕ) → j < length rules → HasValue rules j)
  numbered-iff = (λ g j h. below g.0 g.1 (suc (g.0 j)) j (omega arith) h, λ all. (number all, numbering all))
