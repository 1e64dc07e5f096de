-- Laws of `resolve`, by place: which names have values, and which answer is given. Assumes nothing.
use Prim.Native.Nat.{ℕ, zero, suc, ◌<◌, ◌≤◌}
use mathlib.Core.Path.{◌≡◌, refl, ap, ap₂, ◌∙◌}
use mathlib.Core.Logic.{◌↔◌, inl, inr}
use mathlib.Core.List.{List, [], ◌∷◌, ◌++◌, map}
use mathlib.Core.Option.{Option, none, some}
use native.Mathlib.Decide.{dec_lt}
use native.Mathlib.Omega.{arith}
use lib.ListN.{length, get_or, length-append, length-map, get_or-eq_default}
use Rattle.rules.specs.Tokens.{Token}
use Rattle.rules.specs.Variables.{Piece, Found, found_at, Resolved, too_large_at, lacks, resolved, left, resolve}
use Rattle.rules.proofs.Ranks.{Joined, Value, HasValue, Numbered, Upto, TooLargeAt, TooLarge, LacksAt, HasAll, Says}
use Rattle.rules.proofs.RanksLaws.{joined-one, numbered-iff}
use Rattle.rules.proofs.ExpandLaws.{total, stop_at, total-some, total-none, stop_at-some, stop_at-none}
use Rattle.rules.proofs.PassesLaws.{Front, Large, Settled, Ends, Left, resolve-ends, complete, upto, upto-one, not-large, left_is, none-some}

-- Whether a name has a value does not turn on the texts, and with all texts empty nothing is too large: so the passes decide it.
data Bare : List Piece → List Piece → Type 0 where
  nil : Bare [] []
  text : {s : List ℕ} {ps qs : List Piece} → Bare ps qs → Bare (Piece.text s ∷ ps) (Piece.text [] ∷ qs)
  ref : {n : Token} {j : ℕ} {ps qs : List Piece} → Bare ps qs → Bare (Piece.ref n j ∷ ps) (Piece.ref n j ∷ qs)

bare : List Piece → List Piece
bare [] = []
bare (Piece.text s ∷ ps) = Piece.text [] ∷ bare ps
bare (Piece.ref n j ∷ ps) = Piece.ref n j ∷ bare ps

bare-is : (ps : List Piece) → Bare ps (bare ps)
unfolding bare
bare-is [] = nil
bare-is (Piece.text s ∷ ps) = Bare.text (bare-is ps)
bare-is (Piece.ref n j ∷ ps) = Bare.ref (bare-is ps)

bare-at : (rules : List (List Piece)) (j : ℕ) → Bare (get_or rules j []) (get_or (map bare rules) j [])
bare-at [] j = nil
bare-at (ps ∷ rules) zero = bare-is ps
bare-at (ps ∷ rules) (suc j) = bare-at rules j

module _ (rules : List (List Piece)) where
  to-bare : {ps qs : List Piece} {v : List ℕ} → Joined rules ps v → Bare ps qs → Joined (map bare rules) qs []
  to-bare Joined.nil Bare.nil = Joined.nil
  to-bare (Joined.text d) (Bare.text b) = Joined.text (to-bare d b)
  to-bare (Joined.ref {j} h d f) (Bare.ref b) = Joined.ref {j = j} (rw length-map h) (to-bare d (bare-at rules j)) (to-bare f b)

  from-bare : {ps qs : List Piece} {v : List ℕ} → Joined (map bare rules) qs v → Bare ps qs → (w : List ℕ) × Joined rules ps w
  from-bare Joined.nil Bare.nil = ([], Joined.nil)
  from-bare (Joined.text d) (Bare.text {s} {ps = ps} b) = let x = from-bare {ps = ps} d b in (s ++ x.0, Joined.text x.1)
  from-bare (Joined.ref {j} h d f) (Bare.ref {ps = ps} b) =
      let x = from-bare {ps = get_or rules j []} d (bare-at rules j) in
      let y = from-bare {ps = ps} f b in
      (x.0 ++ y.0, Joined.ref (rw length-map at h) x.1 y.1)

  -- with no texts nothing is too large
  front-bare : {ps qs : List Piece} {v : List ℕ} → Bare ps qs → Front (map bare rules) qs v → v ≡ []
  front-bare b Front.stop = refl
  front-bare (Bare.text b) (Front.text f) = front-bare b f
  front-bare (Bare.ref b) (Front.ref {j} x f) =
      let w = to-bare (from-bare x.1 (bare-at rules j)).1 (bare-at rules j) in
      ap₂ (λ (x y : List ℕ). x ++ y) (joined-one (map bare rules) x.1 w) (front-bare b f)

  not-bare : (k : ℕ) → Large (map bare rules) k → ⊥
  not-bare k x = omega (arith, x.1.2, ap length (front-bare (bare-at rules k) x.1.1))

  pub has-value? : (j : ℕ) → Dec (HasValue rules j)
  has-value? j = go (resolve-ends (map bare rules))
    where
      go : Ends (map bare rules) (resolve (map bare rules)) → Dec (HasValue rules j)
      go (inl x) = absurd (not-bare x.0 x.2)
      go (inr x) = at (found_at x.0 j) refl
        where
          at : (o : Option (List ℕ)) → found_at x.0 j ≡ o → Dec (HasValue rules j)
          at (some v) q = let y = (x.1.sound j v q).0 in let w = from-bare y.1 (bare-at rules j) in yes (w.0, (rw length-map at y.0, w.1))
          at none q = no (λ h. none-some q (complete (map bare rules) x.0 x.1 j [] (rw length-map h.1.0, to-bare h.1.1 (bare-at rules j))))

  upto-of : (ps : List Piece) → (v : List ℕ) × (e : Option Token) × Upto rules ps v e
  upto-of [] = ([], none, Upto.whole)
  upto-of (Piece.text s ∷ ps) = let x = upto-of ps in (s ++ x.0, x.1, Upto.text x.2)
  upto-of (Piece.ref n j ∷ ps) =
      let x = upto-of ps in
      elim (has-value? j) [ yes y ↦ (y.0 ++ x.0, x.1, Upto.ref y.1 x.2) | no y ↦ ([], some n, Upto.stop y) ]

  front-le : {ps : List Piece} {v w : List ℕ} {e : Option Token} → Front rules ps v → Upto rules ps w e → length v ≤ length w
  front-le Front.stop u = omega arith
  front-le (Front.text {s} f) (Upto.text u) = simp length-append (omega (arith, front-le f u))
  front-le (Front.ref x f) (Upto.ref y u) = simp length-append (omega (arith, front-le f u, ap length (joined-one rules x.1 y.1)))
  front-le (Front.ref {u} x f) (Upto.stop z) = absurd (z (u, x))

  large : (k : ℕ) → Large rules k → TooLargeAt rules k
  large k x =
      let u = upto-of (get_or rules k []) in
      (x.0, (u.0, u.1, u.2, omega (arith, x.1.2, front-le x.1.1 u.2)))

  says-left : (vals : Found) (ends : Settled rules vals) (r : Resolved) → Left rules vals ends 0 r → Says rules r
  says-left vals ends (too_large_at k) x = absurd x
  says-left vals ends (lacks k n) x = (
    not-large rules vals ends,
    record {
      assigned = x.0;
      without = λ y. none-some x.1 (complete rules vals ends k y.0 y.1);
      smallest = λ i h. let y = x.3 i (omega arith) h in (y.0, (ends.sound i y.0 y.1).0);
      first = (total vals (get_or rules k []), rw x.2 at (upto rules vals ends (get_or rules k [])));
    },
  )
  says-left vals ends (resolved after) x = (
    not-large rules vals ends,
    record {
      size = rw x.0 ends.size;
      each = λ j h. let y = x.1 j (omega arith) h in (y.0, (ends.sound j y.0 y.1).0, rw x.0 y.1);
    },
  )

  pub resolve-says : Says rules (resolve rules)
  resolve-says = go (resolve-ends rules)
    where
      go : Ends rules (resolve rules) → Says rules (resolve rules)
      go (inl x) = rw x.1 (large x.0 x.2)
      go (inr x) = rw x.2 (says-left x.0 x.1 (left 0 rules x.0) (left_is rules x.0 x.1 rules 0 refl))

  -- the smallest name without a value, and its first reference without one, are one
  same_place : {j i : ℕ} {n m : Token} → LacksAt rules j n → LacksAt rules i m → j ≡ i
  same_place {j} {i} x y = elim (dec_lt j i) [
    | yes h ↦ absurd (x.without (y.smallest j h))
    | no h ↦ elim (dec_lt i j) [ yes k ↦ absurd (y.without (x.smallest i k)) | no k ↦ omega arith ]
  ]

  lacks-one : {j i : ℕ} {n m : Token} → LacksAt rules j n → LacksAt rules i m → lacks j n ≡ lacks i m
  lacks-one {j} {i} {n} {m} x y =
      let p : j ≡ i = same_place x y in
      let q : ◌≡◌ {A = Option Token} (some n) (some m) = (upto-one rules (rw p at x.first.1) y.first.1).1 in
      cc

  -- 16 is given exactly when some assigned name's value, taken up to its first reference without a value, is too large
  pub too-large-iff : ((j : ℕ) × (resolve rules ≡ too_large_at j)) ↔ TooLarge rules
  too-large-iff = (λ x. (x.0, rw x.1 at resolve-says), λ x. go x (resolve rules) refl resolve-says)
    where
      go : TooLarge rules → (r : Resolved) → resolve rules ≡ r → Says rules r → (j : ℕ) × (resolve rules ≡ too_large_at j)
      go x (too_large_at j) q s = (j, q)
      go x (lacks j n) q s = absurd (s.0 x)
      go x (resolved vals) q s = absurd (s.0 x)

  -- otherwise the variables resolve exactly when every assigned name has a value
  pub resolved-iff : ((vals : Found) × (resolve rules ≡ resolved vals)) ↔ ((TooLarge rules → ⊥) × ((j : ℕ) → j < length rules → HasValue rules j))
  resolved-iff = (
    λ x. let s : Says rules (resolved x.0) = rw x.1 at resolve-says in (s.0, λ j h. let y = s.1.each j h in (y.0, y.1)),
    λ x. go x.0 x.1 (resolve rules) refl resolve-says,
  )
    where
      go : (TooLarge rules → ⊥) → ((j : ℕ) → j < length rules → HasValue rules j) → (r : Resolved) → resolve rules ≡ r → Says rules r → (vals : Found) × (resolve rules ≡ resolved vals)
      go x y (too_large_at j) q s = absurd (x (j, s))
      go x y (lacks j n) q s = absurd (s.1.without (y j s.1.assigned))
      go x y (resolved vals) q s = (vals, q)

  -- that is, exactly when the assigned names can be numbered
  pub numbered : ((vals : Found) × (resolve rules ≡ resolved vals)) ↔ ((TooLarge rules → ⊥) × ((num : ℕ → ℕ) × Numbered rules num))
  numbered = (
    λ x. let y = resolved-iff.0 x in (y.0, (numbered-iff rules).1 y.1),
    λ x. resolved-iff.1 (x.0, (numbered-iff rules).0 x.1),
  )

  -- and otherwise 15 is given, for the smallest name without a value with its first reference without one
  pub lacks-iff : (j : ℕ) (n : Token) → (resolve rules ≡ lacks j n) ↔ ((TooLarge rules → ⊥) × LacksAt rules j n)
  lacks-iff j n = (λ x. rw x at resolve-says, λ x. go x.0 x.1 (resolve rules) refl resolve-says)
    where
      go : (TooLarge rules → ⊥) → LacksAt rules j n → (r : Resolved) → resolve rules ≡ r → Says rules r → resolve rules ≡ lacks j n
      go x y (too_large_at i) q s = absurd (x (i, s))
      go x y (lacks i m) q s = q ∙ lacks-one s.1 y
      go x y (resolved vals) q s = absurd (y.without (let z = s.1.each j y.assigned in (z.0, z.1)))

  -- with every value found, `total` and `stop_at` say how far the parts go
  pub all-value : (vals : Found) → HasAll rules vals → (j : ℕ) (u : List ℕ) → found_at vals j ≡ some u → Value rules j u
  all-value vals all j u q = elim (dec_lt j (length rules)) [
    | yes h ↦ (let x = all.each j h in let p : x.0 ≡ u = cc (x.2, q) in rw p at x.1)
    | no h ↦ absurd (none-some (get_or-eq_default vals none (omega (arith, all.size))) q)
  ]

  pub upto_all : (vals : Found) → HasAll rules vals → (ps : List Piece) → Upto rules ps (total vals ps) (stop_at vals ps)
  unfolding total stop_at
  upto_all vals all [] = Upto.whole
  upto_all vals all (Piece.text s ∷ ps) = Upto.text (upto_all vals all ps)
  upto_all vals all (Piece.ref n j ∷ ps) = go (found_at vals j) refl (upto_all vals all ps)
    where
      go : (o : Option (List ℕ)) → found_at vals j ≡ o → Upto rules ps (total vals ps) (stop_at vals ps)
          → Upto rules (Piece.ref n j ∷ ps) (total vals (Piece.ref n j ∷ ps)) (stop_at vals (Piece.ref n j ∷ ps))
      go none q u =
          rw (total-none vals n j ps q, stop_at-none vals n j ps q)
          (Upto.stop (λ x. none-some q (all.each j x.1.0).2))
      go (some v) q u = rw (total-some vals n j ps v q, stop_at-some vals n j ps v q) (Upto.ref (all-value vals all j v q) u)
