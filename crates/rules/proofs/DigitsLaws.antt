-- Document 02, R-1: digits as numbers of any length. Without leading zeros fewer digits make a smaller number, and as many compare by bytes. Assumes nothing.
use Prim.Native.Nat.{ℕ, suc, ◌+◌, ◌*◌, ◌-◌, ◌<◌, ◌≤◌}
use mathlib.Core.Path.{◌≡◌, refl, ap, sym, ◌∙◌}
use mathlib.Core.Bool.{Bool, true, false}
use mathlib.Core.List.{List, [], ◌∷◌}
use native.Mathlib.Omega.{arith}
use lib.Dec.{eqb, leb}
use lib.ListN.{length, drop}
use borrow.Author.Tests.{leb-true, eqb-true, eqb-false}
use Rattle.rules.specs.Bytes.{within, all, run, is}
use Rattle.rules.specs.Versions.{is_digit, value, compare_numbers, or_else, compare_lists}
use Rattle.rules.proofs.BytesLaws.{and-true}
use Rattle.rules.proofs.VersionsLaws.{Stand, stand, less, even, more, numbers-ordered, lists-ordered, numbers-less, numbers_more, numbers-same}

-- all of them are digits
abbrev pub Digits : List ℕ → Type 0
Digits x = all is_digit x ≡ true

digit-range : (d : ℕ) → is_digit d ≡ true → (48 ≤ d) × (d ≤ 57)
unfolding is_digit within
digit-range d e = let h = and-true (leb 48 d) (leb d 57) e in (leb-true 48 d h.0, leb-true d 57 h.1)

digits-front : (d : ℕ) (ds : List ℕ) → Digits (d ∷ ds) → ((48 ≤ d) × (d ≤ 57)) × Digits ds
unfolding all
digits-front d ds e = let h = and-true (is_digit d) (all is_digit ds) e in (digit-range d h.0, h.1)

-- more before as many digits or more is more
pub value-less : (y x : List ℕ) (m n : ℕ) → Digits x → length x ≤ length y → m < n → value m x < value n y
unfolding value
value-less [] [] m n d l h = h
value-less [] (a ∷ x) m n d l h = absurd (omega arith)
value-less (b ∷ y) [] m n d l h = value-less y [] m (10 * n + (b - 48)) d (omega arith) (omega arith)
value-less (b ∷ y) (a ∷ x) m n d l h = go (leb (suc (length x)) (length y)) refl (λ z m' n' e k i. value-less y z m' n' e k i)
  where
    go : (t : Bool) → leb (suc (length x)) (length y) ≡ t → ((z : List ℕ) (m' n' : ℕ) → Digits z → length z ≤ length y → m' < n' → value m' z < value n' y)
        → value m (a ∷ x) < value n (b ∷ y)
    go true q ih = ih (a ∷ x) m (10 * n + (b - 48)) d (leb-true (suc (length x)) (length y) q) (omega arith)
    go false q ih = let f = digits-front a x d in ih x (10 * m + (a - 48)) (10 * n + (b - 48)) f.1 (omega arith) (omega (arith, f.0.0, f.0.1))

-- as many digits compare as their bytes
pub value-bytes : (x y : List ℕ) (n : ℕ) → Digits x → Digits y → length x ≡ length y → compare_numbers (value n x) (value n y) ≡ compare_lists compare_numbers x y
unfolding value compare_lists or_else
value-bytes [] [] n d e l = numbers-same n n refl
value-bytes [] (b ∷ y) n d e l = absurd (omega arith)
value-bytes (a ∷ x) [] n d e l = absurd (omega arith)
value-bytes (a ∷ x) (b ∷ y) n d e l = go (stand a b) (λ k. value-bytes x y k p.1 q.1 (omega arith))
  where
    p : ((48 ≤ a) × (a ≤ 57)) × Digits x
    p = digits-front a x d

    q : ((48 ≤ b) × (b ≤ 57)) × Digits y
    q = digits-front b y e

    go : Stand a b → ((k : ℕ) → compare_numbers (value k x) (value k y) ≡ compare_lists compare_numbers x y)
        → compare_numbers (value (10 * n + (a - 48)) x) (value (10 * n + (b - 48)) y) ≡ or_else (compare_numbers a b) (compare_lists compare_numbers x y)
    go (less h) ih = rw (numbers-less a b h) (numbers-less (value (10 * n + (a - 48)) x) (value (10 * n + (b - 48)) y) (value-less y x (10 * n + (a - 48)) (10 * n + (b - 48)) p.1 (omega arith) (omega (arith, p.0.0, q.0.0))))
    go (even h) ih = rw (numbers-same a b h, h) (ih (10 * n + (b - 48)))
    go (more h) ih = rw (numbers_more a b h) (numbers_more (value (10 * n + (a - 48)) x) (value (10 * n + (b - 48)) y) (value-less x y (10 * n + (b - 48)) (10 * n + (a - 48)) q.1 (omega arith) (omega (arith, p.0.0, q.0.0))))

-- the digits without leading zeros
abbrev pub bare : List ℕ → List ℕ
bare x = drop (run (is "0") x) x

-- they make the same number, they are digits, and the first of them is no zero
pub bare-value : (x : List ℕ) → value 0 x ≡ value 0 (bare x)
unfolding value run is
bare-value [] = refl
bare-value (d ∷ ds) = go (eqb d 48) refl (bare-value ds)
  where
    go : (t : Bool) → eqb d 48 ≡ t → value 0 ds ≡ value 0 (bare ds) → value 0 (d ∷ ds) ≡ value 0 (bare (d ∷ ds))
    go true q ih = let e : 10 * 0 + (d - 48) ≡ 0 = omega (arith, eqb-true d 48 q) in rw (q, run, e) ih
    go false q ih = rw (q, run)

pub bare-digits : (x : List ℕ) → Digits x → Digits (bare x)
unfolding run is
bare-digits [] e = e
bare-digits (d ∷ ds) e = go (eqb d 48) refl (bare-digits ds (digits-front d ds e).1)
  where
    go : (t : Bool) → eqb d 48 ≡ t → Digits (bare ds) → Digits (bare (d ∷ ds))
    go true q ih = rw (q, run) ih
    go false q ih = rw (q, run) e

bare-first : (x : List ℕ) (d : ℕ) (ds : List ℕ) → bare x ≡ d ∷ ds → d ≡ 48 → ⊥
unfolding run is
bare-first [] d ds e z = let y : ◌≡◌ {A = ℕ} 0 1 = cc in omega arith
bare-first (c ∷ cs) d ds e z = go (eqb c 48) refl (λ h. bare-first cs d ds h z)
  where
    go : (t : Bool) → eqb c 48 ≡ t → (bare cs ≡ d ∷ ds → ⊥) → ⊥
    go true q ih = ih (rw (q, run) at e)
    go false q ih = let y : c ∷ cs ≡ d ∷ ds = rw (q, run) at e in let w : c ≡ d = cc in eqb-false c 48 q (w ∙ z)

module _ (x y : List ℕ) (d : Digits x) (e : Digits y) where
  -- fewer digits make a smaller number
  pub fewer_digits : length (bare x) < length (bare y) → value 0 x < value 0 y
  unfolding value
  fewer_digits h = rw (bare-value x, bare-value y) (go (bare y) refl (bare-digits y e) h)
    where
      go : (w : List ℕ) → bare y ≡ w → Digits w → length (bare x) < length w → value 0 (bare x) < value 0 w
      go [] q k l = absurd (omega arith)
      go (b ∷ bs) q k l =
          let n : (b ≡ 48 → ⊥) = bare-first y b bs q in
          value-less bs (bare x) 0 (10 * 0 + (b - 48)) (bare-digits x d) (omega arith) (omega (arith, (digits-front b bs k).0.0, n))

  -- as many compare by bytes
  pub as-many-digits : length (bare x) ≡ length (bare y) → compare_numbers (value 0 x) (value 0 y) ≡ compare_lists compare_numbers (bare x) (bare y)
  as-many-digits h = rw (bare-value x, bare-value y) (value-bytes (bare x) (bare y) 0 (bare-digits x d) (bare-digits y e) h)

-- "leading zeros aside": digit runs are equal as numbers exactly where their digits are, without leading zeros
pub zeros-aside : (x y : List ℕ) → Digits x → Digits y → value 0 x ≡ value 0 y → bare x ≡ bare y
zeros-aside x y d e q = go (stand (length (bare x)) (length (bare y)))
  where
    go : Stand (length (bare x)) (length (bare y)) → bare x ≡ bare y
    go (less h) = absurd (omega (arith, fewer_digits x y d e h))
    go (even h) = (lists-ordered numbers-ordered).one (bare x) (bare y) (sym (as-many-digits x y d e h) ∙ numbers-same (value 0 x) (value 0 y) q)
    go (more h) = absurd (omega (arith, fewer_digits y x e d h))

pub aside-zeros : (x y : List ℕ) → bare x ≡ bare y → value 0 x ≡ value 0 y
aside-zeros x y q = bare-value x ∙ ap (value 0) q ∙ sym (bare-value y)
