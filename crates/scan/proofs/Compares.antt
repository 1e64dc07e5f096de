-- What std's order and equality of two names say: `before` and `same` of the rules. Assumes nothing.
use Prim.Native.Nat.{ℕ}
use mathlib.Core.Path.{◌≡◌, refl}
use mathlib.Core.List.{List, [], ◌∷◌}
use native.Mathlib.Omega.{arith}
use lib.Pointwise.{pointwise}
use Rattle.std.specs.Prelude.{nat_eq}
use Rattle.std.specs.declared.cmp.Ordering.{Ordering}
use Rattle.std.specs.Ordering.{nat_cmp, is_lt, is_eq, is_gt}
use Rattle.std.proofs.lemmas.Cmp.{same_from_slice_cmp}
use Rattle.std.proofs.lemmas.Bool.Decides.{nat_tests}
use Rattle.rules.specs.Bytes.{same, before}
use Rattle.scan.specs.ByteOrder.{order_of}

-- `a == b`
pub same-pointwise : (a b : List ℕ) → pointwise nat_eq a b ≡ same a b
unfolding same
same-pointwise [] [] = refl
same-pointwise [] (y ∷ ys) = refl
same-pointwise (x ∷ xs) [] = refl
same-pointwise (x ∷ xs) (y ∷ ys) = rw (same-pointwise xs ys)

-- `a.cmp(b)`
pub less_before : (a b : List ℕ) (o : Ordering) → o ≡ order_of a b → is_lt o ≡ before a b
unfolding before
less_before = same_from_slice_cmp nat_cmp is_lt before refl (λ _ _. refl) (λ _ _. refl) (λ x y xs ys o h. grind (arith, nat_tests))

pub equal_same : (a b : List ℕ) (o : Ordering) → o ≡ order_of a b → is_eq o ≡ same a b
unfolding same
equal_same = same_from_slice_cmp nat_cmp is_eq same refl (λ _ _. refl) (λ _ _. refl) (λ x y xs ys o h. grind (arith, nat_tests))

pub greater_before : (a b : List ℕ) (o : Ordering) → o ≡ order_of a b → is_gt o ≡ before b a
unfolding before
greater_before = same_from_slice_cmp nat_cmp is_gt (λ a b. before b a) refl (λ _ _. refl) (λ _ _. refl) (λ x y xs ys o h. grind (arith, nat_tests))
