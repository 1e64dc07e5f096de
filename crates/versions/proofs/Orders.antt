-- The code's orders are the rules'. Assumes nothing.
use Prim.Native.Nat.{ℕ}
use mathlib.Core.Path.{◌≡◌, refl, ap, sym, ◌∙◌}
use mathlib.Core.List.{List, [], ◌∷◌}
use native.Mathlib.Omega.{arith}
use lib.ListN.{length}
use borrow.Author.Tests.{lt-ltb, le-ltb, eq-eqb, ne_eqb}
use Rattle.std.specs.declared.cmp.Ordering.{Ordering}
use Rattle.std.specs.Ordering.{nat_cmp, ordering_then}
use Rattle.std.specs.Cmp.Lexicographic.{slice_cmp}
use Rattle.rules.specs.Bytes.{is, run}
use Rattle.rules.specs.Versions.{value, compare_numbers, compare_lists, compare_run, or_else}
use Rattle.rules.specs.Versions as Rules
use Rattle.rules.proofs.VersionsLaws.{Stand, less, even, more, stand, numbers-less, numbers_more, numbers-same}
use Rattle.rules.proofs.DigitsLaws.{Digits, bare, fewer_digits, as-many-digits}
use Rattle.versions.specs.contracts.number.NumberOrd
use Rattle.versions.specs.declared.number.Number.{Number}
use Rattle.versions.specs.Told.{told}

numbers_told : (m n : ℕ) → nat_cmp m n ≡ told (compare_numbers m n)
numbers_told m n = go (stand m n)
  where
    go : Stand m n → nat_cmp m n ≡ told (compare_numbers m n)
    go (less h) = rw (numbers-less m n h, lt-ltb m n h)
    go (even h) = rw (numbers-same m n h, le-ltb m n (omega arith), eq-eqb m n h)
    go (more h) = rw (numbers_more m n h, le-ltb m n (omega arith), ne_eqb m n (λ z. omega arith))

then_told : (o p : Rules.Order) → ordering_then (told o) (told p) ≡ told (or_else o p)
unfolding or_else
then_told Rules.Order.lower p = refl
then_told Rules.Order.equal p = refl
then_told Rules.Order.higher p = refl

pub lists_told : {A : Type 0} (f : A → A → Rules.Order) (g : A → A → Ordering) → ((x y : A) → g x y ≡ told (f x y)) → (xs ys : List A) → slice_cmp g xs ys ≡ told (compare_lists f xs ys)
unfolding compare_lists
lists_told f g h [] [] = refl
lists_told f g h [] (y ∷ ys) = refl
lists_told f g h (x ∷ xs) [] = refl
lists_told f g h (x ∷ xs) (y ∷ ys) = rw (h x y, lists_told f g h xs ys) (then_told (f x y) (compare_lists f xs ys))

bytes_told : (x y : List ℕ) → slice_cmp nat_cmp x y ≡ told (compare_lists compare_numbers x y)
bytes_told x y = lists_told compare_numbers nat_cmp numbers_told x y

-- digits without leading zeros
bare-same : (x : List ℕ) → run (is "0") x ≡ 0 → bare x ≡ x
bare-same x e = rw e refl

-- the count of digits decides, and then the bytes do
digits_told : (x y : List ℕ) → Digits x → Digits y → run (is "0") x ≡ 0 → run (is "0") y ≡ 0
    → ordering_then (nat_cmp (length x) (length y)) (slice_cmp nat_cmp x y) ≡ told (compare_numbers (value 0 x) (value 0 y))
digits_told x y d e p q = go (stand (length x) (length y))
  where
    l : length (bare x) ≡ length x
    l = ap length (bare-same x p)

    m : length (bare y) ≡ length y
    m = ap length (bare-same y q)

    go : Stand (length x) (length y) → ordering_then (nat_cmp (length x) (length y)) (slice_cmp nat_cmp x y) ≡ told (compare_numbers (value 0 x) (value 0 y))
    go (less h) = rw (numbers_told (length x) (length y), numbers-less (length x) (length y) h, numbers-less (value 0 x) (value 0 y) (fewer_digits x y d e (omega (arith, l, m))))
    go (even h) = rw (numbers_told (length x) (length y), numbers-same (length x) (length y) h) (bytes_told x y ∙ sym (ap told (rw (bare-same x p, bare-same y q) at (as-many-digits x y d e (omega (arith, l, m))))))
    go (more h) = rw (numbers_told (length x) (length y), numbers_more (length x) (length y) h, numbers_more (value 0 x) (value 0 y) (fewer_digits y x e d (omega (arith, l, m))))

-- two runs of one kind
pub letters_told : (x y : List ℕ) → slice_cmp nat_cmp x y ≡ told (compare_run (Rules.letters x) (Rules.letters y))
unfolding compare_run
letters_told x y = bytes_told x y

pub numbers-told : (m n : Number) → (NumberOrd.TheImpl.ghosts).cmp m n ≡ told (compare_run (Rules.number (value 0 m.digits.now)) (Rules.number (value 0 n.digits.now)))
unfolding compare_run
numbers-told m n = rw (m.counted, n.counted) (digits_told m.digits.now n.digits.now m.plain n.plain m.bare n.bare)
