-- A rule of a table, or of all numbers below a bound, proved at each of them by one test that antt computes. Assumes nothing.
use mathlib.Core.Path.{◌≡◌, refl, ◌∙◌, subst, sym}
use mathlib.Core.Logic.{⊎_elim}
use mathlib.Core.Bool.{Bool, true, false}
use mathlib.Core.List.{List, [], ◌∷◌}
use Prim.Native.Nat.{ℕ, zero, suc, ◌+◌, ◌<◌}
use native.Mathlib.Nat.{add-zero, zero-add, add-suc, suc-add, le_of_suc-le-suc, not-suc-le-zero, eq-or-lt_of_le}
use lib.Dec.{T}
use lib.ListN.{length, get_or}

abbrev pub both : Bool → Bool → Bool
both true b = b
both false b = false

pub both_left : (a b : Bool) → T (both a b) → T a
both_left true b t = tt
both_left false b t = t

pub both_right : (a b : Bool) → T (both a b) → T b
both_right true b t = t
both_right false b t = absurd t

-- the test f passes at each entry of the list and its place, counted from i
abbrev pub every : {A : Type 0} → (ℕ → A → Bool) → ℕ → List A → Bool
every f i [] = true
every f i (x ∷ xs) = both (f i x) (every f (suc i) xs)

from : {A : Type 0} (f : ℕ → A → Bool) (xs : List A) (d : A) (i : ℕ) → T (every f i xs) → (k : ℕ) → k < length xs → T (f (i + k) (get_or xs k d))
from f [] d i t k h = absurd (not-suc-le-zero h)
from f (x ∷ xs) d i t zero h = subst (λ (m : ℕ). T (f m x)) (sym (add-zero i)) (both_left (f i x) (every f (suc i) xs) t)
from f (x ∷ xs) d i t (suc k) h =
    subst (λ (m : ℕ). T (f m (get_or xs k d))) (suc-add i k ∙ sym (add-suc i k))
    (from f xs d (suc i) (both_right (f i x) (every f (suc i) xs) t) k (le_of_suc-le-suc h))

pub at : {A : Type 0} (f : ℕ → A → Bool) (xs : List A) (d : A) → T (every f 0 xs) → (k : ℕ) → k < length xs → T (f k (get_or xs k d))
at f xs d t k h = subst (λ (m : ℕ). T (f m (get_or xs k d))) (zero-add k) (from f xs d 0 t k h)

-- the test f passes at each number below n
abbrev pub up_to : ℕ → (ℕ → Bool) → Bool
up_to zero f = true
up_to (suc n) f = both (f n) (up_to n f)

pub up_to-at : (n : ℕ) (f : ℕ → Bool) → T (up_to n f) → (k : ℕ) → k < n → T (f k)
up_to-at zero f t k h = absurd (not-suc-le-zero h)
up_to-at (suc n) f t k h =
    ⊎_elim (λ e. subst (λ (m : ℕ). T (f m)) (sym e) (both_left (f n) (up_to n f) t))
    (λ l. up_to-at n f (both_right (f n) (up_to n f) t) k l)
    (eq-or-lt_of_le (le_of_suc-le-suc h))

pub pairs : (m n : ℕ) (f : ℕ → ℕ → Bool) → T (up_to m (λ a. up_to n (f a))) → (a b : ℕ) → a < m → b < n → T (f a b)
pairs m n f t a b p q = up_to-at n (f a) (up_to-at m (λ x. up_to n (f x)) t a p) b q

-- equality of two tests, as a test
abbrev pub same : Bool → Bool → Bool
same true b = b
same false true = false
same false false = true

pub same-eq : (a b : Bool) → T (same a b) → a ≡ b
same-eq true true t = refl
same-eq true false t = absurd t
same-eq false true t = absurd t
same-eq false false t = refl
