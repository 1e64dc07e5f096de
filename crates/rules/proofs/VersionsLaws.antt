-- Document 02, R-1: the comparison of versions is a total order, equal exactly when the runs are. Assumes nothing.
use Prim.Native.Nat.{ℕ, ◌<◌}
use mathlib.Core.Path.{◌≡◌, refl, ap, ap₂, sym, ◌∙◌}
use mathlib.Core.Logic.{◌⊎◌, inl, inr}
use mathlib.Core.Bool.{Bool, true, false}
use mathlib.Core.List.{List, [], ◌∷◌}
use native.Mathlib.Omega.{arith}
use lib.Dec.{ltb}
use borrow.Author.Tests.{ltb-true, ltb-false, lt-ltb, le-ltb}
use Rattle.rules.specs.Bytes.{pick}
use Rattle.rules.specs.Versions.{Order, lower, equal, higher, Run, number, letters, runs, compare_numbers, or_else, compare_lists, compare_run, compare_versions}

-- seen from the second
unfoldable pub reverse : Order → Order
reverse lower = higher
reverse equal = equal
reverse higher = lower

-- a three-way comparison that is a total order: equal is equality, it turns round, and below is transitive
pub record Ordered {A : Type 0} (f : A → A → Order) : Type 0 where
  pub same : (x : A) → f x x ≡ equal
  pub one : (x y : A) → f x y ≡ equal → x ≡ y
  pub turns : (x y : A) → f y x ≡ reverse (f x y)
  pub chain : (x y z : A) → f x y ≡ lower → f y z ≡ lower → f x z ≡ lower

lower-equal : {o : Order} → o ≡ lower → o ≡ equal → ⊥
lower-equal p q = let z : ◌≡◌ {A = ℕ} 0 1 = cc in omega arith

lower-higher : {o : Order} → o ≡ lower → o ≡ higher → ⊥
lower-higher p q = let z : ◌≡◌ {A = ℕ} 0 1 = cc in omega arith

equal-higher : {o : Order} → o ≡ equal → o ≡ higher → ⊥
equal-higher p q = let z : ◌≡◌ {A = ℕ} 0 1 = cc in omega arith

-- numbers
pub numbers-less : (m n : ℕ) → m < n → compare_numbers m n ≡ lower
unfolding compare_numbers pick
numbers-less m n h = rw (lt-ltb m n h)

pub numbers_more : (m n : ℕ) → n < m → compare_numbers m n ≡ higher
unfolding compare_numbers pick
numbers_more m n h = rw (le-ltb m n (omega arith), lt-ltb n m h)

pub numbers-same : (m n : ℕ) → m ≡ n → compare_numbers m n ≡ equal
unfolding compare_numbers pick
numbers-same m n e = rw (le-ltb m n (omega arith), le-ltb n m (omega arith))

-- the three ways that two numbers can stand
pub data Stand (m n : ℕ) : Type 0 where
  less : m < n → Stand m n
  even : m ≡ n → Stand m n
  more : n < m → Stand m n

pub stand : (m n : ℕ) → Stand m n
stand m n = go (ltb m n) (ltb n m) refl refl
  where
    go : (s t : Bool) → ltb m n ≡ s → ltb n m ≡ t → Stand m n
    go true t p q = less (ltb-true m n p)
    go false true p q = more (ltb-true n m q)
    go false false p q = even (omega (arith, ltb-false m n p, ltb-false n m q))

pub less-numbers : (m n : ℕ) → compare_numbers m n ≡ lower → m < n
less-numbers m n e = go (stand m n)
  where
    go : Stand m n → m < n
    go (less h) = h
    go (even h) = absurd (lower-equal e (numbers-same m n h))
    go (more h) = absurd (lower-higher e (numbers_more m n h))

pub numbers-ordered : Ordered compare_numbers
unfolding reverse
numbers-ordered =
    record {
      same = λ x. numbers-same x x refl;
      one = λ x y e. same-one x y e (stand x y);
      turns = λ x y. turned x y (stand x y);
      chain = λ x y z p q. numbers-less x z (omega (arith, less-numbers x y p, less-numbers y z q));
    }
  where
    same-one : (x y : ℕ) → compare_numbers x y ≡ equal → Stand x y → x ≡ y
    same-one x y e (less h) = absurd (lower-equal (numbers-less x y h) e)
    same-one x y e (even h) = h
    same-one x y e (more h) = absurd (equal-higher e (numbers_more x y h))

    turned : (x y : ℕ) → Stand x y → compare_numbers y x ≡ reverse (compare_numbers x y)
    turned x y (less h) = rw (numbers-less x y h, numbers_more y x h)
    turned x y (even h) = rw (numbers-same x y h, numbers-same y x (sym h))
    turned x y (more h) = rw (numbers_more x y h, numbers-less y x h)

-- lists of what is ordered, by the first that differs
module _ {A : Type 0} {f : A → A → Order} (o : Ordered f) where
  lists-same : (x : List A) → compare_lists f x x ≡ equal
  unfolding compare_lists or_else
  lists-same [] = refl
  lists-same (a ∷ x) = rw (o.same a) (lists-same x)

  lists-one : (x y : List A) → compare_lists f x y ≡ equal → x ≡ y
  unfolding compare_lists or_else
  lists-one [] [] e = refl
  lists-one [] (b ∷ y) e = absurd (lower-equal refl e)
  lists-one (a ∷ x) [] e = absurd (equal-higher e refl)
  lists-one (a ∷ x) (b ∷ y) e = go (f a b) refl e (λ h. lists-one x y h)
    where
      go : (k : Order) → f a b ≡ k → or_else k (compare_lists f x y) ≡ equal → (compare_lists f x y ≡ equal → x ≡ y) → a ∷ x ≡ b ∷ y
      go lower q h ih = absurd (lower-equal refl h)
      go equal q h ih = ap₂ {C = List A} (λ (p : A) (r : List A). p ∷ r) (o.one a b q) (ih h)
      go higher q h ih = absurd (equal-higher h refl)

  lists-turn : (x y : List A) → compare_lists f y x ≡ reverse (compare_lists f x y)
  unfolding compare_lists or_else reverse
  lists-turn [] [] = refl
  lists-turn [] (b ∷ y) = refl
  lists-turn (a ∷ x) [] = refl
  lists-turn (a ∷ x) (b ∷ y) = rw (o.turns a b) (go (f a b) (lists-turn x y))
    where
      go : (k : Order) → compare_lists f y x ≡ reverse (compare_lists f x y) → or_else (reverse k) (compare_lists f y x) ≡ reverse (or_else k (compare_lists f x y))
      go lower ih = refl
      go equal ih = ih
      go higher ih = refl

  lists-chain : (x y z : List A) → compare_lists f x y ≡ lower → compare_lists f y z ≡ lower → compare_lists f x z ≡ lower
  unfolding compare_lists or_else
  lists-chain x [] [] p q = absurd (lower-equal q refl)
  lists-chain [] [] (c ∷ z) p q = refl
  lists-chain (a ∷ x) [] (c ∷ z) p q = absurd (lower-higher p refl)
  lists-chain x (b ∷ y) [] p q = absurd (lower-higher q refl)
  lists-chain [] (b ∷ y) (c ∷ z) p q = refl
  lists-chain (a ∷ x) (b ∷ y) (c ∷ z) p q = go (f a b) refl p (f b c) refl q (λ h k. lists-chain x y z h k)
    where
      go : (k : Order) → f a b ≡ k → or_else k (compare_lists f x y) ≡ lower → (l : Order) → f b c ≡ l → or_else l (compare_lists f y z) ≡ lower
          → (compare_lists f x y ≡ lower → compare_lists f y z ≡ lower → compare_lists f x z ≡ lower) → or_else (f a c) (compare_lists f x z) ≡ lower
      go higher u h l v i ih = absurd (lower-higher h refl)
      go lower u h higher v i ih = absurd (lower-higher i refl)
      go equal u h higher v i ih = absurd (lower-higher i refl)
      go lower u h lower v i ih = rw (o.chain a b c u v)
      go lower u h equal v i ih = rw (← o.one b c v, u)
      go equal u h lower v i ih = rw (o.one a b u, v)
      go equal u h equal v i ih = rw (o.one a b u, v) (ih h i)

  pub lists-ordered : Ordered (compare_lists f)
  lists-ordered = record { same = lists-same; one = lists-one; turns = lists-turn; chain = lists-chain }

-- runs
pub runs-ordered : Ordered compare_run
unfolding compare_run reverse
runs-ordered = record { same = same; one = one; turns = turns; chain = chain }
  where
    bytes-ordered : Ordered (compare_lists compare_numbers)
    bytes-ordered = lists-ordered numbers-ordered

    same : (x : Run) → compare_run x x ≡ equal
    same (number m) = numbers-ordered.same m
    same (letters s) = bytes-ordered.same s

    one : (x y : Run) → compare_run x y ≡ equal → x ≡ y
    one (number m) (number n) e = ap {B = Run} number (numbers-ordered.one m n e)
    one (number m) (letters t) e = absurd (equal-higher e refl)
    one (letters s) (number n) e = absurd (lower-equal refl e)
    one (letters s) (letters t) e = ap {B = Run} letters (bytes-ordered.one s t e)

    turns : (x y : Run) → compare_run y x ≡ reverse (compare_run x y)
    turns (number m) (number n) = numbers-ordered.turns m n
    turns (number m) (letters t) = refl
    turns (letters s) (number n) = refl
    turns (letters s) (letters t) = bytes-ordered.turns s t

    chain : (x y z : Run) → compare_run x y ≡ lower → compare_run y z ≡ lower → compare_run x z ≡ lower
    chain (number m) (number n) (number l) p q = numbers-ordered.chain m n l p q
    chain (number m) (letters t) z p q = absurd (lower-higher p refl)
    chain (number m) (number n) (letters u) p q = absurd (lower-higher q refl)
    chain (letters s) (number n) (number l) p q = refl
    chain (letters s) (number n) (letters u) p q = absurd (lower-higher q refl)
    chain (letters s) (letters t) (number l) p q = refl
    chain (letters s) (letters t) (letters u) p q = bytes-ordered.chain s t u p q

-- at most: lower or equal
abbrev pub AtMost : {A : Type 0} → (A → A → Order) → A → A → Type 0
AtMost f x y = f x y ≡ higher → ⊥

-- A total order of what has a key: reflexive, antisymmetric up to the key, transitive, total; equal exactly where the keys are
pub record TotalOrder {A B : Type 0} (key : A → B) (f : A → A → Order) : Type 0 where
  pub reflexive : (x : A) → AtMost f x x
  pub antisymmetric : (x y : A) → AtMost f x y → AtMost f y x → key x ≡ key y
  pub transitive : (x y z : A) → AtMost f x y → AtMost f y z → AtMost f x z
  pub total : (x y : A) → AtMost f x y ⊎ AtMost f y x
  pub equal_runs : (x y : A) → f x y ≡ equal → key x ≡ key y
  pub runs_equal : (x y : A) → key x ≡ key y → f x y ≡ equal
  pub turns : (x y : A) → f y x ≡ reverse (f x y)

module _ {A B : Type 0} {f : B → B → Order} (o : Ordered f) (key : A → B) where
  by-antisymmetric : (x y : A) → AtMost f (key x) (key y) → AtMost f (key y) (key x) → key x ≡ key y
  unfolding reverse
  by-antisymmetric x y p q = go (f (key x) (key y)) refl
    where
      go : (k : Order) → f (key x) (key y) ≡ k → key x ≡ key y
      go lower e = absurd (q (o.turns (key x) (key y) ∙ ap reverse e))
      go equal e = o.one (key x) (key y) e
      go higher e = absurd (p e)

  by-transitive : (x y z : A) → AtMost f (key x) (key y) → AtMost f (key y) (key z) → AtMost f (key x) (key z)
  by-transitive x y z p q h = go (f (key x) (key y)) refl (f (key y) (key z)) refl
    where
      go : (k : Order) → f (key x) (key y) ≡ k → (l : Order) → f (key y) (key z) ≡ l → ⊥
      go higher u l v = p u
      go lower u higher v = q v
      go equal u higher v = q v
      go lower u lower v = lower-higher (o.chain (key x) (key y) (key z) u v) h
      go lower u equal v = lower-higher (rw (o.one (key y) (key z) v) at u) h
      go equal u lower v = lower-higher (rw (sym (o.one (key x) (key y) u)) at v) h
      go equal u equal v = equal-higher (rw (sym (o.one (key x) (key y) u)) at v) h

  by_total : (x y : A) → AtMost f (key x) (key y) ⊎ AtMost f (key y) (key x)
  unfolding reverse
  by_total x y = go (f (key x) (key y)) refl
    where
      go : (k : Order) → f (key x) (key y) ≡ k → AtMost f (key x) (key y) ⊎ AtMost f (key y) (key x)
      go lower e = inl (λ h. lower-higher e h)
      go equal e = inl (λ h. equal-higher e h)
      go higher e = inr (λ h. lower-higher (o.turns (key x) (key y) ∙ ap reverse e) h)

  pub total-by : TotalOrder key (λ x y. f (key x) (key y))
  total-by =
      record {
        reflexive = λ x h. equal-higher (o.same (key x)) h;
        antisymmetric = by-antisymmetric;
        transitive = by-transitive;
        total = by_total;
        equal_runs = λ x y e. o.one (key x) (key y) e;
        runs_equal = λ x y e. rw e (o.same (key y));
        turns = λ x y. o.turns (key x) (key y);
      }

-- "Prove this a total order, equal exactly when the runs are": a digit run is its number, so leading zeros are aside
pub versions_total : TotalOrder runs compare_versions
unfolding compare_versions
versions_total = total-by (lists-ordered runs-ordered) runs
