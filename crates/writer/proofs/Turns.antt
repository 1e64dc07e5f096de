-- How many turns are left: the tokens that the frames have left, and for each variable that is neither remembered nor being written its own tokens.
-- Each is counted once, however often it is referred to. Assumes nothing.
use Prim.Native.Nat.{ℕ, zero, suc, ◌+◌, ◌-◌, ◌<◌, ◌≤◌}
use mathlib.Core.Path.{◌≡◌, refl, sym, ◌∙◌, ap, ap₂}
use mathlib.Core.Bool.{Bool, true, false}
use mathlib.Core.List.{List, [], ◌∷◌}
use native.Mathlib.Decide.{dec_lt}
use native.Mathlib.Omega.{arith}
use lib.Dec.{eqb}
use borrow.Author.Tests.{eq-eqb, ne_eqb}
use Rattle.rules.specs.Bytes.{pick}
use Rattle.writer.specs.Tables.{Tables, start_of, end_of}
use Rattle.writer.specs.Writing.{place_in}

-- k is in the list
unfoldable pub has : ℕ → List ℕ → Bool
has k [] = false
has k (x ∷ xs) = pick (eqb k x) true (has k xs)

-- whose values the frames of a stack are
unfoldable pub owners : List ℕ → List ℕ
owners [] = []
owners (a ∷ []) = []
owners (a ∷ b ∷ []) = []
owners (i ∷ e ∷ o ∷ rest) = o ∷ owners rest

unfoldable pub frames_left : List ℕ → ℕ
frames_left [] = 0
frames_left (a ∷ []) = 0
frames_left (a ∷ b ∷ []) = 0
frames_left (i ∷ e ∷ o ∷ rest) = e - i + 2 + frames_left rest

-- w, unless the variable is remembered or being written
abbrev due : ℕ → Bool → ℕ → ℕ
due zero false w = w
due zero true w = 0
due (suc p) b w = 0

abbrev pub sum_to : (ℕ → ℕ) → ℕ → ℕ
sum_to f zero = 0
sum_to f (suc m) = f m + sum_to f m

abbrev pub weight : Tables → ℕ → ℕ
weight t j = end_of t j - start_of t j + 3

abbrev due_at : Tables → List ℕ → List ℕ → ℕ → ℕ
due_at t places busy j = due (place_in places j) (has j busy) (weight t j)

unfoldable pub all_due : ℕ → Tables → List ℕ → List ℕ → ℕ
all_due v t places busy = sum_to (due_at t places busy) v

-- `frames` is the stack, three entries a frame, the last pushed first
unfoldable pub turns : ℕ → Tables → List ℕ → List ℕ → ℕ → ℕ → ℕ → ℕ
turns v t places frames i e owner = e - i + 2 + frames_left frames + all_due v t places (owner ∷ owners frames)

-- laws of sums
sum_same : (f g : ℕ → ℕ) (m : ℕ) → ((k : ℕ) → k < m → f k ≡ g k) → sum_to f m ≡ sum_to g m
sum_same f g zero h = refl
sum_same f g (suc m) h = ap₂ (λ (x y : ℕ). x + y) (h m (omega arith)) (sum_same f g m (λ k l. h k (omega arith)))

sum-le : (f g : ℕ → ℕ) (m : ℕ) → ((k : ℕ) → k < m → f k ≤ g k) → sum_to f m ≤ sum_to g m
sum-le f g zero h = omega arith
sum-le f g (suc m) h = omega (arith, h m (omega arith), sum-le f g m (λ k l. h k (omega arith)))

-- all but one stay, and that one is spent
sum-spend : (f g : ℕ → ℕ) (j m : ℕ) → j < m → ((k : ℕ) → k < m → (k ≡ j → ⊥) → f k ≡ g k) → g j ≡ 0 → sum_to f m ≡ sum_to g m + f j
sum-spend f g j zero l h z = absurd (omega arith)
sum-spend f g j (suc m) l h z = elim (dec_lt j m) [
  | yes i ↦ omega (arith, h m (omega arith) (λ q. omega arith), sum-spend f g j m i (λ k x y. h k (omega arith) y) z)
  | no i ↦ (
      let e : m ≡ j = omega arith in
      let a : f m ≡ f j = ap f e in
      let b : g m ≡ 0 = ap g e ∙ z in
      omega (arith, sum_same f g m (λ k x. h k (omega arith) (λ q. omega arith))))
]

due-busy : (p w : ℕ) → due p true w ≡ 0
due-busy zero w = refl
due-busy (suc p) w = refl

due-known : (p : ℕ) (b : Bool) (w : ℕ) → 1 ≤ p → due p b w ≡ 0
due-known zero b w h = absurd (omega arith)
due-known (suc p) b w h = refl

due-le : (p : ℕ) (b : Bool) (w : ℕ) → due p b w ≤ w
due-le zero true w = omega arith
due-le zero false w = omega arith
due-le (suc p) b w = omega arith

has_same : (k : ℕ) (xs : List ℕ) → has k (k ∷ xs) ≡ true
unfolding has pick
has_same k xs = rw (eq-eqb k k refl)

has_other : (k x : ℕ) (xs : List ℕ) → (k ≡ x → ⊥) → has k (x ∷ xs) ≡ has k xs
unfolding has pick
has_other k x xs h = rw (ne_eqb k x h)

pub has-cases : (k x : ℕ) (xs : List ℕ) (A : Type 0) → has k (x ∷ xs) ≡ true → (k ≡ x → A) → (has k xs ≡ true → A) → A
has-cases k x xs A h f g = elim (dec_lt k x) [
  | yes l ↦ g (sym (has_other k x xs (λ q. omega arith)) ∙ h)
  | no l ↦ elim (dec_lt x k) [ yes m ↦ g (sym (has_other k x xs (λ q. omega arith)) ∙ h) | no m ↦ f (omega arith) ]
]

module _ (v : ℕ) (t : Tables) (places places' : List ℕ) where
  -- variable j begins to be written
  pub due-begin : (j : ℕ) (busy : List ℕ) → j < v → ((k : ℕ) → k < v → place_in places' k ≡ place_in places k) → place_in places j ≡ 0 → has j busy ≡ false
      → all_due v t places busy ≡ all_due v t places' (j ∷ busy) + weight t j
  unfolding all_due
  due-begin j busy l same p b =
      let z : due_at t places busy j ≡ weight t j = rw (p, b) in
      sum-spend (due_at t places busy) (due_at t places' (j ∷ busy)) j v l
      (λ k m q. rw (same k m, has_other k j busy q))
      (rw (has_same j busy) (due-busy (place_in places' j) (weight t j)))
      ∙ ap (λ (m : ℕ). sum_to (due_at t places' (j ∷ busy)) v + m) z

  -- and is remembered
  pub due-end : (j : ℕ) (busy : List ℕ) → ((k : ℕ) → (k ≡ j → ⊥) → place_in places' k ≡ place_in places k) → 1 ≤ place_in places' j
      → all_due v t places (j ∷ busy) ≡ all_due v t places' busy
  unfolding all_due
  due-end j busy same p = sum_same (due_at t places (j ∷ busy)) (due_at t places' busy) v (λ k m. each k (dec_lt k j) (dec_lt j k))
    where
      other : (k : ℕ) → (k ≡ j → ⊥) → due_at t places (j ∷ busy) k ≡ due_at t places' busy k
      other k q = rw (same k q, has_other k j busy q)

      each : (k : ℕ) → Dec (k < j) → Dec (j < k) → due_at t places (j ∷ busy) k ≡ due_at t places' busy k
      each k (yes a) d = other k (λ q. omega arith)
      each k (no a) (yes b) = other k (λ q. omega arith)
      each k (no a) (no b) =
          let e : k ≡ j = omega arith in
          rw (e, has_same j busy) (due-busy (place_in places j) (weight t j) ∙ sym (due-known (place_in places' j) (has j busy) (weight t j) p))

-- so a call takes at most as many turns as there are tokens in its range and in all variables' values, and three more for each variable
pub turns-bound : (v : ℕ) (t : Tables) (places : List ℕ) (i e owner : ℕ) → turns v t places [] i e owner ≤ e - i + 2 + sum_to (weight t) v
unfolding turns all_due frames_left owners
turns-bound v t places i e owner = omega (arith, sum-le (due_at t places (owner ∷ [])) (weight t) v (λ k l. due-le (place_in places k) (has k (owner ∷ [])) (weight t k)))

-- With the stack empty the turns are those of the range and of the variables due. So a call takes at most the difference between its start and its end: the
-- tokens of its range, and what its variables were due before it less what they are after it. Over calls that carry the places along the latter is spent once.
pub turns-whole : (v : ℕ) (t : Tables) (places : List ℕ) (i e : ℕ) → turns v t places [] i e v ≡ e - i + 2 + all_due v t places []
unfolding turns all_due frames_left owners
turns-whole v t places i e =
    let d : sum_to (due_at t places (v ∷ [])) v ≡ sum_to (due_at t places []) v
    = sum_same (due_at t places (v ∷ [])) (due_at t places []) v (λ k l. rw (has_other k v [] (λ q. omega arith))) in
    rw d (omega arith)
