-- Two versions turn by turn: what is left of both compares as the whole. Assumes nothing.
use Prim.Native.Nat.{ℕ, ◌<◌}
use mathlib.Core.Path.{◌≡◌, refl, ap, sym}
use mathlib.Core.Bool.{true, false}
use mathlib.Core.List.{List, [], ◌∷◌}
use native.Mathlib.Omega.{arith}
use lib.ListN.{length}
use Rattle.std.specs.declared.cmp.Ordering.{Ordering}
use Rattle.std.specs.declared.cmp.Ordering.TheVariants.{Less, Equal, Greater}
use Rattle.std.specs.Ordering.{is_ne}
use Rattle.rules.specs.Versions.{runs, compare_run, compare_lists, compare_versions, or_else}
use Rattle.rules.specs.Versions as Rules
use Rattle.versions.specs.contracts.runs.KindOrd
use Rattle.versions.specs.declared.runs.Kind.{Kind}
use Rattle.versions.specs.declared.runs.Kind.TheVariants.{Letters, Digits}
use Rattle.versions.specs.Kinds.{run_of}
use Rattle.versions.specs.Told.{told}

-- what differs decides, and what is equal goes on
decided : (w rest : Rules.Order) → is_ne (told w) ≡ true → told w ≡ told (or_else w rest)
unfolding or_else
decided Rules.Order.lower rest e = refl
decided Rules.Order.equal rest e = let z : false ≡ true = e in cc
decided Rules.Order.higher rest e = refl

goes_on : (w rest : Rules.Order) → is_ne (told w) ≡ false → or_else w rest ≡ rest
unfolding or_else
goes_on Rules.Order.lower rest e = let z : true ≡ false = e in cc
goes_on Rules.Order.equal rest e = refl
goes_on Rules.Order.higher rest e = let z : true ≡ false = e in cc

-- kinds that do not differ are one
pub same_kind : (k l : Kind) → is_ne ((KindOrd.TheImpl.ghosts).cmp k l) ≡ false → k ≡ l
same_kind Letters Letters e = refl
same_kind Letters Digits e = let z : true ≡ false = e in cc
same_kind Digits Letters e = let z : true ≡ false = e in cc
same_kind Digits Digits e = refl

module _ (a b : List ℕ) where
  pub both_end : runs a ≡ [] → runs b ≡ [] → Equal ≡ told (compare_versions a b)
  unfolding compare_versions compare_lists
  both_end p q = rw (p, q, compare_lists) refl

  module _ (r : Rules.Run) (rs : List Rules.Run) where
    pub second_left : runs a ≡ [] → runs b ≡ r ∷ rs → Less ≡ told (compare_versions a b)
    unfolding compare_versions compare_lists
    second_left p q = rw (p, q, compare_lists) refl

    pub first_left : runs a ≡ r ∷ rs → runs b ≡ [] → Greater ≡ told (compare_versions a b)
    unfolding compare_versions compare_lists
    first_left p q = rw (p, q, compare_lists) refl

  -- a run in each
  module _ (r s : Rules.Run) (rest other : List ℕ) (p : runs a ≡ r ∷ runs rest) (q : runs b ≡ s ∷ runs other) where
    both_here : compare_versions a b ≡ or_else (compare_run r s) (compare_versions rest other)
    unfolding compare_versions compare_lists
    both_here = rw (p, q, compare_lists) refl

    pub run_decides : (o : Ordering) → o ≡ told (compare_run r s) → is_ne o ≡ true → o ≡ told (compare_versions a b)
    run_decides o e n = rw (both_here, e) (decided (compare_run r s) (compare_versions rest other) (rw e at n))

    pub turn : (o : Ordering) → o ≡ told (compare_run r s) → is_ne o ≡ false → compare_versions rest other ≡ compare_versions a b
    turn o e n = rw both_here (sym (goes_on (compare_run r s) (compare_versions rest other) (rw e at n)))

  -- kinds that differ decide: a run of letters is below a run of digits
  pub kinds_decide : (k l : Kind) (x y rest other : List ℕ) → runs a ≡ run_of k x ∷ runs rest → runs b ≡ run_of l y ∷ runs other
      → is_ne ((KindOrd.TheImpl.ghosts).cmp k l) ≡ true → (KindOrd.TheImpl.ghosts).cmp k l ≡ told (compare_versions a b)
  unfolding compare_run or_else
  kinds_decide Letters Letters x y rest other p q e = let z : false ≡ true = e in cc
  kinds_decide Letters Digits x y rest other p q e = ap told (sym (both_here (run_of Letters x) (run_of Digits y) rest other p q))
  kinds_decide Digits Letters x y rest other p q e = ap told (sym (both_here (run_of Digits x) (run_of Letters y) rest other p q))
  kinds_decide Digits Digits x y rest other p q e = let z : false ≡ true = e in cc

-- a run less is left
pub fewer : (t rest : List ℕ) (r : Rules.Run) → runs t ≡ r ∷ runs rest → length (runs rest) < length (runs t)
fewer t rest r e = rw e (omega arith)
