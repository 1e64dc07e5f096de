-- Operators by number: what is asked of the order is what the rules say. Assumes nothing.
use Prim.Native.Nat.{ℕ, ◌<◌}
use mathlib.Core.Path.{◌≡◌, refl, ap, sym, ◌∙◌}
use mathlib.Core.Bool.{Bool, true, false}
use mathlib.Core.List.{List}
use native.Mathlib.Omega.{arith}
use borrow.Author.Tests.{ne_eqb}
use Rattle.std.specs.Prelude.{Result, Ok, Err}
use Rattle.std.specs.declared.cmp.Ordering as Std
use Rattle.std.specs.declared.cmp.Ordering.TheVariants.{Less as Below, Equal as Same, Greater as Above}
use Rattle.std.specs.Ordering.{is_eq, is_ne, is_lt, is_gt, is_le, is_ge}
use Rattle.rules.specs.Bytes.{pick}
use Rattle.rules.specs.Versions.{compare_versions}
use Rattle.rules.specs.Versions as Rules
use Rattle.versions.specs.declared.operator.NoOperator.{NoOperator}
use Rattle.versions.specs.declared.operator.Operator.{Operator}
use Rattle.versions.specs.declared.operator.Operator.TheVariants.{Any, Equal, Less, Greater, AtMost, AtLeast, Unequal}
use Rattle.versions.specs.Told.{told, told_met}
use Rattle.versions.specs.Operators.{holds, number_of}

as-met-same : (t : Bool) → told_met (Rules.as_met t) ≡ Ok t
unfolding Rules.as_met
as-met-same true = refl
as-met-same false = refl

-- what holds of a lower, an equal and a higher version
by_order : (f : Std.Ordering → Bool) (o : Rules.Order) → told_met (Rules.as_met (Rules.among (f Below) (f Same) (f Above) o)) ≡ Ok (f (told o))
unfolding Rules.among
by_order f Rules.Order.lower = as-met-same (f Below)
by_order f Rules.Order.equal = as-met-same (f Same)
by_order f Rules.Order.higher = as-met-same (f Above)

module _ (version asked : List ℕ) where
  meets_holds : (o : Operator) → told_met (Rules.meets version (number_of o) asked) ≡ Ok (holds o (told (compare_versions version asked)))
  unfolding Rules.meets pick
  meets_holds Any = refl
  meets_holds Equal = by_order is_eq (compare_versions version asked)
  meets_holds Less = by_order is_lt (compare_versions version asked)
  meets_holds Greater = by_order is_gt (compare_versions version asked)
  meets_holds AtMost = by_order is_le (compare_versions version asked)
  meets_holds AtLeast = by_order is_ge (compare_versions version asked)
  meets_holds Unequal = by_order is_ne (compare_versions version asked)

  -- the operator of a number
  pub meets_at : (o : Operator) (n : ℕ) → number_of o ≡ n → Ok (holds o (told (compare_versions version asked))) ≡ told_met (Rules.meets version n asked)
  meets_at o n e = sym (meets_holds o) ∙ ap (λ (k : ℕ). told_met (Rules.meets version k asked)) e

  -- there are six
  pub over-six : (n : ℕ) → 6 < n → Err (record {}) ≡ told_met (Rules.meets version n asked)
  unfolding Rules.meets pick
  over-six n h =
      rw (ne_eqb n 0 (λ z. omega arith), ne_eqb n 1 (λ z. omega arith), ne_eqb n 2 (λ z. omega arith), ne_eqb n 3 (λ z. omega arith), ne_eqb n 4 (λ z. omega arith), ne_eqb n 5 (λ z. omega arith), ne_eqb n 6 (λ z. omega arith))

-- the code's answer taken back
unfoldable back : Result Bool NoOperator → Rules.Met
back (Ok true) = Rules.Met.met
back (Ok false) = Rules.Met.not_met
back (Err e) = Rules.Met.no_operator

back-told : (m : Rules.Met) → back (told_met m) ≡ m
unfolding back
back-told Rules.Met.met = refl
back-told Rules.Met.not_met = refl
back-told Rules.Met.no_operator = refl

pub met-one : (m n : Rules.Met) → told_met m ≡ told_met n → m ≡ n
met-one m n e = sym (back-told m) ∙ ap back e ∙ back-told n
