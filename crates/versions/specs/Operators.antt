-- The operators by number, and what each asks of the order. Assumes nothing.
use Rattle.std.specs.Prelude.{ℕ, Bool, true, Result, ◌≡◌, ◌<◌, MatchResult}
use Rattle.std.specs.declared.cmp.Ordering.{Ordering}
use Rattle.std.specs.Ordering.{is_eq, is_ne, is_lt, is_gt, is_le, is_ge}
use Rattle.versions.specs.declared.operator.Operator.{Operator}
use Rattle.versions.specs.declared.operator.Operator.TheVariants.{Any, Equal, Less, Greater, AtMost, AtLeast, Unequal}
use Rattle.versions.specs.declared.operator.NoOperator.{NoOperator}

abbrev pub number_of : Operator → ℕ
number_of Any = 0
number_of Equal = 1
number_of Less = 2
number_of Greater = 3
number_of AtMost = 4
number_of AtLeast = 5
number_of Unequal = 6

abbrev pub IsOperator : ℕ → Result Operator NoOperator → Type 0
IsOperator n r = MatchResult r (λ o. number_of o ≡ n) (λ e. 6 < n)

abbrev pub holds : Operator → Ordering → Bool
holds Any o = true
holds Equal o = is_eq o
holds Less o = is_lt o
holds Greater o = is_gt o
holds AtMost o = is_le o
holds AtLeast o = is_ge o
holds Unequal o = is_ne o
