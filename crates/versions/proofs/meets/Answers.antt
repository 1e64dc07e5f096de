use Rattle.std.proofs.Common.{ap, ◌∙◌, sym}
use Rattle.std.proofs.lemmas.Result.{err_from_is_err_and}
use Rattle.versions.specs.declared.operator.Operator.TheVariants.{Any}
use Rattle.versions.specs.Operators.{number_of}
use Rattle.versions.proofs.Operators.{meets_at, over-six}
use Rattle.versions.proofs.meets.Goals as goal

pub returns-in_err-asks : goal.returns-in_err-asks
returns-in_err-asks c = let p = err_from_is_err_and c.from_residual.result c.from_residual.ensures.1 in rw (p.1, p.2) (over-six _ _ _ c.in_err-asks.ensures)

pub returns-in-Any : goal.returns-in-Any
returns-in-Any c = meets_at _ _ Any _ (ap number_of (sym c.in-Any.is) ∙ c.in_ok-asks.ensures)

pub returns-in_default : goal.returns-in_default
returns-in_default c = rw (c.holds.ensures, c.compare.ensures) (meets_at _ _ _ _ c.in_ok-asks.ensures)
