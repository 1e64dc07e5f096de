-- The rules' answers as the code's. Assumes nothing.
use Rattle.std.specs.Prelude.{Bool, true, false, Result, Ok, Err}
use Rattle.std.specs.declared.cmp.Ordering.{Ordering}
use Rattle.std.specs.declared.cmp.Ordering.TheVariants.{Less, Equal, Greater}
use Rattle.rules.specs.Versions as Rules
use Rattle.versions.specs.declared.operator.NoOperator.{NoOperator}

abbrev pub told : Rules.Order → Ordering
told Rules.Order.lower = Less
told Rules.Order.equal = Equal
told Rules.Order.higher = Greater

abbrev pub told_met : Rules.Met → Result Bool NoOperator
told_met Rules.Met.met = Ok true
told_met Rules.Met.not_met = Ok false
told_met Rules.Met.no_operator = Err (record {})
