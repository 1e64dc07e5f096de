-- `export::version_calls::cabbagelute_version_meets` meets its contract: a number an answer. Assumes nothing.
use Rattle.std.proofs.Common.{Bool, Ok, ap, sym, ◌∙◌}
use Rattle.rules.specs.Versions.{meets, met_number}
use Rattle.rules.specs.Versions as Rules
use Rattle.versions.proofs.Operators.{met-one}
use Rattle.export.proofs.version_calls.cabbagelute_version_meets.Goals as goal

pub returns-in-Ok-true : goal.returns-in-Ok-true
unfolding met_number
returns-in-Ok-true c = ap met_number (met-one Rules.Met.met (meets c.args.version.now c.args.operator c.args.asked.now) (ap (λ (b : Bool). Ok b) (sym c.in-Ok-true.field-0-test) ∙ c.in-Ok-true.ensures))

pub returns-in-Ok-false : goal.returns-in-Ok-false
unfolding met_number
returns-in-Ok-false c = ap met_number (met-one Rules.Met.not_met (meets c.args.version.now c.args.operator c.args.asked.now) (ap (λ (b : Bool). Ok b) (sym c.in-Ok-false.field-0-test) ∙ c.in-Ok-false.ensures))

pub returns-in-Err : goal.returns-in-Err
unfolding met_number
returns-in-Err c = ap met_number (met-one Rules.Met.no_operator (meets c.args.version.now c.args.operator c.args.asked.now) c.in-Err.ensures)
