use Rattle.std.proofs.Common.{rules, ap, ◌∙◌}
use Rattle.rules.specs.Versions.{is_digit, value}
use Rattle.rules.proofs.RunsLaws.{all-run}
use Rattle.versions.proofs.Fronts.{digit-same}
use Rattle.versions.proofs.runs.split_number.Goals as goal

pub new-requires : goal.new-requires
new-requires c = rw (c.split_while.ensures is_digit (λ b r q e. search (rules, digit-same))).0 (all-run is_digit c.args.text.now)

pub returns-clause-number : goal.returns-clause-number
returns-clause-number c = c.new.ensures ∙ ap (value 0) (c.split_while.ensures is_digit (λ b r q e. search (rules, digit-same))).0

pub returns-clause-rest : goal.returns-clause-rest
returns-clause-rest c = (c.split_while.ensures is_digit (λ b r q e. search (rules, digit-same))).1
