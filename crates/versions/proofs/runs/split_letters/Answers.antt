use Rattle.std.proofs.Common.{rules}
use Rattle.rules.specs.Versions.{is_letter}
use Rattle.versions.proofs.Fronts.{letter-same}
use Rattle.versions.proofs.runs.split_letters.Goals as goal

pub returns-clause-letters : goal.returns-clause-letters
returns-clause-letters c = (c.split_while.ensures is_letter (λ b r q e. search (rules, letter-same))).0

pub returns-clause-rest : goal.returns-clause-rest
returns-clause-rest c = (c.split_while.ensures is_letter (λ b r q e. search (rules, letter-same))).1
