use Rattle.std.proofs.Common.{◌∙◌}
use mathlib.Core.Path.{ap₂}
use Rattle.rules.specs.Versions.{compare_run}
use Rattle.rules.specs.Versions as Rules
use Rattle.versions.specs.Told.{told}
use Rattle.versions.proofs.Orders.{letters_told, numbers-told}
use Rattle.versions.proofs.version.compare_fronts.Goals as goal

pub returns-in-Letters-clause-order : goal.returns-in-Letters-clause-order
returns-in-Letters-clause-order c =
    rw c.in-Letters.is
    (
    c.cmp.ensures ∙ letters_told c.split_letters.result.0.now c.split_letters-in-Letters.result.0.now
    ∙ ap₂ (λ x y. told (compare_run (Rules.letters x) (Rules.letters y))) c.split_letters.ensures.letters c.split_letters-in-Letters.ensures.letters
    )

pub returns-in-Digits-clause-order : goal.returns-in-Digits-clause-order
returns-in-Digits-clause-order c =
    rw c.in-Digits.is
    (
    c.cmp-in-Digits.ensures ∙ numbers-told c.split_number.result.0 c.split_number-in-Digits.result.0
    ∙ ap₂ (λ x y. told (compare_run (Rules.number x) (Rules.number y))) c.split_number.ensures.number c.split_number-in-Digits.ensures.number
    )
