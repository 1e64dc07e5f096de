-- The code's items as the rules'. Assumes nothing.
use Rattle.std.specs.Prelude.{ℕ, ◌≡◌, ◌<◌, List, drop, Option, Some, None, Result, Ok, Err, MatchOption, MatchResult}
use Rattle.std.specs.Borrow.{Bor}
use Rattle.rules.specs.Packages as Rules
use Rattle.rules.specs.Packages.{First, nothing, malformed, item, operator_of, operator_size, alone}
use Rattle.versions.specs.declared.operator.Operator.{Operator}
use Rattle.versions.specs.Operators.{number_of}
use Rattle.packages.specs.declared.cut.Item.{Item}
use Rattle.packages.specs.declared.cut.MalformedItem.{MalformedItem}

-- the rules' item
abbrev pub told_item : Item → Rules.Item
told_item i = record { name = i.name.now; operator = number_of i.operator; version = i.version.now }

-- what a value begins with
abbrev pub first_of : Result (Option (Item × Bor (List ℕ))) MalformedItem → First
first_of (Ok None) = nothing
first_of (Ok (Some p)) = item (told_item p.0) p.1.now
first_of (Err e) = malformed

-- the operator at the front, and what comes after it; a `!` without `=` is none
abbrev pub Leads : List ℕ → Result (Option (Operator × Bor (List ℕ))) MalformedItem → Type 0
Leads text r = MatchResult r
    (λ o. MatchOption o (operator_of text ≡ 0) (λ p. (0 < number_of p.0) × (number_of p.0 < alone) × (number_of p.0 ≡ operator_of text) × (p.1.now ≡ drop (operator_size (operator_of text)) text)))
    (λ e. operator_of text ≡ alone)
