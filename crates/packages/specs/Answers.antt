-- The call's answers, by the cases of the rules. Assumes nothing.
use Rattle.std.specs.Prelude.{ℕ, ◌≡◌, Result, Ok, Err}
use Rattle.rules.specs.Packages as Rules
use Rattle.packages.specs.declared.field.Malformed as Items
use Rattle.packages.specs.declared.Refusal.{Refusal}
use Rattle.packages.specs.declared.Refusal.TheVariants.{NotRecords, Malformed, OutputShort}
use Rattle.packages.specs.Numbers.{field_number}

-- the rules' answer for each of the code's; `Rules.number` gives the number
abbrev pub rules_answer : Result ℕ Refusal → Rules.Answer
rules_answer (Ok written) = Rules.accepted written
rules_answer (Err NotRecords) = Rules.not_records
rules_answer (Err (Malformed item)) = Rules.malformed_item (field_number item.field) item.index
rules_answer (Err (OutputShort need)) = Rules.output_short need

abbrev pub MalformedIs : Items.Malformed → Refusal → Type 0
MalformedIs item refusal = refusal ≡ Malformed item
