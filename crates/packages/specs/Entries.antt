-- What stands in a value: its items, the last of them malformed or none. Assumes nothing.
use Rattle.std.specs.Prelude.{ℕ, zero, suc, ◌+◌, List, [], ◌∷◌, ◌++◌, length, Result, Ok, Err}
use Rattle.rules.specs.Packages as Rules
use Rattle.rules.specs.Packages.{nothing, malformed, item, item_records}

-- an item, or a malformed one
pub data Entry : Type 0 where
  whole : Rules.Item → Entry
  broken : Entry

-- `fuel` is more than there are
unfoldable pub entries_within : ℕ → List ℕ → List Entry
entries_within zero value = []
entries_within (suc fuel) value = elim (Rules.first_item value) [ nothing ↦ [] | malformed ↦ broken ∷ [] | item i rest ↦ whole i ∷ entries_within fuel rest ]

unfoldable pub entries_of : List ℕ → List Entry
entries_of value = entries_within (suc (length value)) value

-- the rules' items
abbrev pub items_in : List Entry → Rules.Items
items_in [] = Rules.items []
items_in (whole i ∷ es) = Rules.after i (items_in es)
items_in (broken ∷ es) = Rules.malformed_at 0

-- the records of the items before a malformed one
abbrev pub records_in : ℕ → List Entry → List ℕ
records_in field [] = []
records_in field (whole i ∷ es) = item_records field i ++ records_in field es
records_in field (broken ∷ es) = []

-- the records of fields 5 and 6, from their values
abbrev pub both_records : List ℕ → List ℕ → List ℕ
both_records fifth sixth = records_in 5 (entries_of fifth) ++ records_in 6 (entries_of sixth)

-- the index of the first malformed item, where there is one, with so many items before these
abbrev pub broken_from : ℕ → Rules.Items → Result (Unit {0}) ℕ
broken_from before (Rules.items is) = Ok tt
broken_from before (Rules.malformed_at k) = Err (before + k)

abbrev pub first_broken : Rules.Items → Result (Unit {0}) ℕ
first_broken r = broken_from 0 r
