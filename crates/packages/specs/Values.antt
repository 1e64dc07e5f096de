-- What the values of fields 5 and 6 hold. Assumes nothing.
use Rattle.std.specs.Prelude.{ℕ, List, Result}
use Rattle.rules.specs.Packages.{items_of}
use Rattle.packages.specs.declared.field.Malformed.{Malformed}
use Rattle.packages.specs.declared.values.Values.{Values}
use Rattle.packages.specs.Entries.{both_records}
use Rattle.packages.specs.Numbers.{both_malformed}

-- the records of all items
abbrev pub all_records : Values → List ℕ
all_records v = both_records v.fifth.now v.sixth.now

-- the first malformed item, where there is one
abbrev pub first_malformed : Values → Result (Unit {0}) Malformed
first_malformed v = both_malformed (items_of v.fifth.now) (items_of v.sixth.now)
