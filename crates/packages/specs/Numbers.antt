-- The numbers of fields and of kinds of records, and what is malformed. Assumes nothing.
use Rattle.std.specs.Prelude.{ℕ, ◌+◌, Result, Ok, Err}
use Rattle.rules.specs.Packages.{Items, items, malformed_at}
use Rattle.packages.specs.declared.field.Field.{Field}
use Rattle.packages.specs.declared.field.Field.TheVariants.{Requires, RequiresPrivate}
use Rattle.packages.specs.declared.field.Malformed.{Malformed}
use Rattle.packages.specs.declared.items.Kind.{Kind}
use Rattle.packages.specs.declared.items.Kind.TheVariants.{Item, Name, Version}

abbrev pub field_number : Field → ℕ
field_number Requires = 5
field_number RequiresPrivate = 6

abbrev pub kind_number : Kind → ℕ
kind_number Item = 12
kind_number Name = 13
kind_number Version = 14

-- the first malformed item of a field, where there is one, with so many items before these
abbrev pub malformed_from : Field → ℕ → Items → Result (Unit {0}) Malformed
malformed_from field before (items is) = Ok tt
malformed_from field before (malformed_at k) = Err (record { field = field; index = before + k })

abbrev pub malformed_in : Field → Items → Result (Unit {0}) Malformed
malformed_in field r = malformed_from field 0 r

-- the first malformed item of fields 5 and 6, where there is one
abbrev pub both_malformed : Items → Items → Result (Unit {0}) Malformed
both_malformed (items is) sixth = malformed_in RequiresPrivate sixth
both_malformed (malformed_at k) sixth = Err (record { field = Requires; index = k })
