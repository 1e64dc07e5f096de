-- What is left has the field's value. Assumes nothing.
use Rattle.std.proofs.Common.{◌≡◌}
use Rattle.rules.specs.Packages.{value_of}
use Rattle.walker.specs.Views.{records_left}
use Rattle.packages.specs.Numbers.{field_number}
use Rattle.packages.specs.Found.{first_value}
use Rattle.packages.proofs.values.value_of.Given as goal

abbrev pub invariant-loop-record : goal.invariant-loop-record
invariant-loop-record l = first_value (field_number l.field) (records_left l.record-iterator) ≡ value_of (field_number l.field) l.records
