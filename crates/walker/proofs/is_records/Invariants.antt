-- `walker::is_records` meets its contract: whether the rest is in form is whether the whole is. Assumes nothing.
use Rattle.std.proofs.Common.{◌≡◌}
use Rattle.walker.specs.Forms.{all_formed}
use Rattle.walker.specs.Walks.{items_left, items_of}
use Rattle.walker.proofs.is_records.Given as goal

abbrev pub invariant-loop-record : goal.invariant-loop-record
invariant-loop-record l = all_formed (items_left l.record-iterator) ≡ all_formed (items_of l.records)
