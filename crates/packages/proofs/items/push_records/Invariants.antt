-- What went there and the records that are left are all records, and there is room for those. Assumes nothing.
use Rattle.std.proofs.Common.{◌≡◌, ◌≤◌, ◌+◌, List, ℕ, ◌++◌, length}
use Rattle.rules.specs.Packages.{items_of}
use Rattle.packages.specs.Entries.{entries_of, items_in, records_in, broken_from, first_broken}
use Rattle.packages.specs.Views.{entries_left}
use Rattle.packages.proofs.items.push_records.Given as goal

abbrev pub invariant-loop-index : goal.invariant-loop-index
invariant-loop-index g l = record {
  stored : (done : List ℕ) × g.S.Sink.Takes l.initial.sink done l.sink × (done ++ records_in l.field (entries_left l.index-iterator.iter) ≡ records_in l.field (entries_of l.value));
  left : g.S.Sink.room l.sink + length (records_in l.field (entries_of l.value)) ≡ g.S.Sink.room l.initial.sink + length (records_in l.field (entries_left l.index-iterator.iter));
  room : length (records_in l.field (entries_left l.index-iterator.iter)) ≤ g.S.Sink.room l.sink;
  few : l.index-iterator.count + length (entries_left l.index-iterator.iter) ≤ length l.value;
  same : broken_from l.index-iterator.count (items_in (entries_left l.index-iterator.iter)) ≡ first_broken (items_of l.value);
}
