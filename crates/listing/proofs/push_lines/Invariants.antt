-- What went there and the lines that are left are all lines, there is room for those, and the rest is in form if all is. Assumes nothing.
use Rattle.std.proofs.Common.{◌≡◌, ◌≤◌, List, ℕ, ◌++◌, length}
use Rattle.walker.specs.Forms.{all_formed}
use Rattle.walker.specs.Lines.{lines_of}
use Rattle.walker.specs.Walks.{items_left, items_of}
use Rattle.listing.proofs.push_lines.Given as goal

abbrev pub invariant-loop-record : goal.invariant-loop-record
invariant-loop-record g l = record {
  stored : (done : List ℕ) × g.S.Sink.Takes l.initial.sink done l.sink × (done ++ lines_of (items_left l.record-iterator) ≡ lines_of (items_of l.records));
  room : length (lines_of (items_left l.record-iterator)) ≤ g.S.Sink.room l.sink;
  same : all_formed (items_left l.record-iterator) ≡ all_formed (items_of l.records);
}
