use Rattle.std.proofs.Common.{◌≡◌, ◌+◌, ◌≤◌, length}
use Rattle.scan.specs.Stores.{puts}
use Rattle.writer.proofs.Runs.{Run}
use Rattle.writer.proofs.Turns.{turns}
use Rattle.writer.specs.Frames.{frames}
use Rattle.writer.specs.Tables.{value_between}
use Rattle.writer.proofs.write_value.Given as goal

abbrev pub invariant-loop-frame : goal.invariant-loop-frame
invariant-loop-frame l = record {
  same : l.stack.entries.ghost_name ≡ l.initial.stack.entries.ghost_name;
  long : length l.stack.entries.now ≡ length l.initial.stack.entries.now;
  within : l.stack.top ≤ length l.stack.entries.now;
  run : Run l.columns l.initial.places (puts l.initial.out l.at (value_between l.columns l.from l.to)) l.at (l.at + length (value_between l.columns l.from l.to)) l.places (frames l.stack) l.stack.top l.out l.frame.next l.frame.end l.frame.owner l.p;
}

abbrev pub decreases-loop-frame : goal.decreases-loop-frame
decreases-loop-frame l = turns (length l.columns.keys) l.columns l.places (frames l.stack) l.frame.next l.frame.end l.frame.owner
