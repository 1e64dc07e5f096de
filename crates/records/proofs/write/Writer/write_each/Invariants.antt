use Rattle.std.proofs.Common.{◌≡◌, ◌+◌}
use Rattle.records.proofs.Fieldings.{Fielding}
use Rattle.records.proofs.write.Writer.write_each.Given as goal

abbrev pub invariant-loop-field : goal.invariant-loop-field
invariant-loop-field l = record {
  columns : l.self.columns.now ≡ l.initial.self.columns.now;
  same_places : l.self.places.ghost_name ≡ l.initial.self.places.ghost_name;
  same_stack : l.self.stack.ghost_name ≡ l.initial.self.stack.ghost_name;
  same_out : l.self.out.ghost_name ≡ l.initial.self.out.ghost_name;
  fielding : Fielding l.initial.self.columns.now l.fields l.initial.self.places.now l.initial.self.stack.now l.initial.self.out.now l.initial.self.at l.self.places.now l.self.stack.now l.self.out.now l.self.at (l.field-index + 1);
}
