use Rattle.std.proofs.Common.{◌≡◌}
use Rattle.records.proofs.Lists.{Listing}
use Rattle.records.proofs.write.Writer.write_arguments.Given as goal

abbrev pub invariant-loop-i : goal.invariant-loop-i
invariant-loop-i l = record {
  columns : l.self.columns.now ≡ l.initial.self.columns.now;
  same_places : l.self.places.ghost_name ≡ l.initial.self.places.ghost_name;
  same_stack : l.self.stack.ghost_name ≡ l.initial.self.stack.ghost_name;
  same_out : l.self.out.ghost_name ≡ l.initial.self.out.ghost_name;
  listing : Listing l.initial.self.columns.now l.initial.self.places.now l.initial.self.stack.now l.initial.self.out.now l.initial.self.at l.row l.rows l.self.places.now l.self.stack.now l.self.out.now l.self.at l.i;
}
