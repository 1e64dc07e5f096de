use Rattle.std.proofs.Common.{◌∙◌}
use Rattle.records.proofs.Lists.{list_done, next_fits, next}
use Rattle.records.proofs.write.Writer.write_arguments.Goals as goal

pub write_record-requires : goal.write_record-requires
write_record-requires c =
    let I = c.loop-i.invariant in
    rw I.columns (next_fits I.listing c.loop-i-test.true _ _ (rw I.columns at c.start-from.ensures) (rw I.columns at c.end-to.ensures))

pub loop-i-preserved : goal.loop-i-preserved
loop-i-preserved c =
    let I = c.loop-i.invariant in
    let W = c.write_record.ensures in
    record {
      columns = W.columns ∙ I.columns;
      same_places = c.write_record.ensures.same_places ∙ I.same_places;
      same_stack = c.write_record.ensures.same_stack ∙ I.same_stack;
      same_out = c.write_record.ensures.same_out ∙ I.same_out;
      listing = next I.listing c.loop-i-test.true _ _ (rw I.columns at c.start-from.ensures) (rw I.columns at c.end-to.ensures) W.places_long W.stack_long (rw I.columns at W.written);
    }

pub returns : goal.returns
returns c =
    let I = c.loop-i.invariant in
    record { same_places = I.same_places; same_stack = I.same_stack; same_out = I.same_out; columns = I.columns; places_long = I.listing.places_long; stack_long = I.listing.stack_long; written = list_done I.listing c.loop-i-test.false }
