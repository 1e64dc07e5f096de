use Rattle.std.proofs.Common.{refl, ◌∙◌, ap, ℕ, get_or, arith}
use Rattle.records.proofs.Fieldings.{numbered, fields-begin, fields-done, field_fits, field_next}
use Rattle.records.proofs.write.Writer.write_each.Goals as goal

pub loop-field-init : goal.loop-field-init
loop-field-init c = record { columns = refl; same_places = refl; same_stack = refl; same_out = refl; fielding = fields-begin c.requires }

pub write_field-requires : goal.write_field-requires
write_field-requires c = let I = c.loop-field.invariant in rw I.columns (field_fits I.fielding (omega (arith, c.loop-field-test.true)) _ (numbered _ c.loop-field.field-index c.loop-field-test.true) _ (ap (λ (m : ℕ). get_or c.args.fields.now m 0) c.number-f.ensures))

pub loop-field-preserved : goal.loop-field-preserved
loop-field-preserved c =
    let I = c.loop-field.invariant in
    let E = c.write_field.ensures in
    let W = E in
    record {
      columns = W.columns ∙ I.columns;
      same_places = E.same_places ∙ I.same_places;
      same_stack = E.same_stack ∙ I.same_stack;
      same_out = E.same_out ∙ I.same_out;
      fielding = field_next I.fielding (omega (arith, c.loop-field-test.true)) _ (numbered _ c.loop-field.field-index c.loop-field-test.true) _ (ap (λ (m : ℕ). get_or c.args.fields.now m 0) c.number-f.ensures) W.places_long W.stack_long (rw I.columns at W.written);
    }

pub returns : goal.returns
returns c =
    let I = c.loop-field.invariant in
    record { same_places = I.same_places; same_stack = I.same_stack; same_out = I.same_out; columns = I.columns; places_long = I.fielding.places_long; stack_long = I.fielding.stack_long; written = fields-done I.fielding (omega (arith, c.loop-field-test.false)) }
