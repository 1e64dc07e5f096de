use Rattle.std.proofs.Common.{refl, arith}
use Rattle.records.proofs.Fieldings.{absent, is-string, string-fits, is-list, list-fits}
use Rattle.records.proofs.write.Writer.write_field.Goals as goal

pub returns-in_default : goal.returns-in_default
returns-in_default c = record { same_places = refl; same_stack = refl; same_out = refl; columns = refl; places_long = refl; stack_long = refl; written = absent _ c.requires.0.remembered (omega (arith, c.in_default.ensures)) }

pub write_record-requires : goal.write_record-requires
write_record-requires c = string-fits c.requires _ _ _ (omega (arith, c.in-Some.ensures)) c.start-from.ensures c.end-to.ensures _ c.number-kind.ensures c.if-kind-lt-FIRST_LIST.true

pub write_list-requires : goal.write_list-requires
write_list-requires c = list-fits c.requires _ _ _ (omega (arith, c.in-Some.ensures)) c.start-from.ensures c.end-to.ensures _ c.number-kind.ensures c.if-kind-lt-FIRST_LIST.false

pub returns-then-kind-lt-FIRST_LIST : goal.returns-then-kind-lt-FIRST_LIST
returns-then-kind-lt-FIRST_LIST c = rw (is-string c.requires _ _ _ (omega (arith, c.in-Some.ensures)) c.start-from.ensures c.end-to.ensures _ c.number-kind.ensures c.if-kind-lt-FIRST_LIST.true) c.write_record.ensures

pub returns-else-kind-lt-FIRST_LIST : goal.returns-else-kind-lt-FIRST_LIST
returns-else-kind-lt-FIRST_LIST c = rw (is-list c.requires _ _ _ (omega (arith, c.in-Some.ensures)) c.start-from.ensures c.end-to.ensures _ c.number-kind.ensures c.if-kind-lt-FIRST_LIST.false) c.write_list.ensures
