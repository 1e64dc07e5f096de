-- `packages::packages` meets its contract: each answer by the form of the records, their items and the room. Assumes nothing.
use Rattle.std.proofs.Common.{sym, ◌∙◌}
use Rattle.std.proofs.lemmas.Result.{err_from_is_err_and}
use Rattle.packages.proofs.Telling.{says-broken, says-malformed, says-short, says-written, says-items}
use Rattle.packages.proofs.packages.Goals as goal

pub returns-then-not-is_records : goal.returns-then-not-is_records
returns-then-not-is_records c = let s = says-broken c.args.records.now c.args.output.now (sym c.if-not-is_records.ensures) in record { answer = s.answer_is; written = s.output_is }

pub returns-in_err-need : goal.returns-in_err-need
returns-in_err-need c =
    let p = c in let v = p.new-values in
    let k = err_from_is_err_and c.from_residual.result c.from_residual.ensures.1 in
    let s = says-items p.args.records.now p.args.output.now (sym p.if-not-is_records.ensures) v.ensures.fifth v.ensures.sixth (says-malformed _ _ p.args.output.now _ p.in_err-need.ensures) in
    record { answer = rw (k.1, k.2) s.answer_is; written = s.output_is }

pub returns-then-output-need : goal.returns-then-output-need
returns-then-output-need c =
    let p = c in let v = p.new-values in let m = p.in_ok-need.ensures in
    let s = says-items p.args.records.now p.args.output.now (sym p.if-not-is_records.ensures) v.ensures.fifth v.ensures.sixth (says-short v.result.fifth.now v.result.sixth.now p.args.output.now m.1 (rw m.0 at p.if-output-need.true)) in
    record { answer = rw m.0 s.answer_is; written = s.output_is }

pub returns : goal.returns
returns c =
    let p = c in let v = p.new-values in let m = p.in_ok-need.ensures in
    let s = says-items p.args.records.now p.args.output.now (sym p.if-not-is_records.ensures) v.ensures.fifth v.ensures.sixth (says-written v.result.fifth.now v.result.sixth.now p.args.output.now m.1 (rw m.0 at p.if-output-need.false)) in
    record { answer = rw m.0 s.answer_is; written = c.write.ensures ∙ s.output_is }
