use Rattle.std.proofs.Common.{◌∙◌, arith}
use Rattle.std.proofs.lemmas.Result.{err_from_is_err_and}
use Rattle.records.proofs.Measures.{one-small, entry-none, entry-rows, entry-stop, entry-sum}
use Rattle.records.proofs.measure.Values.field.Goals as goal

pub returns-in_default : goal.returns-in_default
returns-in_default c = entry-none _ _ _ _ _ _ _ c.checked_sub.ensures c.in_default.is

pub returns-then-f-ge-FIRST_LIST : goal.returns-then-f-ge-FIRST_LIST
returns-then-f-ge-FIRST_LIST c =
    c.rows.ensures ∙ entry-rows _ _ _ _ _ _ _ c.checked_sub.ensures _ c.in-Some.is _ _ c.entry-first.ensures.value c.entry-rows.ensures.value c.if-f-ge-FIRST_LIST.true

pub returns-in_err-length : goal.returns-in_err-length
returns-in_err-length c =
    let p = err_from_is_err_and c.from_residual.result c.from_residual.ensures.1 in
    rw (p.1, p.2) (entry-stop _ _ _ _ _ _ _ c.checked_sub.ensures _ c.in-Some.is c.if-f-ge-FIRST_LIST.false _ c.length.ensures _ c.in_err-length.was)

pub overflow_add-result : goal.overflow_add-result
overflow_add-result c = let V = c.args.self in omega (arith, one-small c.args.f V.view.tokens.now V.view.ranks.now V.view.lengths.now V.starts.now V.ends.now c.in-Some.row _ _ c.length.ensures c.in_ok-length.was)

pub overflow_add-result-2 : goal.overflow_add-result-2
overflow_add-result-2 c =
    let V = c.args.self in omega (arith, one-small c.args.f V.view.tokens.now V.view.ranks.now V.view.lengths.now V.starts.now V.ends.now c.in-Some.row _ _ c.length.ensures c.in_ok-length.was, c.requires)

pub returns : goal.returns
returns c = entry-sum _ _ _ _ _ _ _ c.checked_sub.ensures _ c.in-Some.is c.if-f-ge-FIRST_LIST.false _ c.length.ensures _ c.in_ok-length.was
