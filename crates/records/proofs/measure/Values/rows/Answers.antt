use Rattle.std.proofs.Common.{sym, ◌∙◌, arith}
use Rattle.std.proofs.lemmas.Result.{err_from_is_err_and}
use Rattle.records.proofs.Measures.{one-small, rows_start, rows_end, rows-stop, rows_more}
use Rattle.records.proofs.measure.Values.rows.Goals as goal

pub loop-i-init : goal.loop-i-init
loop-i-init c = (omega arith, rows_start _ _ _ _ _ c.args.row c.args.rows)

pub returns-in_err-sum : goal.returns-in_err-sum
returns-in_err-sum c =
    let p = err_from_is_err_and c.from_residual.result c.from_residual.ensures.1 in
    rw (p.1, p.2) (sym (rows-stop _ _ _ _ _ _ _ c.loop-i-test.true _ c.length.ensures _ c.in_err-sum.was) ∙ c.loop-i.invariant.1)

pub overflow_add-sum : goal.overflow_add-sum
overflow_add-sum c = let V = c.args.self in omega (arith, one-small c.args.f V.view.tokens.now V.view.ranks.now V.view.lengths.now V.starts.now V.ends.now c.loop-i.i _ _ c.length.ensures c.in_ok-sum.was)

pub overflow_add-sum-in-loop-i : goal.overflow_add-sum-in-loop-i
overflow_add-sum-in-loop-i c =
    let V = c.args.self in
    omega (arith, one-small c.args.f V.view.tokens.now V.view.ranks.now V.view.lengths.now V.starts.now V.ends.now c.loop-i.i _ _ c.length.ensures c.in_ok-sum.was, c.loop-i.invariant.0, c.requires.1, c.requires.2, c.loop-i-test.true)

pub loop-i-preserved : goal.loop-i-preserved
loop-i-preserved c =
    let V = c.args.self in (
      omega (arith, one-small c.args.f V.view.tokens.now V.view.ranks.now V.view.lengths.now V.starts.now V.ends.now c.loop-i.i _ _ c.length.ensures c.in_ok-sum.was, c.loop-i.invariant.0, c.loop-i.auto.i),
      sym (rows_more _ _ _ _ _ _ _ c.loop-i-test.true _ c.length.ensures _ c.in_ok-sum.was) ∙ c.loop-i.invariant.1,
    )

pub returns : goal.returns
returns c = sym (rows_end _ _ _ _ _ _ _ c.loop-i-test.false) ∙ c.loop-i.invariant.1
