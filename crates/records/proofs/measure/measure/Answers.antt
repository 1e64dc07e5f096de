use Rattle.std.proofs.Common.{◌*◌, sym, ◌∙◌, arith}
use Rattle.std.proofs.lemmas.Result.{err_from_is_err_and}
use Rattle.tokens.specs.Entries.{decode}
use Rattle.workspace.specs.Map.{ranks_of, lengths_of}
use Rattle.records.proofs.Measures.{cell-small, sum-small, entry-bound, fields-end, fields-more, fields-stop}
use Rattle.records.proofs.measure.measure.Goals as goal

pub field-requires : goal.field-requires
field-requires c = omega (arith, c.loop-f.invariant.0, c.loop-f-test.true)

pub returns-in_err-need : goal.returns-in_err-need
returns-in_err-need c =
    let p = err_from_is_err_and c.from_residual.result c.from_residual.ensures.1 in
    let e = rw (c.new-tokens.ensures, c.column.ensures, c.column-2.ensures, c.column-3.ensures, c.column-4.ensures, c.entry.ensures.value, c.column-entries.ensures) at c.field.ensures in
    rw (p.1, p.2) (sym (fields-stop _ _ _ _ _ _ c.loop-f-test.true _ e _ c.in_err-need.was) ∙ c.loop-f.invariant.1)

pub loop-f-preserved : goal.loop-f-preserved
loop-f-preserved c =
    let S = c.args in
    let e = rw (c.new-tokens.ensures, c.column.ensures, c.column-2.ensures, c.column-3.ensures, c.column-4.ensures, c.entry.ensures.value, c.column-entries.ensures) at c.field.ensures in (
      omega (
        arith,
        c.loop-f.invariant.0,
        entry-bound _ _ _ (sum-small (decode S.layout.count S.ws.now S.pool.now) (ranks_of S.layout.n S.ws.now) (lengths_of S.layout.n S.layout.v S.ws.now)) _ _ _ _
            (cell-small S.ws.now (6 * S.layout.n) S.layout.n _ (λ i. omega (arith, c.type_inv.ws i))) (sym e ∙ c.in_ok-need.was),
      ),
      sym (fields-more _ _ _ _ _ _ c.loop-f-test.true _ e _ c.in_ok-need.was) ∙ c.loop-f.invariant.1,
    )

pub returns : goal.returns
returns c = sym (fields-end _ _ _ _ _ _ c.loop-f-test.false) ∙ c.loop-f.invariant.1
