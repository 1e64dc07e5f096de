use Rattle.records.proofs.Measures.{one-over, one-missing, one-sum, sum-row}
use Rattle.records.proofs.measure.Values.length.Goals as goal

pub returns-in-Ok : goal.returns-in-Ok
returns-in-Ok c = one-sum c.args.f _ _ _ c.in-Ok.is (sum-row _ _ _ c.args.row _ _ c.entry.ensures.value c.entry-2.ensures.value _ c.sum_on.ensures)

pub returns-in-Err-Missing : goal.returns-in-Err-Missing
returns-in-Err-Missing c =
    one-missing c.args.f _ _ _ _ _ c.in-Err-Missing.is c.in-Err-Missing.field-0-is (sum-row _ _ _ c.args.row _ _ c.entry.ensures.value c.entry-2.ensures.value _ c.sum_on.ensures)

pub returns-in-Err-Over : goal.returns-in-Err-Over
returns-in-Err-Over c =
    one-over c.args.f _ _ _ c.in-Err-Over.is c.in-Err-Over.field-0-is (sum-row _ _ _ c.args.row _ _ c.entry.ensures.value c.entry-2.ensures.value _ c.sum_on.ensures)
