use Rattle.std.proofs.Common.{◌∙◌, drop_of_length-le}
use Rattle.utf8.proofs.Rows.{turn-never, turn-bytes, at-start, at-end}
use Rattle.utf8.proofs.goes_by_rows.Goals as goal

pub loop-b-init : goal.loop-b-init
loop-b-init c = at-start _ _ _

pub returns-in_default : goal.returns-in_default
returns-in_default c = turn-never _ _ _ _ _ _ c.loop-b-test.true c.next.ensures c.in_default.is ∙ c.loop-b.invariant

pub loop-b-preserved : goal.loop-b-preserved
loop-b-preserved c = turn-bytes _ _ _ _ _ _ c.loop-b-test.true c.next.ensures _ c.in-Some.is ∙ c.loop-b.invariant

pub returns : goal.returns
returns c = at-end _ _ _ ∙ (rw (drop_of_length-le _ c.loop-b-test.false) at c.loop-b.invariant)
