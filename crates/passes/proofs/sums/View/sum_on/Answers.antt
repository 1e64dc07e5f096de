use Rattle.std.proofs.Common.{sym, ◌∙◌, arith}
use Rattle.passes.proofs.SumLaws.{advance-end, advance-missing, advance-over, advance-more}
use Rattle.passes.proofs.sums.View.sum_on.Goals as goal

pub returns-in_default : goal.returns-in_default
returns-in_default c = sym (advance-missing _ _ _ _ c.loop-k-test.true (sym c.in_default.is ∙ c.size_at.ensures)) ∙ c.loop-k.invariant.1

pub returns-then-sum-size : goal.returns-then-sum-size
returns-then-sum-size c = let h = c.in-Some in sym (advance-over _ _ _ _ c.loop-k-test.true _ c.in-Some.ensures c.loop-k.invariant.0 c.if-sum-size.true) ∙ c.loop-k.invariant.1

pub loop-k-preserved : goal.loop-k-preserved
loop-k-preserved c = (omega arith, sym (advance-more _ _ _ _ c.loop-k-test.true _ c.in-Some.ensures c.loop-k.invariant.0 c.if-sum-size.false) ∙ c.loop-k.invariant.1)

pub returns : goal.returns
returns c = sym (advance-end _ _ _ _ c.loop-k-test.false) ∙ c.loop-k.invariant.1
