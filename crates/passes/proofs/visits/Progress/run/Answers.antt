use Rattle.passes.proofs.RunLaws.{run-start, run-over, run_more, run_end}
use Rattle.passes.proofs.States.{same-then}
use Rattle.passes.proofs.visits.Progress.run.Goals as goal

pub loop-i-init : goal.loop-i-init
loop-i-init c = search run-start

pub returns-in-Err : goal.returns-in-Err
returns-in-Err c =
    record {
      same = same-then c.args.self.now c.loop-i.self c.pass.new.self c.loop-i.invariant.0 c.pass.ensures.same;
      runs = run-over c.loop-i.invariant.1 _ _ _ c.pass.new.self.waiters.now _ (rw c.in-Err.is at c.pass.ensures.passes);
    }

pub returns-in-Ok-None : goal.returns-in-Ok-None
returns-in-Ok-None c =
    record {
      same = same-then c.args.self.now c.loop-i.self c.pass.new.self c.loop-i.invariant.0 c.pass.ensures.same;
      runs = run_end c.loop-i.invariant.1 _ _ _ c.pass.new.self.waiters.now (rw (c.in-Ok-None.is, c.in-Ok-None.field-0-is) at c.pass.ensures.passes) _ c.left.ensures;
    }

pub loop-i-preserved : goal.loop-i-preserved
loop-i-preserved c = (
  same-then c.args.self.now c.loop-i.self c.pass.new.self c.loop-i.invariant.0 c.pass.ensures.same,
  run_more c.loop-i.invariant.1 _ _ _ _ c.pass.ensures.long _ (rw (c.in-Ok-Some.is, c.in-Ok-Some.field-0-is) at c.pass.ensures.passes),
)
