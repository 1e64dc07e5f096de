use Rattle.std.proofs.Common.{refl}
use Rattle.passes.proofs.Waits.{mark-adds, turn-blocked, turn-valued}
use Rattle.passes.proofs.visits.Progress.turn.Goals as goal

pub returns-in-Blocked-clause-turns : goal.returns-in-Blocked-clause-turns
returns-in-Blocked-clause-turns c =
    turn-blocked c.requires.0 c.args.self.now.waiters.now c.requires.1 c.args.i c.args.b c.requires.2 _ (rw c.in-Blocked.is at c.in_ok-step.ensures.steps) _ (rw (c.mark.ensures, c.step.ensures.same_waiters) (mark-adds _ _ _ _ c.requires.3))

pub returns-in-Valued-clause-turns : goal.returns-in-Valued-clause-turns
returns-in-Valued-clause-turns c =
    rw c.step.ensures.same_waiters (turn-valued c.requires.0 c.args.self.now.waiters.now c.requires.1 c.args.i c.args.b c.requires.2 (rw c.in-Valued.is at c.in_ok-step.ensures.steps) _ refl)
