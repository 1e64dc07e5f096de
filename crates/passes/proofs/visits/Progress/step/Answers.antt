use Rattle.std.proofs.Common.{refl}
use Rattle.passes.proofs.Turns.{step-visited, step-valued}
use Rattle.passes.proofs.visits.Progress.step.Goals as goal

pub returns-then-self-i-eq0-clause-steps : goal.returns-then-self-i-eq0-clause-steps
returns-then-self-i-eq0-clause-steps c = step-visited c.requires.0 c.args.i c.requires.1 _ refl c.if-self-i-eq0.true _ _ _ c.visit.result c.visit.ensures.visits

pub returns-clause-steps : goal.returns-clause-steps
returns-clause-steps c = step-valued c.requires.0 c.args.i c.requires.1 _ refl c.if-self-i-eq0.false
