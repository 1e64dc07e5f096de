-- `walker::form::Walk` yields the items that are left, one by one. Assumes nothing.
use Rattle.std.proofs.Common.{rules, ap, length}
use Rattle.walker.proofs.Items.{items-first}
use Rattle.walker.proofs.form.WalkIterator.next.Goals as goal

pub returns-in-Ok-clause-steps : goal.returns-in-Ok-clause-steps
returns-in-Ok-clause-steps c = items-first _ _ _ _ c.in-Ok.ensures

pub returns-in-Ok-clause-goes : goal.returns-in-Ok-clause-goes
returns-in-Ok-clause-goes c = let h = ap length (items-first _ _ _ _ c.in-Ok.ensures) in search (rules, h)
