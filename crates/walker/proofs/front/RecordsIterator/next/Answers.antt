-- `walker::front::Records` yields the records that are left, one by one. Assumes nothing.
use Rattle.std.proofs.Common.{rules, ap, length}
use Rattle.walker.proofs.Heads.{records-some}
use Rattle.walker.proofs.front.RecordsIterator.next.Goals as goal

pub returns-clause-steps : goal.returns-clause-steps
returns-clause-steps c = records-some _ _ c.in_ok-first.ensures

pub returns-clause-goes : goal.returns-clause-goes
returns-clause-goes c = let h = records-some _ _ c.in_ok-first.ensures in search (rules, ap length h)
