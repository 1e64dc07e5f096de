use Rattle.std.proofs.Common.{rules, sym, ap, ◌∙◌, ◌∷◌, length}
use Rattle.packages.specs.Entries.{broken}
use Rattle.packages.proofs.Entering.{entries-none, entries-broken, entries-item, entries-empty}
use Rattle.packages.proofs.cut.ItemsIterator.next.Goals as goal

pub returns-in-Ok-None-clause-steps : goal.returns-in-Ok-None-clause-steps
returns-in-Ok-None-clause-steps c = let e = entries-none _ (rw c.in-Ok-None.field-0-is at c.in-Ok-None.ensures) in (e, e)

pub returns-in-Ok-Some-clause-steps : goal.returns-in-Ok-Some-clause-steps
returns-in-Ok-Some-clause-steps c = entries-item _ _ _ (rw c.in-Ok-Some.field-0-is at c.in-Ok-Some.ensures)

pub returns-in-Ok-Some-clause-goes : goal.returns-in-Ok-Some-clause-goes
returns-in-Ok-Some-clause-goes c = let h = ap length (returns-in-Ok-Some-clause-steps c) in search (rules, h)

pub returns-in-Err-clause-steps : goal.returns-in-Err-clause-steps
returns-in-Err-clause-steps c = entries-broken _ c.in-Err.ensures ∙ ap (λ x. broken ∷ x) (sym entries-empty)

pub returns-in-Err-clause-goes : goal.returns-in-Err-clause-goes
returns-in-Err-clause-goes c = let h = ap length (returns-in-Err-clause-steps c) in search (rules, h)
