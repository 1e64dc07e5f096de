-- `lines::list::list_value` meets its contract. Assumes nothing.
use Rattle.std.proofs.Common.{refl, sym, true, false}
use Rattle.lines.proofs.Parts.{keeps_then}
use Rattle.lines.proofs.Turns.{flushed, lists-open, lists-all}
use Rattle.lines.proofs.list.list_value.Goals as goal

pub returns-in-Some : goal.returns-in-Some
returns-in-Some c = let R = rw c.in-Some.is at c.turns-state.ensures.reads in record { keeps = R.keeps; lists = lists-open _ _ _ _ _ _ _ _ _ _ _ R true (sym c.in-Some.open.quotes) refl }

pub returns-in-None : goal.returns-in-None
returns-in-None c = let F = c.turns-state.ensures.fits in let R = rw c.in-None.is at c.turns-state.ensures.reads in let f = flushed _ _ _ _ _ _ _ _ F.0 F.1 R.is_any R.within _ _ c.flush.ensures.rows c.flush.ensures.stored in record { keeps = keeps_then R.keeps f.keeps; lists = lists-all _ _ _ _ _ _ _ _ _ _ _ R false refl refl _ _ f }
