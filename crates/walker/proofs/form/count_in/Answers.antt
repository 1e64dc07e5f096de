use Rattle.std.proofs.Common.{◌∙◌, sym}
use Rattle.walker.proofs.Items.{four_in}
use Rattle.walker.proofs.form.count_in.Goals as goal

pub returns-in-Ok : goal.returns-in-Ok
returns-in-Ok c = let p = c in let h = p.in-Ok.ensures.1 in (h.long, four_in _ h.long ∙ rw (← h.same) (sym c.from_le_bytes.ensures))
