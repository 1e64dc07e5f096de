use Rattle.std.proofs.Common.{sym, ◌∙◌}
use Rattle.passes.proofs.States.{told, lacks-over, lacks-sum}
use Rattle.passes.proofs.Turns.{lacking-token}
use Rattle.passes.proofs.visits.Progress.lacking.Goals as goal

pub unreachable-requires : goal.unreachable-requires
unreachable-requires c = lacks-over c.requires.0 c.args.i c.requires.1 c.requires.2 (told _ _ _ _ c.in-Err-Over.is c.in-Err-Over.field-0-is c.resume.ensures)

pub unreachable-requires-in-Ok : goal.unreachable-requires-in-Ok
unreachable-requires-in-Ok c = lacks-sum c.requires.0 c.args.i c.requires.1 c.requires.2 _ (sym c.in-Ok.is ∙ c.resume.ensures)

pub returns : goal.returns
returns c = lacking-token c.requires.0 c.args.i c.requires.1 _ _ (told _ _ _ _ c.in-Err-Missing.is c.in-Err-Missing.field-0-is c.resume.ensures)
