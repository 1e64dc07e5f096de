use Rattle.export.proofs.Exporting.{own-workspace}
use Rattle.export.proofs.cabbagelute_read.Goals as goal

pub returns : goal.returns
returns c = search own-workspace
