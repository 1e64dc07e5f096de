use Rattle.export.proofs.Exporting.{any-workspace}
use Rattle.export.proofs.read_with.Goals as goal

pub returns : goal.returns
returns c = search any-workspace
