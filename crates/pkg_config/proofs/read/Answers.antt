use Rattle.pkg_config.proofs.Calls.{too_long, workspace-short, pool-short, not-utf8, was_read}
use Rattle.pkg_config.proofs.read.Goals as goal

pub returns-then-n-gt-TEXT : goal.returns-then-n-gt-TEXT
returns-then-n-gt-TEXT c = search too_long

pub returns-then-workspace-room : goal.returns-then-workspace-room
returns-then-workspace-room c = search workspace-short

pub returns-then-pool-n : goal.returns-then-pool-n
returns-then-pool-n c = search pool-short

pub returns-then-not-is_well_formed : goal.returns-then-not-is_well_formed
returns-then-not-is_well_formed c = search not-utf8

pub returns : goal.returns
returns c = search was_read
