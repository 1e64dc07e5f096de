use Rattle.export.proofs.Exporting.{detail-short, detail-written}
use Rattle.export.proofs.cabbagelute_read_in.Goals as goal

pub returns-then-detail-lt-DETAIL : goal.returns-then-detail-lt-DETAIL
returns-then-detail-lt-DETAIL c = search detail-short

pub returns : goal.returns
returns c = search detail-written
