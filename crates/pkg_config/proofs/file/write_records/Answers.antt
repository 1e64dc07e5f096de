use Rattle.pkg_config.proofs.Stages.{records-short, records-fit, records-written}
use Rattle.pkg_config.proofs.file.write_records.Goals as goal

pub returns-then-room-need : goal.returns-then-room-need
returns-then-room-need c = search records-short

pub write_fields-requires : goal.write_fields-requires
write_fields-requires c = search records-fit

pub returns : goal.returns
returns c = search records-written
