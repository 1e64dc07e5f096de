use Rattle.writer.proofs.Runs.{copied-none, copy-fits, copied}
use Rattle.writer.proofs.copy_value.Goals as goal

pub returns-then-length-eq0 : goal.returns-then-length-eq0
returns-then-length-eq0 c = copied-none c.requires _ c.value_length-length.ensures c.if-length-eq0.true

pub copy_within-requires : goal.copy_within-requires
copy_within-requires c = copy-fits c.requires _ _ c.value_length-length.ensures c.in_ok-from.ensures

pub returns : goal.returns
returns c = copied c.requires _ _ c.value_length-length.ensures c.in_ok-from.ensures _ c.copy_within.ensures
