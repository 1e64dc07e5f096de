use Rattle.records.proofs.Lists.{headed}
use Rattle.records.proofs.write.put_head.Goals as goal

pub returns : goal.returns
returns c = headed _ _ _ c.args.at c.args.size c.args.kind _ _ c.to_le_bytes.ensures c.to_le_bytes-2.ensures c.copy.ensures c.copy-2.ensures
