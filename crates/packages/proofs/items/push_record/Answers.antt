-- `packages::items::push_record` meets its contract: the pieces of the record, one after another. Assumes nothing.
use Rattle.packages.proofs.Records.{record_made}
use Rattle.packages.proofs.items.push_record.Goals as goal

pub returns-clause-taken : goal.returns-clause-taken
returns-clause-taken g c =
    let s = g.met.S.Sink in let p = c in
    let t = s.then _ _ _ _ _ p.push_bytes.ensures.taken c.push_bytes-2.ensures.taken in
    rw (record_made _ _ _ _ p.to_le_bytes.ensures p.to_le_bytes-2.ensures, p.number.ensures) at t
