-- `packages::items::push_item` meets its contract: the three records, one after another. Assumes nothing.
use Rattle.rules.specs.Packages.{item_records}
use Rattle.packages.proofs.items.push_item.Goals as goal

pub returns-clause-taken : goal.returns-clause-taken
unfolding item_records
returns-clause-taken g c =
    let s = g.met.S.Sink in let p = c in
    let t = s.then _ _ _ _ _ p.push_record.ensures.taken (s.then _ _ _ _ _ p.push_record-2.ensures.taken c.push_record-3.ensures.taken) in
    rw p.number.ensures at t
