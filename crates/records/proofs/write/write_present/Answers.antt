use Rattle.records.proofs.Fieldings.{present-fits}
use Rattle.records.proofs.write.write_present.Goals as goal

pub write_each-requires : goal.write_each-requires
write_each-requires c =
    let S = c.args in
    let L = S.layout in
    present-fits L.n L.count L.v S.front.now S.pool.now L.small L.tokens L.few c.requires _ c.new-columns.ensures _ c.forget.ensures
