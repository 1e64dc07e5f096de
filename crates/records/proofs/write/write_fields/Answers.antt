use Rattle.std.proofs.Common.{arith}
use Rattle.records.proofs.Fieldings.{presentable, presented}
use Rattle.records.proofs.write.write_fields.Goals as goal

pub write_present-requires : goal.write_present-requires
write_present-requires c =
    let S = c.args in
    let F = c.split_at_mut-front.ensures in
    let T = c.split_at_mut-scratch.ensures in
    let P = c.split_at_mut-places.ensures in
    presentable S.layout.n S.layout.count S.layout.v S.ws.now S.pool.now c.requires.room S.out.now c.requires _ _ _ _ _ _ F.front F.back T.front T.back P.front P.back

pub returns : goal.returns
returns c =
    let S = c.args in
    let F = c.split_at_mut-front.ensures in
    let T = c.split_at_mut-scratch.ensures in
    let P = c.split_at_mut-places.ensures in
    let W = c.write_present in
    presented S.layout.n S.layout.count S.layout.v S.ws.now S.pool.now c.requires.room S.out.now c.requires _ _ _ _ _ _ F.front F.back T.front T.back P.front P.back
    W.new.places W.new.stack W.new.out W.result (omega arith) (omega arith) W.ensures.is_end W.ensures.bytes
