use Rattle.std.proofs.Common.{arith}
use Rattle.names.proofs.Moves.{went-down, went-up, down-puts, up-puts}
use Rattle.names.proofs.put_key.Goals as goal

pub returns-then-p-v : goal.returns-then-p-v
returns-then-p-v c =
    let a = c.args in
    let s = c.requires in
    let x = down-puts a.first a.v a.p a.key a.ws.now (omega arith) s.place _ s.below c.if-p-v.true (went-down _ _ _ _ _ s.below (omega arith) c.copy_within.ensures.after) in
    record { begin = x.0; stored = x.1 }

pub returns : goal.returns
returns c =
    let a = c.args in
    let s = c.requires in
    let x = up-puts a.first a.v a.p a.key a.ws.now (omega arith) s.place _ c.if-p-v.false (went-up _ _ _ _ _ _ s.place s.above c.copy_within-2.ensures.after) in
    record { begin = x.0; stored = x.1 }
