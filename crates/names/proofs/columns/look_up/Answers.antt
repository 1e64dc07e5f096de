use Rattle.std.proofs.Common.{arith}
use Rattle.names.proofs.Lookups.{look-start, look-fits, look-more, look-end}
use Rattle.names.proofs.columns.look_up.Goals as goal

pub loop-j-init : goal.loop-j-init
loop-j-init c = let s = c.requires in look-start _ _ _ s.search s.room

pub overflow_cast-column : goal.overflow_cast-column
overflow_cast-column c =
    let s = c.requires in
    let h = look-fits _ _ _ s.search s.room _ _ c.loop-j.invariant _ (omega (arith, c.len-j-end.ensures)) c.rank_at.ensures s.few in omega arith

pub loop-j-preserved : goal.loop-j-preserved
loop-j-preserved c = let s = c.requires in look-more _ _ _ s.search s.room _ _ c.loop-j.invariant _ (omega (arith, c.len-j-end.ensures)) c.rank_at.ensures

pub returns : goal.returns
returns c = let s = c.requires in look-end _ _ _ s.search s.room _ _ c.loop-j.invariant (omega (arith, c.len-j-end.ensures))
