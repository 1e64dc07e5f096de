use Rattle.std.proofs.Common.{arith, refl}
use Rattle.lines.proofs.Turns.{row-none, turns-begin}
use Rattle.lines.proofs.list.turns.Goals as goal

pub loop-i-init : goal.loop-i-init
loop-i-init c =
    let p = c.args.place in
    record {
      fits = (record { small = p.small; room = c.requires.room; inside = p.inside; on = p.on; rows_before = omega arith; start_before = omega arith }, row-none _ _ _);
      reads = turns-begin _ _ _ _ c.requires.none_dropped;
      long = refl;
    }
