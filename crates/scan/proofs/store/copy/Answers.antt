use Rattle.std.proofs.Common.{◌∙◌, refl, add-zero, arith, length-set, drop_of_length-le}
use Rattle.scan.proofs.Stores.{copy_more}
use Rattle.scan.proofs.store.copy.Goals as goal

pub loop-i-init : goal.loop-i-init
loop-i-init c = (refl, rw add-zero)

pub loop-i-preserved : goal.loop-i-preserved
loop-i-preserved c = let v = c.loop-i.invariant in (length-set _ _ _ ∙ v.0, copy_more c.loop-i.to c.args.from.now c.args.at c.loop-i.i (omega arith) ∙ v.1)

pub returns : goal.returns
returns c = rw (drop_of_length-le c.args.from.now {i = c.loop-i.i} (omega arith)) at c.loop-i.invariant.1
