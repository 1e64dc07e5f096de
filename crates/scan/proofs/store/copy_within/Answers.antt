use Rattle.std.proofs.Common.{◌≤◌, ◌+◌, ◌∙◌, refl, add-zero, arith, take, drop, drop_of_length-le, length-set, length-take}
use Rattle.scan.proofs.Stores.{within_more}
use lib.Seq.{take-set-le}
use Rattle.scan.proofs.store.copy_within.Goals as goal

pub loop-i-init : goal.loop-i-init
loop-i-init c = record { long = refl; before = refl; left = rw add-zero }

pub loop-i-preserved : goal.loop-i-preserved
loop-i-preserved c =
    let a = c.args in
    let v = c.loop-i.invariant in
    let h : a.at ≤ a.at + c.loop-i.i = omega arith in
    record {
      long = length-set _ _ _ ∙ v.long;
      before = take-set-le _ _ _ _ h ∙ v.before;
      left = within_more a.out.now c.loop-i.out a.from a.len a.at c.loop-i.i (omega arith) (omega arith) (omega arith) v.before ∙ v.left;
    }

pub returns : goal.returns
returns c = let v = c.loop-i.invariant in rw (drop_of_length-le (take c.args.len (drop c.args.from c.args.out.now)) {i = c.loop-i.i} (simp length-take (omega arith))) at v.left
