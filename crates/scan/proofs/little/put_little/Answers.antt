use Rattle.std.proofs.Common.{arith, ◌≡◌, ◌∙◌, ◌-◌, ◌+◌, length-set}
use native.Mathlib.Nat.{sub-zero}
use Rattle.scan.proofs.Lists.{length_part}
use Rattle.scan.proofs.Littles.{length-little, little-turn, little-none, puts_all}
use Rattle.scan.proofs.Stores.{put_mid-puts}
use Rattle.scan.proofs.little.put_little.Goals as goal

pub loop-byte-init : goal.loop-byte-init
loop-byte-init c =
    let e : c.args.at + c.args.width - c.args.at ≡ c.args.width = omega arith in
    let l = length_part c.args.out.now c.args.at c.args.width c.requires in
    rw (e, sub-zero) (record { long = l; left = puts_all _ _ (omega (arith, l, length-little c.args.width c.args.n)) })

pub loop-byte-preserved : goal.loop-byte-preserved
loop-byte-preserved c = let v = c.loop-byte.invariant in record { long = length-set _ _ _ ∙ v.long; left = little-turn _ _ _ _ (omega (arith, v.long)) ∙ v.left }

pub returns : goal.returns
returns c =
    let v = c.loop-byte.invariant in
    let z : c.args.width - c.loop-byte.byte-index ≡ 0 = omega (arith, v.long) in
    let e = rw (z, little-none) at v.left in
    let k : c.args.at + c.args.width - c.args.at ≡ c.args.width = omega arith in
    rw k (put_mid-puts _ _ _ _ _ e (length-little c.args.width c.args.n) c.requires)
