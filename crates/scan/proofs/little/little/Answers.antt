use Rattle.std.proofs.Common.{◌-◌, sym, arith, length, drop_of_length-le}
use Rattle.scan.proofs.Littles.{little-room, from-turn, from-none}
use Rattle.scan.proofs.little.little.Goals as goal

pub loop-i-init : goal.loop-i-init
loop-i-init c = rw (drop_of_length-le c.args.bytes.now {i = length c.args.bytes.now} (omega arith)) (sym from-none)

pub overflow_mul-n : goal.overflow_mul-n
overflow_mul-n c =
    let a = c.args.bytes.now in
    omega (arith, c.loop-i.invariant, little-room a c.loop-i.i (omega arith) c.loop-i-test.true (λ k. omega (arith, c.type_inv.bytes k)))

pub overflow_add-n : goal.overflow_add-n
overflow_add-n c =
    let a = c.args.bytes.now in
    let i = c.loop-i.i in
    omega (arith, c.loop-i.invariant, little-room a i (omega arith) c.loop-i-test.true (λ k. omega (arith, c.type_inv.bytes k)), c.type_inv.bytes (i - 1))

pub loop-i-preserved : goal.loop-i-preserved
loop-i-preserved c = from-turn c.args.bytes.now c.loop-i.i c.loop-i.n c.loop-i-test.true (omega arith) c.loop-i.invariant
