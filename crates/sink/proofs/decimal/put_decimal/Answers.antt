use Rattle.std.proofs.Common.{refl, arith, length-set}
use Rattle.sink.proofs.Decimals.{left-some, left-turn, left_one}
use Rattle.sink.proofs.decimal.put_decimal.Goals as goal

pub overflow_add-end : goal.overflow_add-end
overflow_add-end c = rw c.decimal_length.ensures (omega arith)

pub loop-rest-init : goal.loop-rest-init
loop-rest-init c = rw c.decimal_length.ensures (record { is_end = refl; room = c.requires; same = refl; bytes = refl })

pub overflow_sub-i : goal.overflow_sub-i
overflow_sub-i c = omega (arith, left-some c.loop-rest.invariant)

pub bounds-out-i : goal.bounds-out-i
bounds-out-i c = omega (arith, left-some c.loop-rest.invariant)

pub loop-rest-preserved : goal.loop-rest-preserved
loop-rest-preserved c = left-turn c.loop-rest.invariant c.loop-rest-test.true

pub bounds-out-at : goal.bounds-out-at
bounds-out-at c = omega (arith, left-some c.loop-rest.invariant)

pub shape_of-out : goal.shape_of-out
shape_of-out c = simp length-set c.loop-rest.invariant.same

pub returns-clause-stored : goal.returns-clause-stored
returns-clause-stored c = left_one c.loop-rest.invariant c.loop-rest-test.false

pub returns-clause-next : goal.returns-clause-next
returns-clause-next c = rw c.decimal_length.ensures refl
