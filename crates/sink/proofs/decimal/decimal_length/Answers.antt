use Rattle.std.proofs.Common.{arith}
use Rattle.sink.proofs.Decimals.{decimal-short, length-small, length_more}
use Rattle.sink.proofs.decimal.decimal_length.Goals as goal

pub overflow_add-count : goal.overflow_add-count
overflow_add-count c = omega (arith, decimal-short 19 c.args.n (omega arith))

pub loop-rest-preserved : goal.loop-rest-preserved
loop-rest-preserved c = omega (arith, length_more c.loop-rest.rest c.loop-rest-test.true)

pub returns : goal.returns
returns c = omega (arith, length-small c.loop-rest.rest c.loop-rest-test.false)
