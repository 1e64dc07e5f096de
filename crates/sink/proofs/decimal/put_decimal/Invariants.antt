-- `sink::decimal::put_decimal` meets its contract: the digits that are left go before those stored. Assumes nothing.
use Rattle.sink.proofs.Decimals.{Left}
use Rattle.sink.proofs.decimal.put_decimal.Given as goal

abbrev pub invariant-loop-rest : goal.invariant-loop-rest
invariant-loop-rest l = Left l.initial.out l.at l.n l.out l.rest l.i

abbrev pub decreases-loop-rest : goal.decreases-loop-rest
decreases-loop-rest l = l.rest
