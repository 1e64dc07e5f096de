-- `sink::decimal::decimal_length` meets its contract: the digits counted, and those of the rest, are all of them. Assumes nothing.
use Rattle.std.proofs.Common.{◌+◌, ◌≡◌, length}
use Rattle.rules.specs.Listing.{decimal}
use Rattle.sink.proofs.decimal.decimal_length.Given as goal

abbrev pub invariant-loop-rest : goal.invariant-loop-rest
invariant-loop-rest l = l.count + length (decimal l.rest) ≡ length (decimal l.n) + 1

abbrev pub decreases-loop-rest : goal.decreases-loop-rest
decreases-loop-rest l = l.rest
