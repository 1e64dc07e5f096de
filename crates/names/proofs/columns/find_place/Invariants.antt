use Rattle.std.proofs.Common.{◌-◌, length}
use Rattle.names.specs.Named.{named}
use Rattle.names.proofs.Places.{Searching}
use Rattle.names.proofs.columns.find_place.Given as goal

abbrev pub invariant-loop-low : goal.invariant-loop-low
invariant-loop-low l = Searching (named l.tokens l.keys) (length l.keys) l.name l.low l.high

abbrev pub decreases-loop-low : goal.decreases-loop-low
decreases-loop-low l = l.high - l.low
