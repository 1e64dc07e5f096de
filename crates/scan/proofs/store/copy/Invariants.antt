-- `scan::store::copy` meets its contract: what is left to be stored comes to the whole. Assumes nothing.
use Rattle.std.proofs.Common.{◌+◌, ◌≡◌, length, drop}
use Rattle.scan.specs.Stores.{puts}
use Rattle.scan.proofs.store.copy.Given as goal

abbrev pub invariant-loop-i : goal.invariant-loop-i
invariant-loop-i l = (length l.to ≡ length l.initial.to) × (puts l.to (l.at + l.i) (drop l.i l.from) ≡ puts l.initial.to l.at l.from)
