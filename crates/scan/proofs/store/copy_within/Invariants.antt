-- `scan::store::copy_within` meets its contract: what is left to be stored comes to the whole, and what stands before `at` stays. Assumes nothing.
use Rattle.std.proofs.Common.{◌+◌, ◌≡◌, length, take, drop}
use Rattle.scan.specs.Stores.{puts}
use Rattle.scan.proofs.store.copy_within.Given as goal

abbrev pub invariant-loop-i : goal.invariant-loop-i
invariant-loop-i l = record {
  long : length l.out ≡ length l.initial.out;
  before : take l.at l.out ≡ take l.at l.initial.out;
  left : puts l.out (l.at + l.i) (drop l.i (take l.len (drop l.from l.initial.out))) ≡ puts l.initial.out l.at (take l.len (drop l.from l.initial.out));
}
