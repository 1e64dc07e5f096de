-- `scan::little::put_little` meets its contract: what is left to be stored comes to the whole. Assumes nothing.
use Rattle.std.proofs.Common.{length, ◌≡◌, ◌-◌}
use Rattle.rules.specs.Bytes.{to_little}
use Rattle.scan.specs.Stores.{puts}
use Rattle.scan.proofs.little.put_little.Given as goal

abbrev pub invariant-loop-byte : goal.invariant-loop-byte
invariant-loop-byte l = record {
  long : length l.bytes ≡ l.width;
  left : puts l.bytes l.byte-index (to_little (l.width - l.byte-index) l.rest) ≡ to_little l.width l.n;
}
