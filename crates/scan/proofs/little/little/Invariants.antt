-- `scan::little::little` meets its contract: the number so far is that of the bytes from i on. Assumes nothing.
use Rattle.std.proofs.Common.{◌≡◌, drop}
use Rattle.rules.specs.Bytes.{from_little}
use Rattle.scan.proofs.little.little.Given as goal

abbrev pub invariant-loop-i : goal.invariant-loop-i
invariant-loop-i l = l.n ≡ from_little (drop l.i l.bytes)
