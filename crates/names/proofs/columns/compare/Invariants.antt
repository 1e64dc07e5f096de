use Rattle.std.proofs.Common.{◌≡◌, drop}
use Rattle.scan.specs.ByteOrder.{order_of}
use Rattle.names.proofs.columns.compare.Given as goal

abbrev pub invariant-loop-i : goal.invariant-loop-i
invariant-loop-i l = order_of (drop l.i l.a) (drop l.i l.b) ≡ order_of l.a l.b
