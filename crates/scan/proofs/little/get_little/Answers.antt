-- `scan::little::get_little` meets its contract. Assumes nothing.
use Rattle.std.proofs.Common.{arith, drop, length-take}
use Rattle.scan.proofs.little.get_little.Goals as goal

pub little-requires : goal.little-requires
little-requires c = rw c.part.ensures (omega (arith, length-take c.args.width (drop c.args.at c.args.bytes.now)))

pub returns : goal.returns
returns c = rw (← c.part.ensures) c.little.ensures
