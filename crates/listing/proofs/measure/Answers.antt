-- `listing::measure` meets its contract: the lines of any records in memory are fewer bytes than a counter counts. Assumes nothing.
use Rattle.std.proofs.Common.{arith}
use Rattle.listing.proofs.Needs.{lines-short}
use Rattle.listing.proofs.measure.Goals as goal

pub push_lines-requires : goal.push_lines-requires
push_lines-requires c = omega (arith, lines-short c.args.records.now (λ k. omega (arith, c.type_inv.records k)))
