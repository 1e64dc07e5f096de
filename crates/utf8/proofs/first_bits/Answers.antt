-- `utf8::first_bits` meets its contract. Assumes nothing.
use Rattle.std.proofs.Common.{arith}
use Rattle.rules.specs.Utf8.{leading}
use Rattle.utf8.proofs.Points.{leading-more}
use Rattle.utf8.specs.Dues.{ranges}
use Rattle.utf8.proofs.first_bits.Goals.{in-0, in-1, in-2, in_default}
use Rattle.utf8.proofs.first_bits.Goals as goal

pub returns : goal.returns
unfolding leading ranges
returns c = elim c.match-count.branch [
  | in-0 w ↦ rw w.in-0.is (omega (arith, w.mark-is, c.saturating_sub.ensures))
  | in-1 w ↦ rw w.in-1.is (omega (arith, w.mark-is, c.saturating_sub.ensures))
  | in-2 w ↦ rw w.in-2.is (omega (arith, w.mark-is, c.saturating_sub.ensures))
  | in_default w ↦ omega (arith, w.mark-is, c.saturating_sub.ensures, leading-more c.args.count c.args.b (omega arith))
]
