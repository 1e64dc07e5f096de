-- `utf8::more_bits` meets its contract: what the bytes left give comes to the whole. Assumes nothing.
use Rattle.std.proofs.Common.{◌≤◌, ◌-◌, ◌≡◌, length, drop}
use Rattle.rules.specs.Utf8.{trailing}
use Rattle.utf8.proofs.Points.{limit}
use Rattle.utf8.specs.Dues.{ranges}
use Rattle.utf8.proofs.more_bits.Given as goal

abbrev pub invariant-loop-b : goal.invariant-loop-b
invariant-loop-b l = record {
  small : l.n ≤ limit (length l.due - l.b-index);
  same : trailing (ranges (length l.due - l.b-index) 0x80 0xBF) l.n (drop l.b-index l.due) ≡ trailing (ranges (length l.due) 0x80 0xBF) l.bits l.due;
}
