-- `utf8::goes_by_rows` meets its contract: what is left is as well formed as the whole. Assumes nothing.
use Rattle.std.proofs.Common.{◌≡◌, drop}
use Rattle.rules.specs.Utf8.{follows, well_formed}
use Rattle.utf8.specs.Dues.{ranges}
use Rattle.utf8.proofs.goes_by_rows.Given as goal

abbrev pub invariant-loop-b : goal.invariant-loop-b
invariant-loop-b l = follows (ranges l.due.count l.due.low l.due.high) (drop l.b-index l.text) ≡ well_formed l.text
