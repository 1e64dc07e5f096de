use Rattle.std.proofs.Common.{◌+◌, ◌*◌, ◌-◌, ◌≤◌, ◌≡◌}
use Rattle.passes.specs.Sums.{size_in}
use Rattle.records.specs.Measuring.{measure_rows}
use Rattle.records.proofs.measure.Values.rows.Given as goal

abbrev pub invariant-loop-i : goal.invariant-loop-i
invariant-loop-i l =
    (l.sum ≤ l.need + (l.i - l.row) * 67108870)
    × (measure_rows (size_in l.self.view.tokens.now l.self.view.ranks.now l.self.view.lengths.now) l.self.starts.now l.self.ends.now l.f l.sum l.i (l.i-end - l.i)
    ≡ measure_rows (size_in l.self.view.tokens.now l.self.view.ranks.now l.self.view.lengths.now) l.self.starts.now l.self.ends.now l.f l.need l.row l.rows)
