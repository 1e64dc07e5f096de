use Rattle.std.proofs.Common.{◌+◌, ◌*◌, ◌-◌, ◌≤◌, ◌≡◌}
use Rattle.passes.specs.Sums.{size_at}
use Rattle.workspace.specs.Map.{starts_of, ends_of}
use Rattle.records.specs.Contents.{fields_of}
use Rattle.records.specs.Measuring.{measure_fields, measure_in}
use Rattle.records.proofs.measure.measure.Given as goal

abbrev pub invariant-loop-f : goal.invariant-loop-f
invariant-loop-f l =
    (l.need + 300000000000000000 ≤ l.f * 300000000000000000)
    × (measure_fields (size_at l.n l.count l.v l.ws l.pool) (starts_of l.n l.ws) (ends_of l.n l.ws) (fields_of l.n l.ws) l.need l.f (11 - l.f) ≡ measure_in l.n l.count l.v l.ws l.pool)
