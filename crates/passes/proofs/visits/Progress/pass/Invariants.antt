use Rattle.std.proofs.Common.{◌*◌}
use Rattle.passes.specs.Visits.{reads, SameColumns}
use Rattle.passes.proofs.PassLaws.{Passing}
use Rattle.passes.proofs.visits.Progress.pass.Given as goal

abbrev pub invariant-loop-b : goal.invariant-loop-b
invariant-loop-b l =
    SameColumns l.fn.self l.self
    × Passing (reads l.rules) l.width l.fn.self.lengths.now l.self.lengths.now l.self.stops.now l.self.sums.now l.self.waiters.now l.due.0 l.found (l.b * l.width)

abbrev pub invariant-loop-i : goal.invariant-loop-i
invariant-loop-i l =
    SameColumns l.fn.self l.self × Passing (reads l.rules) l.width l.fn.self.lengths.now l.self.lengths.now l.self.stops.now l.self.sums.now l.self.waiters.now l.due.0 l.found l.i
