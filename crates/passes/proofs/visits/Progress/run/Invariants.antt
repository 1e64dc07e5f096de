use Rattle.std.proofs.Common.{◌-◌, ◌+◌, length}
use Rattle.passes.specs.Visits.{reads, SameColumns}
use Rattle.passes.proofs.RunLaws.{Running}
use Rattle.passes.proofs.visits.Progress.run.Given as goal

abbrev pub invariant-loop-i : goal.invariant-loop-i
invariant-loop-i l =
    SameColumns l.initial.self l.self × Running (reads l.rules) l.width l.self.lengths.now l.self.stops.now l.self.sums.now l.self.waiters.now l.passes l.due.0

abbrev pub decreases-loop-i : goal.decreases-loop-i
decreases-loop-i l = length l.rules.keys.now + 1 - l.passes
