use Rattle.std.proofs.Common.{◌≡◌, length}
use Rattle.rules.specs.Versions.{runs, compare_versions}
use Rattle.versions.proofs.version.VersionOrd.cmp.Given as goal

abbrev pub invariant-loop-kind : goal.invariant-loop-kind
invariant-loop-kind l = compare_versions l.a l.b ≡ compare_versions l.self.0.now l.other.0.now

abbrev pub decreases-loop-kind : goal.decreases-loop-kind
decreases-loop-kind l = length (runs l.a)
