use Rattle.std.proofs.Common.{◌≡◌, drop}
use Rattle.rules.specs.Versions.{runs}
use Rattle.versions.proofs.runs.first_kind.Given as goal

abbrev pub invariant-loop-i : goal.invariant-loop-i
invariant-loop-i l = runs (drop l.i l.text) ≡ runs l.text
