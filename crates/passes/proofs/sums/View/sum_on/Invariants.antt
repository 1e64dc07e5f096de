use Rattle.std.proofs.Common.{◌≤◌, ◌-◌, ◌≡◌}
use Rattle.passes.specs.Sums.{top, size_in, advance}
use Rattle.passes.proofs.sums.View.sum_on.Given as goal

abbrev pub invariant-loop-k : goal.invariant-loop-k
invariant-loop-k l = (l.sum ≤ top) × (advance (size_in l.self.tokens.now l.self.ranks.now l.self.lengths.now) l.k l.sum (l.to - l.k) ≡ advance (size_in l.self.tokens.now l.self.ranks.now l.self.lengths.now) l.from l.s (l.to - l.from))
