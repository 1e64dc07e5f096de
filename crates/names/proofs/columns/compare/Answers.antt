use Rattle.std.proofs.Common.{◌∙◌, arith}
use Rattle.names.proofs.Comparing.{compare-end}
use Rattle.names.proofs.columns.compare.Goals as goal

pub returns : goal.returns
returns c = c.cmp-2.ensures ∙ compare-end c.args.a.now c.args.b.now c.loop-i.i c.loop-i.invariant (omega (arith, c.min-end.ensures))
