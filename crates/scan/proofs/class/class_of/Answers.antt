-- `scan::class::class_of` meets its contract: the rule is one test over the whole table, which antt computes. Assumes nothing.
use Rattle.std.proofs.Common.{rules}
use Rattle.scan.proofs.Classes.{entry}
use Rattle.scan.proofs.class.class_of.Goals as goal

pub returns : goal.returns
returns c = entry c.args.b (search rules)
