use Rattle.std.proofs.Common.{◌∙◌, ap}
use Rattle.fields.specs.Numbers.{number_or_zero}
use Rattle.fields.proofs.Keys.{found_in_all}
use Rattle.fields.proofs.Field.of_key.Goals as goal

pub returns : goal.returns
returns c = ap number_or_zero c.with_key.ensures ∙ found_in_all c.args.key.now
