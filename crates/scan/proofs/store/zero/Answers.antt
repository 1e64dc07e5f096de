-- `scan::store::zero` meets its contract. Assumes nothing.
use Rattle.std.proofs.Common.{◌∙◌}
use Rattle.scan.proofs.Stores.{zeros-front}
use Rattle.scan.proofs.store.zero.Goals as goal

pub returns : goal.returns
returns c = c.zero_from.ensures ∙ zeros-front c.args.ws.now c.args.count c.requires
