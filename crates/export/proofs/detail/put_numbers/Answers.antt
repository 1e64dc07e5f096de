-- `export::detail::put_numbers` meets its contract. Assumes nothing.
use Rattle.std.proofs.Common.{◌∙◌, ap, sym, List, ℕ, ◌*◌, get_or}
use Rattle.rules.specs.Bytes.{to_little}
use Rattle.scan.specs.Stores.{puts}
use Rattle.scan.proofs.Stores.{overwrite-nil}
use Rattle.export.proofs.Detailing.{numbers-next, numbers-all}
use Rattle.export.proofs.detail.put_numbers.Goals as goal

pub loop-i-init : goal.loop-i-init
loop-i-init c = sym (overwrite-nil _)

pub loop-i-preserved : goal.loop-i-preserved
loop-i-preserved c = c.put_little.ensures ∙ ap (λ (l : List ℕ). puts l (8 * c.loop-i.i) (to_little 8 (get_or c.args.numbers.now c.loop-i.i 0))) c.loop-i.invariant ∙ numbers-next c.args.numbers.now c.args.detail.now c.loop-i.i c.loop-i-test.true c.requires

pub returns : goal.returns
returns c = c.loop-i.invariant ∙ numbers-all c.args.numbers.now c.args.detail.now c.loop-i.i c.loop-i-test.false
