-- `export::items::cabbagelute_packages` meets its contract. Assumes nothing.
use Rattle.std.proofs.Common.{refl}
use Rattle.export.proofs.Packaging.{packages-short, packages-told}
use Rattle.export.proofs.items.cabbagelute_packages.Goals as goal

pub returns-then-detail-lt-DETAIL : goal.returns-then-detail-lt-DETAIL
returns-then-detail-lt-DETAIL c = let a = c.args in packages-short a.records.now a.output.now a.detail.now 19 c.if-detail-lt-DETAIL.true refl

pub returns : goal.returns
returns c =
    let a = c.args in let p = c in let t = p.tell-number.ensures in
    packages-told a.records.now a.output.now a.detail.now p.if-detail-lt-DETAIL.false p.packages.ensures.answer p.packages.ensures.written t.number t.value t.index p.put_numbers.ensures
