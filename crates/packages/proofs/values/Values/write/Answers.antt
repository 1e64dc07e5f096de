-- `packages::values::Values::write` meets its contract: the records of one field after those of the other. Assumes nothing.
use Rattle.packages.proofs.Fitted.{fifth-fits, sixth-fits, both-stored}
use Rattle.packages.proofs.values.Values.write.Goals as goal

pub write_items-at-requires : goal.write_items-at-requires
write_items-at-requires c = let v = c.args.self.now in rw c.number.ensures (fifth-fits v.fifth.now v.sixth.now c.args.output.now c.requires.formed c.requires.room)

pub write_items-requires : goal.write_items-requires
write_items-requires c =
    let v = c.args.self.now in
    let w = c.write_items-at.ensures in
    rw c.number-2.ensures (sixth-fits v.fifth.now v.sixth.now c.args.output.now c.requires.formed c.requires.room _ _ (rw c.number.ensures at w.stored) (rw c.number.ensures at w.next))

pub returns : goal.returns
returns c =
    let v = c.args.self.now in
    let w = c.write_items-at.ensures in
    both-stored v.fifth.now v.sixth.now c.args.output.now c.requires.formed c.requires.room _ _ (rw c.number.ensures at w.stored) (rw c.number.ensures at w.next) _ (rw c.number-2.ensures at c.write_items.ensures.stored)
