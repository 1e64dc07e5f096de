-- `utf8::code_point_at` meets its contract. Assumes nothing.
use Rattle.std.proofs.Common.{◌<◌, ◌+◌, ◌∙◌, arith, get_or, drop, length-take}
use Rattle.utf8.proofs.Points.{leading-small, few, bits_part, point-never, point-bytes, point-past}
use Rattle.utf8.proofs.code_point_at.Goals as goal

pub returns-then-text-i : goal.returns-then-text-i
returns-then-text-i c = search point-past

pub more_bits-requires : goal.more_bits-requires
more_bits-requires c =
    let h : get_or c.args.text.now c.args.i 0 < 256 = omega (arith, c.type_inv.text c.args.i) in
    let k = few _ _ c.row_of.ensures _ c.in-Some.is in
    (rw c.part-rest.ensures (omega (arith, k, length-take c.in-Some.due.count (drop (c.args.i + 1) c.args.text.now))), leading-small _ _ _ c.first_bits.ensures h)

pub returns-in-None : goal.returns-in-None
returns-in-None c = point-never _ _ c.row_of.ensures _ c.in-None.is

pub returns-in-Some : goal.returns-in-Some
returns-in-Some c = rw (c.more_bits.ensures, c.part-rest.ensures, c.first_bits.ensures) (bits_part _ _ _ ∙ point-bytes _ _ c.row_of.ensures _ _ c.in-Some.is)
