use Rattle.std.proofs.Common.{◌∙◌, ◌≡◌, ◌-◌, ◌+◌, sym, refl, arith, get_or, length}
use native.Mathlib.Nat.{sub-zero}
use Rattle.utf8.proofs.Points.{limit-start, limit-fits, limit-more, bits-more, bits_none}
use Rattle.utf8.proofs.more_bits.Goals as goal

pub loop-b-init : goal.loop-b-init
loop-b-init c = record { small = limit-start _ _ (omega arith); same = rw sub-zero refl }

pub overflow_mul-n : goal.overflow_mul-n
overflow_mul-n c = omega (arith, limit-fits (length c.args.due.now - c.loop-b.b-index) c.loop-b.n (omega (arith, c.loop-b-test.true)) c.loop-b.invariant.small)

pub overflow_add-n : goal.overflow_add-n
overflow_add-n c = omega (arith, limit-fits (length c.args.due.now - c.loop-b.b-index) c.loop-b.n (omega (arith, c.loop-b-test.true)) c.loop-b.invariant.small, c.saturating_sub.type_inv)

pub loop-b-preserved : goal.loop-b-preserved
loop-b-preserved c =
    let l = c.loop-b in
    let t = c.args.due.now in
    let left : ◌-◌ (length t) (l.b-index + 1) ≡ length t - l.b-index - 1 = omega arith in
    rw (c.saturating_sub.ensures, left) (record {
      small = limit-more (length t - l.b-index) l.n (get_or t l.b-index 0) (omega arith) (omega arith) (omega (arith, c.type_inv.due l.b-index)) l.invariant.small;
      same = bits-more t l.b-index (length t - l.b-index) l.n (omega arith) c.loop-b-test.true ∙ l.invariant.same;
    })

pub returns : goal.returns
returns c = sym (bits_none _ _ _ (omega arith)) ∙ c.loop-b.invariant.same
