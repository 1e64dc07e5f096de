use Rattle.std.proofs.Common.{refl, ◌∙◌, ap, length, arith}
use Rattle.writer.proofs.Runs.{index-small, less-front, go-dropped, text-fits, go-text, refers, go-copy, three-more, frame_small, less-entered, go-entered, owner-in, owner-value, place-small, less_pop, go-pop, done}
use Rattle.writer.proofs.Sounds.{start}
use Rattle.writer.proofs.write_value.Goals as goal

pub loop-frame-init : goal.loop-frame-init
loop-frame-init c = record { same = refl; long = refl; within = omega arith; run = start c.requires _ c.variables.ensures }

pub overflow_add-frame : goal.overflow_add-frame
overflow_add-frame c = omega (arith, index-small c.loop-frame.invariant.run c.if-frame.true)

pub copy_value-requires : goal.copy_value-requires
copy_value-requires c = refers c.loop-frame.invariant.run c.if-frame.true _ c.kind-kind.ensures c.if-kind.true _ c.rank-j.ensures

pub loop-frame-smaller-in-Some : goal.loop-frame-smaller-in-Some
loop-frame-smaller-in-Some c = less-front c.loop-frame.invariant.run c.if-frame.true

pub loop-frame-preserved-in-Some : goal.loop-frame-preserved-in-Some
loop-frame-preserved-in-Some c =
    let I = c.loop-frame.invariant in
    record { same = I.same; long = I.long; within = I.within; run = go-copy I.run c.if-frame.true _ c.kind-kind.ensures c.if-kind.true _ c.rank-j.ensures _ _ c.in-Some.ensures }

pub push-requires : goal.push-requires
push-requires c =
    let I = c.loop-frame.invariant in
    let h = c.if-frame.true in
    let f = frame_small I.run h in
    (three-more I.run h _ c.kind-kind.ensures c.if-kind.true _ c.rank-j.ensures, I.within, f.0, f.1, f.2)

pub loop-frame-smaller-in-None : goal.loop-frame-smaller-in-None
loop-frame-smaller-in-None c =
    less-entered c.loop-frame.invariant.run c.if-frame.true _ c.kind-kind.ensures c.if-kind.true _ c.rank-j.ensures _ c.push.ensures.pushed _ c.value_of-frame.ensures c.in-None.ensures.0

pub loop-frame-preserved-in-None : goal.loop-frame-preserved-in-None
loop-frame-preserved-in-None c =
    let I = c.loop-frame.invariant in
    let P = c.push.ensures in
    record {
      same = P.same ∙ I.same;
      long = P.long ∙ I.long;
      within = omega (arith, P.top, P.long, I.within);
      run = go-entered I.run c.if-frame.true _ c.kind-kind.ensures c.if-kind.true _ c.rank-j.ensures _ P.pushed _ c.value_of-frame.ensures _ P.top _ c.in-None.ensures.1;
    }

pub copy_text-p-requires : goal.copy_text-p-requires
copy_text-p-requires c = text-fits c.loop-frame.invariant.run c.if-frame.true _ c.kind-kind.ensures c.if-kind.false c.if-kind-2.true

pub loop-frame-smaller-then-kind-2 : goal.loop-frame-smaller-then-kind-2
loop-frame-smaller-then-kind-2 c = less-front c.loop-frame.invariant.run c.if-frame.true

pub loop-frame-preserved-then-kind-2 : goal.loop-frame-preserved-then-kind-2
loop-frame-preserved-then-kind-2 c =
    let I = c.loop-frame.invariant in
    let E = c.copy_text-p.ensures in
    record { same = I.same; long = I.long; within = I.within; run = go-text I.run c.if-frame.true _ c.kind-kind.ensures c.if-kind.false c.if-kind-2.true _ _ (E.past, E.stored) }

pub loop-frame-smaller-else-kind-2 : goal.loop-frame-smaller-else-kind-2
loop-frame-smaller-else-kind-2 c = less-front c.loop-frame.invariant.run c.if-frame.true

pub loop-frame-preserved-else-kind-2 : goal.loop-frame-preserved-else-kind-2
loop-frame-preserved-else-kind-2 c =
    let I = c.loop-frame.invariant in
    record { same = I.same; long = I.long; within = I.within; run = go-dropped I.run c.if-frame.true _ c.kind-kind.ensures c.if-kind-2.false }

pub returns-in_default : goal.returns-in_default
returns-in_default c = done c.loop-frame.invariant.run c.if-frame.false c.in_default.ensures.popped.1

pub value_length-requires : goal.value_length-requires
value_length-requires c = owner-value c.loop-frame.invariant.run c.if-frame.false _ _ c.in-Some-pop.ensures.popped.1

pub overflow_sub-p : goal.overflow_sub-p
overflow_sub-p c = (place-small c.loop-frame.invariant.run c.if-frame.false _ _ c.in-Some-pop.ensures.popped.1 _ c.value_length.ensures).0

pub remember-requires : goal.remember-requires
remember-requires c =
    let R = c.loop-frame.invariant.run in
    let h = c.if-frame.false in
    let p = c.in-Some-pop.ensures.popped.1 in
    (owner-in R h _ _ p, omega (arith, place-small R h _ _ p _ c.value_length.ensures))

pub loop-frame-smaller : goal.loop-frame-smaller
loop-frame-smaller c = less_pop c.loop-frame.invariant.run c.if-frame.false _ _ c.in-Some-pop.ensures.popped.1 _ c.value_length.ensures _ c.remember.ensures

pub loop-frame-preserved : goal.loop-frame-preserved
loop-frame-preserved c =
    let I = c.loop-frame.invariant in
    let P = c.in-Some-pop.ensures in
    record {
      same = P.same ∙ I.same;
      long = ap length P.entries ∙ I.long;
      within = P.within;
      run = go-pop I.run c.if-frame.false _ _ P.popped.1 _ c.value_length.ensures _ c.remember.ensures _ P.popped.0;
    }
