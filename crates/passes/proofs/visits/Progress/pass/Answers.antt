use Rattle.std.proofs.Common.{ℕ, refl, ◌∙◌, ap, arith, bit_or}
use Rattle.passes.proofs.PassLaws.{woken-or, pass-skip, pass-next, pass-nothing, pass-wakes, pass-done, pass-ends}
use Rattle.passes.proofs.States.{same-then}
use Rattle.passes.proofs.visits.Progress.pass.Goals as goal
use Rattle.passes.proofs.visits.Progress.pass.Goals.{in-Some, in_default, then-has+else-loop-i-test, else-has}

pub loop-i-preserved : goal.loop-i-preserved
loop-i-preserved c =
    let same = same-then c.args.self.now c.loop-i.self c.turn.new.self c.loop-i.invariant.0 c.turn.ensures.same in
    elim c.match-branch-2.branch [
      | in-Some w ↦
          let a = rw w.in-Some.is at c.in_ok-m.ensures.turns in
          let x = pass-wakes c.loop-i.invariant.1 (omega arith) c.loop-b.b c.loop-i.auto.i (omega arith) c.turn.ensures.long _ a _ w.union-due.ensures _
          (w.union.ensures ∙ ap (λ (k : ℕ). bit_or k w.in-Some.m.0) (woken-or c.loop-i.found _ w.unwrap_or.ensures))
          in
          (same, rw (w.due-is, w.found-is) x)
      | in_default w ↦
          (same, rw (w.due-is, w.found-is) (pass-nothing c.loop-i.invariant.1 (omega arith) c.loop-b.b c.loop-i.auto.i (omega arith) c.turn.ensures.long (rw w.in_default.is at c.in_ok-m.ensures.turns)))
    ]

pub loop-b-preserved : goal.loop-b-preserved
loop-b-preserved c =
    elim c.if-has.branch [
      | then-has+else-loop-i-test w ↦
          rw (w.self-is, w.due-is, w.found-is) (w.loop-i.invariant.0, pass-next w.loop-i.invariant.1 c.loop-b.b _ _ refl w.min-i-end.ensures w.loop-i.auto.i w.loop-i.auto.i-end w.loop-i-test.false)
      | else-has w ↦
          rw (w.self-is, w.due-is, w.found-is) (c.loop-b.invariant.0, pass-skip c.loop-b.invariant.1 c.loop-b.b refl _ c.has.ensures w.if-has.false _ refl)
    ]

pub returns-after-loop-b-clause-passes : goal.returns-after-loop-b-clause-passes
returns-after-loop-b-clause-passes c = pass-ends _ c.loop-b.b c.loop-b.invariant.1 c.loop-b-test.false

pub returns-then-v-from-clause-passes : goal.returns-then-v-from-clause-passes
returns-then-v-from-clause-passes c = pass-done _ _ c.loop-b.invariant.1 c.if-v-from.true
