use Rattle.std.proofs.Common.{sym, ap, ◌∙◌}
use Rattle.versions.specs.Told.{told}
use Rattle.versions.proofs.Turns.{both_end, second_left, first_left, kinds_decide, same_kind, run_decides, turn, fewer}
use Rattle.versions.proofs.version.VersionOrd.cmp.Goals as goal

pub returns-in-None : goal.returns-in-None
returns-in-None c = both_end c.loop-kind.a.now c.loop-kind.b.now c.in_default.ensures c.in-None.ensures ∙ ap told c.loop-kind.invariant

pub returns-in-Some-first_kind : goal.returns-in-Some-first_kind
returns-in-Some-first_kind c = second_left c.loop-kind.a.now c.loop-kind.b.now _ _ c.in_default.ensures c.in-Some-first_kind.ensures ∙ ap told c.loop-kind.invariant

pub returns-in_default-first_kind : goal.returns-in_default-first_kind
returns-in_default-first_kind c = first_left c.loop-kind.a.now c.loop-kind.b.now _ _ c.in-Some.ensures c.in_default-first_kind.ensures ∙ ap told c.loop-kind.invariant

pub returns-then-is_ne : goal.returns-then-is_ne
returns-then-is_ne c =
    let p = c in
    rw p.cmp-kinds.ensures
    (
    kinds_decide p.loop-kind.a.now p.loop-kind.b.now p.in-Some.kind p.in-Some-first_kind-2.against _ _ _ _ p.in-Some.ensures p.in-Some-first_kind-2.ensures (sym (rw p.cmp-kinds.ensures at p.if-is_ne.ensures))
    ∙ ap told p.loop-kind.invariant
    )

pub returns-then-is_ne-2 : goal.returns-then-is_ne-2
returns-then-is_ne-2 c =
    let p = c in
    let k = p.in-Some.kind in
    let e = same_kind k p.in-Some-first_kind-2.against (sym (rw p.cmp-kinds.ensures at p.if-is_ne.ensures)) in
    run_decides p.loop-kind.a.now p.loop-kind.b.now _ _ _ _ p.in-Some.ensures (rw (← e) at p.in-Some-first_kind-2.ensures) _ p.compare_fronts-order.ensures.order (sym p.if-is_ne-2.ensures)
    ∙ ap told p.loop-kind.invariant

pub loop-kind-preserved : goal.loop-kind-preserved
loop-kind-preserved c =
    let p = c in
    let k = p.in-Some.kind in
    let e = same_kind k p.in-Some-first_kind-2.against (sym (rw p.cmp-kinds.ensures at p.if-is_ne.ensures)) in
    rw (p.compare_fronts-order.ensures.first, p.compare_fronts-order.ensures.second)
    (
    turn p.loop-kind.a.now p.loop-kind.b.now _ _ _ _ p.in-Some.ensures (rw (← e) at p.in-Some-first_kind-2.ensures) _ p.compare_fronts-order.ensures.order (sym p.if-is_ne-2.ensures)
    ∙ p.loop-kind.invariant
    )

pub loop-kind-smaller : goal.loop-kind-smaller
loop-kind-smaller c = let p = c in rw p.compare_fronts-order.ensures.first (fewer p.loop-kind.a.now _ _ p.in-Some.ensures)
