-- `packages::items::push_records` meets its contract: what went there, and what is left. Assumes nothing.
use Rattle.std.proofs.Common.{refl, [], ◌≡◌, ◌+◌, ◌++◌, ◌∷◌, ap, sym, ◌∙◌, append_assoc, arith, length, length-append, inl}
use Rattle.rules.specs.Packages.{item_records}
use Rattle.packages.specs.Cuts.{told_item}
use Rattle.packages.specs.Entries.{whole, entries_of, items_in, records_in, broken_from}
use Rattle.packages.specs.Views.{told_entry, entries_left}
use Rattle.packages.proofs.Entering.{entries-few, entries-items, broken-on}
use Rattle.packages.proofs.items.push_records.Goals as goal

pub loop-index-init : goal.loop-index-init
loop-index-init g c =
    let p = c in let v = p.args.value.now in let n = p.args.field in
    let it = p.into_iter-index-iterator.result.iter in
    let i : it ≡ p.new.result = ap (λ e. e.iter) p.into_iter-index-iterator.ensures.into_iter_gives ∙ p.enumerate-index-items.ensures.source in
    let e : entries_left it ≡ entries_of v = ap entries_left i ∙ p.new.ensures in
    let k = ap (λ e. e.count) p.into_iter-index-iterator.ensures.into_iter_gives ∙ p.enumerate-index-items.ensures.count in
    let r = ap (records_in n) e in
    record {
      stored = ([], g.met.S.Sink.nothing _, r);
      left = omega (arith, ap length r);
      room = omega (arith, p.requires, ap length r);
      few = omega (arith, k, ap length e, entries-few v);
      same = rw (k, e, entries-items v) refl;
    }

pub loop-index-init-derived : goal.loop-index-init-derived
loop-index-init-derived g c =
    let p = c in let v = p.args.value.now in
    let it = p.into_iter-index-iterator.result.iter in
    let i : it ≡ p.new.result = ap (λ e. e.iter) p.into_iter-index-iterator.ensures.into_iter_gives ∙ p.enumerate-index-items.ensures.source in
    let e : entries_left it ≡ entries_of v = ap entries_left i ∙ p.new.ensures in
    let k = ap (λ e. e.count) p.into_iter-index-iterator.ensures.into_iter_gives ∙ p.enumerate-index-items.ensures.count in
    ((tt, tt, inl (omega (arith, k, ap length e, entries-few v))), tt)

pub loop-index-preserved : goal.loop-index-preserved
loop-index-preserved g c =
    let p = c in let i = p.loop-index.invariant in let s = g.met.S.Sink in let new = p.next.new.self in let n = p.args.field in
    let l = p.push_item.ensures in
    let here = item_records n (told_item p.in-Ok.item) in
    let k = p.in-Some.ensures.steps in
    let e : entries_left p.loop-index.index-iterator.iter ≡ whole (told_item p.in-Ok.item) ∷ entries_left new.iter = k.0 ∙ ap (λ x. told_entry x ∷ entries_left new.iter) p.in-Ok.is in
    let r : records_in n (entries_left p.loop-index.index-iterator.iter) ≡ here ++ records_in n (entries_left new.iter) = ap (records_in n) e in
    let q : length (records_in n (entries_left p.loop-index.index-iterator.iter)) ≡ length here + length (records_in n (entries_left new.iter)) = ap length r ∙ length-append here (records_in n (entries_left new.iter)) in
    record {
      stored = (i.stored.0 ++ here, s.then _ _ _ _ _ i.stored.1 l.taken, append_assoc i.stored.0 here (records_in n (entries_left new.iter)) ∙ ap (λ x. i.stored.0 ++ x) (sym r) ∙ i.stored.2);
      left = omega (arith, i.left, l.left, q);
      room = omega (arith, i.room, l.left, q);
      few = omega (arith, i.few, k.2, ap length e);
      same = rw k.2 (sym (broken-on p.loop-index.index-iterator.count (told_item p.in-Ok.item) (items_in (entries_left new.iter)))) ∙ ap (λ x. broken_from p.loop-index.index-iterator.count (items_in x)) (sym e) ∙ i.same;
    }
