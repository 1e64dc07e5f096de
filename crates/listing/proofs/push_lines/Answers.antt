-- `listing::push_lines` meets its contract: what went there, and what is left. Assumes nothing.
use Rattle.std.proofs.Common.{refl, ◌≡◌, ◌++◌, ◌∷◌, ap, sym, ◌∙◌, append_assoc, append-nil, arith, length, length-append}
use Rattle.std.specs.Prelude.{Result, Ok, Err, IsErr, is_ok, false}
use Rattle.walker.specs.Forms.{all_formed}
use Rattle.walker.specs.Lines.{line_of, lines_of}
use Rattle.walker.specs.Walks.{record_told, item_told, items_left, items_of}
use Rattle.listing.proofs.LineLengths.{told_lines, told_formed}
use Rattle.listing.proofs.push_lines.Goals as goal

not_ok : {T E : Type 0} → (r : Result T E) → IsErr r → is_ok r ≡ false
not_ok (Ok x) h = cc
not_ok (Err e) h = refl

pub returns-in_err-record-clause-taken : goal.returns-in_err-record-clause-taken
returns-in_err-record-clause-taken g c =
    let p = c in let i = p.loop-record.invariant in let new = p.next.new.self in
    let k = p.in-Some.ensures.steps ∙ ap (λ x. item_told x ∷ items_left new) p.in_err-record.was in
    let t : lines_of (items_of p.args.records.now) ≡ i.stored.0 = sym i.stored.2 ∙ ap (λ x. i.stored.0 ++ lines_of x) k ∙ append-nil i.stored.0 in
    rw t i.stored.1

pub loop-record-preserved : goal.loop-record-preserved
loop-record-preserved g c =
    let p = c in let i = p.loop-record.invariant in let s = g.met.S.Sink in let new = p.next.new.self in let r = p.in_ok-record.field-0 in
    let l = c.push_line.ensures in
    let k = p.in-Some.ensures.steps ∙ ap (λ x. item_told x ∷ items_left new) p.in_ok-record.was in
    let t = ap lines_of k ∙ told_lines r.kind r.content (items_left new) in
    record {
      stored = (i.stored.0 ++ line_of (record_told r), s.then _ _ _ _ _ i.stored.1 l.taken, append_assoc i.stored.0 (line_of (record_told r)) (lines_of (items_left new)) ∙ ap (λ x. i.stored.0 ++ x) (sym t) ∙ i.stored.2);
      room = omega (arith, i.room, l.left, ap length t, length-append (line_of (record_told r)) (lines_of (items_left new)));
      same = sym (ap all_formed k ∙ told_formed r.kind r.content (items_left new)) ∙ i.same;
    }

pub returns-in_err-record-clause-answer : goal.returns-in_err-record-clause-answer
returns-in_err-record-clause-answer g c =
    let p = c in let new = p.next.new.self in
    let k = p.in-Some.ensures.steps ∙ ap (λ x. item_told x ∷ items_left new) p.in_err-record.was in
    not_ok c.from_residual.result c.from_residual.ensures.0 ∙ sym (ap all_formed k) ∙ p.loop-record.invariant.same
