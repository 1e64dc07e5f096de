-- The items' lines are those of the document. Assumes nothing.
use Prim.Native.Nat.{ℕ, zero, suc, ◌<◌}
use mathlib.Core.Path.{◌≡◌, refl, ap, sym, ◌∙◌}
use mathlib.Core.List.{List, ◌∷◌, ◌++◌}
use mathlib.Core.Bool.{Bool, true, false, ◌&&◌}
use mathlib.Core.Option.{Option, none, some}
use native.Mathlib.Omega.{arith}
use lib.Dec.{eqb}
use lib.ListN.{length}
use Rattle.rules.specs.Bytes.{pick, from_little}
use Rattle.rules.specs.Listing.{Front, front, Form, form, wrong, argument, string, list, less, prefixed, listing_line, listing_lines, decimal, lines_of_records}
use borrow.Author.Tests.{eqb-true}
use Rattle.walker.proofs.Heads.{front-short, front-shorter}
use Rattle.walker.proofs.Items.{first-none, by-form, within-broken, within-first}
use Rattle.walker.specs.Forms.{Item, value, count, formed, formed_at, first_of, items_within, items_from, all_formed, is_some}
use Rattle.walker.specs.Lines.{line_of, lines_of}

abbrev pub text_of : List Item → Option (List ℕ)
text_of is = pick (all_formed is) (some (lines_of is)) none

text-value : (k : ℕ) (p : List ℕ) (is : List Item) → text_of (value k p ∷ is) ≡ prefixed (listing_line k (length p) p) (text_of is)
unfolding pick prefixed line_of
text-value k p is = go (all_formed is)
  where
    go : (b : Bool) → pick b (some (listing_line k (length p) p ++ lines_of is)) none ≡ prefixed (listing_line k (length p) p) (pick b (some (lines_of is)) none)
    go true = refl
    go false = refl

text-count : (k n : ℕ) (is : List Item) → text_of (count k n ∷ is) ≡ prefixed (listing_line k 4 (decimal n)) (text_of is)
unfolding pick prefixed line_of
text-count k n is = go (all_formed is)
  where
    go : (b : Bool) → pick b (some (listing_line k 4 (decimal n) ++ lines_of is)) none ≡ prefixed (listing_line k 4 (decimal n)) (pick b (some (lines_of is)) none)
    go true = refl
    go false = refl

-- with enough fuel
lines-within : (f last due : ℕ) (bs : List ℕ) → length bs < f → listing_lines f last due bs ≡ text_of (items_within f last due bs)
unfolding listing_lines items_within first_of formed_at formed pick
lines-within zero last due bs p = absurd (omega arith)
lines-within (suc f) last due bs p = start (eqb (length bs) 0) refl (eqb due 0) refl (λ l d v a. lines-within f l d v a)
  where
    Same : Type 0
    Same = listing_lines (suc f) last due bs ≡ text_of (items_within (suc f) last due bs)

    Later : Type 0
    Later = (l d : ℕ) (v : List ℕ) → length v < f → listing_lines f l d v ≡ text_of (items_within f l d v)

    ended : (eqb (length bs) 0 && eqb due 0) ≡ false → listing_lines (suc f) last due bs ≡ none → first_of last due bs ≡ none → Same
    ended n e h = e ∙ sym (ap text_of (within-broken last due bs n f h))

    formed_as : (eqb (length bs) 0 && eqb due 0) ≡ false → eqb (length bs) 0 ≡ false → (r : Front) → front bs ≡ some r → (g : Form) → form last due r.kind ≡ g → Later → Same
    formed_as n x r e wrong q ih = ended n (rw (x, e, q, listing_lines) refl) (by-form last due bs r e wrong q)
    formed_as n x r e argument q ih =
        let l : listing_lines (suc f) last due bs ≡ prefixed (listing_line r.kind (length r.payload) r.payload) (listing_lines f last (less due) r.rest) = rw (x, e, q, listing_lines) refl in
        l ∙ ap (prefixed (listing_line r.kind (length r.payload) r.payload)) (ih last (less due) r.rest (omega (arith, front-shorter bs r e)))
        ∙ sym (text-value r.kind r.payload (items_within f last (less due) r.rest)) ∙ sym (ap text_of (within-first last due bs n f _ (by-form last due bs r e argument q)))
    formed_as n x r e string q ih =
        let l : listing_lines (suc f) last due bs ≡ prefixed (listing_line r.kind (length r.payload) r.payload) (listing_lines f r.kind 0 r.rest) = rw (x, e, q, listing_lines) refl in
        l ∙ ap (prefixed (listing_line r.kind (length r.payload) r.payload)) (ih r.kind 0 r.rest (omega (arith, front-shorter bs r e)))
        ∙ sym (text-value r.kind r.payload (items_within f r.kind 0 r.rest)) ∙ sym (ap text_of (within-first last due bs n f _ (by-form last due bs r e string q)))
    formed_as n x r e list q ih = sized (eqb (length r.payload) 4) refl
      where
        c : ℕ
        c = from_little r.payload

        counted : eqb (length r.payload) 4 ≡ true → formed last due r list ≡ some (record { item = count r.kind c; rest = r.rest; last = r.kind; due = c })
        counted z = rw z refl

        sized : (b : Bool) → eqb (length r.payload) 4 ≡ b → Same
        sized false z = ended n (rw (x, e, q, z, listing_lines) refl) (by-form last due bs r e list q ∙ rw z refl)
        sized true z =
            let l : listing_lines (suc f) last due bs ≡ prefixed (listing_line r.kind 4 (decimal c)) (listing_lines f r.kind c r.rest) = rw (x, e, q, z, listing_lines) refl in
            l ∙ ap (prefixed (listing_line r.kind 4 (decimal c))) (ih r.kind c r.rest (omega (arith, front-shorter bs r e)))
            ∙ sym (text-count r.kind c (items_within f r.kind c r.rest)) ∙ sym (ap text_of (within-first last due bs n f _ (by-form last due bs r e list q ∙ counted z)))

    fronted : (eqb (length bs) 0 && eqb due 0) ≡ false → eqb (length bs) 0 ≡ false → (o : Option Front) → front bs ≡ o → Later → Same
    fronted n x none e ih = ended n (rw (x, e, listing_lines) refl) (first-none last due bs e)
    fronted n x (some r) e ih = formed_as n x r e (form last due r.kind) refl ih

    start : (a : Bool) → eqb (length bs) 0 ≡ a → (b : Bool) → eqb due 0 ≡ b → Later → Same
    start true x true y ih = rw (x, y, listing_lines, items_within) refl
    start true x false y ih = ended (rw (x, y) refl) (rw (x, y, listing_lines) refl) (first-none last due bs (front-short bs (omega (arith, eqb-true (length bs) 0 x))))
    start false x b y ih = fronted (rw x refl) x (front bs) refl ih

pub lines-rules : (bs : List ℕ) → lines_of_records bs ≡ text_of (items_from 0 0 bs)
unfolding lines_of_records items_from
lines-rules bs = lines-within (suc (length bs)) 0 0 bs (omega arith)

-- in form exactly where there are lines
pub formed_some : (bs : List ℕ) → all_formed (items_from 0 0 bs) ≡ is_some (lines_of_records bs)
unfolding pick is_some
formed_some bs = go (all_formed (items_from 0 0 bs)) ∙ sym (ap is_some (lines-rules bs))
  where
    go : (b : Bool) → b ≡ is_some (pick b (some (lines_of (items_from 0 0 bs))) none)
    go true = refl
    go false = refl
