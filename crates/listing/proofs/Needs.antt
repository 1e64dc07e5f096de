-- How long all lines are: at most twice as long as the records. Assumes nothing.
use Prim.Native.Nat.{ℕ, zero, suc, ◌+◌, ◌*◌, ◌<◌, ◌≤◌}
use mathlib.Core.Path.{◌≡◌, refl, sym, ◌∙◌, subst}
use mathlib.Core.List.{List, [], ◌∷◌}
use mathlib.Core.Bool.{Bool, true, false, ◌&&◌}
use mathlib.Core.Option.{Option, none, some}
use native.Mathlib.Omega.{arith}
use lib.Dec.{eqb, ltb}
use lib.ListN.{length, get_or, take, drop, length-append, length-take}
use borrow.Author.Tests.{eqb-true, ltb-true, ltb-false}
use Rattle.rules.specs.Bytes.{pick, from_little}
use Rattle.rules.specs.Variables.{limit}
use Rattle.rules.specs.Listing.{Front, front, Form, form, wrong, argument, string, list, decimal}
use Rattle.rules.proofs.FormLaws.{Octets, size_of, front_cut}
use Rattle.walker.specs.Forms.{Item, value, count, broken, First, formed, first_of, items_within, items_from}
use Rattle.walker.specs.Walks.{items_of}
use Rattle.walker.specs.Lines.{line_of, lines_of}
use Rattle.walker.proofs.Heads.{whole-length}
use Rattle.walker.proofs.Items.{first-none, by-form, within-broken, within-first}
use Rattle.sink.proofs.Decimals.{decimal-short, length-small}
use Rattle.listing.proofs.LineLengths.{length_number, length_value, length_count}

octets-take : (k : ℕ) (bs : List ℕ) → Octets bs → Octets (take k bs)
octets-take zero bs h = tt
octets-take (suc k) [] h = tt
octets-take (suc k) (b ∷ bs) h = (h.0, octets-take k bs h.1)

octets-drop : (k : ℕ) (bs : List ℕ) → Octets bs → Octets (drop k bs)
octets-drop zero bs h = h
octets-drop (suc k) [] h = tt
octets-drop (suc k) (b ∷ bs) h = octets-drop k bs h.1

-- a list whose entries are bytes
pub octets_of : (bs : List ℕ) → ((k : ℕ) → get_or bs k 0 < 256) → Octets bs
octets_of [] h = tt
octets_of (b ∷ bs) h = (h 0, octets_of bs (λ k. h (suc k)))

two_small : (bs : List ℕ) → Octets bs → length bs ≤ 2 → from_little bs < 65536
unfolding from_little
two_small [] h l = omega arith
two_small (a ∷ []) h l = omega (arith, h.0)
two_small (a ∷ b ∷ []) h l = omega (arith, h.0, h.1.0)
two_small (a ∷ b ∷ c ∷ bs) h l = absurd (omega arith)

four_small : (bs : List ℕ) → Octets bs → length bs ≡ 4 → from_little bs < 4294967296
unfolding from_little
four_small (a ∷ b ∷ c ∷ d ∷ []) h l = omega (arith, h.0, h.1.0, h.1.1.0, h.1.1.1.0)
four_small [] h l = absurd (omega (arith, l))
four_small (a ∷ []) h l = absurd (omega (arith, l))
four_small (a ∷ b ∷ []) h l = absurd (omega (arith, l))
four_small (a ∷ b ∷ c ∷ []) h l = absurd (omega (arith, l))
four_small (a ∷ b ∷ c ∷ d ∷ e ∷ bs) h l = absurd (omega (arith, l))

-- what is known of a whole record among bytes
record Taken (bs : List ℕ) (r : Front) : Type 0 where
  kind : r.kind < 65536
  small : length r.payload ≤ limit
  payload : Octets r.payload
  rest : Octets r.rest
  all : 6 + length r.payload + length r.rest ≡ length bs

taken : (bs : List ℕ) (r : Front) → Octets bs → front bs ≡ some r → Taken bs r
taken bs r h e =
    let x = front_cut bs r e in
    let n = size_of bs in
    record {
      kind = subst (λ (f : Front). f.kind < 65536) x.2 (two_small (take 2 (drop 4 bs)) (octets-take 2 (drop 4 bs) (octets-drop 4 bs h)) (omega (arith, length-take 2 (drop 4 bs))));
      small = subst (λ (f : Front). length f.payload ≤ limit) x.2 (omega (arith, x.1, length-take n (drop 6 bs)));
      payload = subst (λ (f : Front). Octets f.payload) x.2 (octets-take n (drop 6 bs) (octets-drop 6 bs h));
      rest = subst (λ (f : Front). Octets f.rest) x.2 (octets-drop (6 + n) bs h);
      all = whole-length bs r e;
    }

value_small : (kind : ℕ) (payload : List ℕ) → kind < 65536 → length payload ≤ limit → length (line_of (value kind payload)) ≤ 2 * (6 + length payload)
unfolding limit
value_small kind payload k s = go (ltb (length payload) 10) refl
  where
    line : length (line_of (value kind payload)) ≤ 8 + length (decimal (length payload)) + length payload
    line = omega (arith, length_value kind payload, length_number kind 32, length_number (length payload) 32, decimal-short 4 kind (omega arith))

    go : (t : Bool) → ltb (length payload) 10 ≡ t → length (line_of (value kind payload)) ≤ 2 * (6 + length payload)
    go true e = omega (arith, line, length-small (length payload) (ltb-true (length payload) 10 e))
    go false e = omega (arith, line, ltb-false (length payload) 10 e, decimal-short 9 (length payload) (omega arith))

count_small : (kind n : ℕ) → kind < 65536 → n < 4294967296 → length (line_of (count kind n)) ≤ 20
count_small kind n k s = omega (arith, length_count kind n, length_number kind 32, length_number 4 32, decimal-short 4 kind (omega arith), length-small 4 (omega arith), decimal-short 9 n (omega arith))

-- a line and what comes after its record
record Short (bs : List ℕ) (r : First) : Type 0 where
  line : length (line_of r.item) + 2 * length r.rest ≤ 2 * length bs
  octets : Octets r.rest

none-some : {r : First} → none ≡ some r → ⊥
none-some e = let z : ◌≡◌ {A = ℕ} 0 1 = cc in omega arith

first-short : (last due : ℕ) (bs : List ℕ) (r : First) → Octets bs → first_of last due bs ≡ some r → Short bs r
unfolding formed pick
first-short last due bs r h e = go (front bs) refl
  where
    same : {s : First} → Short bs s → some s ≡ some r → Short bs r
    same {s} q e = let z : s ≡ r = cc in subst (Short bs) z q

    shown : (x : Front) → Taken bs x → (g : Form) → formed last due x g ≡ some r → Short bs r
    shown x t wrong e = absurd (none-some e)
    shown x t argument e = same (record { line = omega (arith, t.all, value_small x.kind x.payload t.kind t.small); octets = t.rest }) e
    shown x t string e = same (record { line = omega (arith, t.all, value_small x.kind x.payload t.kind t.small); octets = t.rest }) e
    shown x t list e = sized (eqb (length x.payload) 4) refl e
      where
        sized : (b : Bool) → eqb (length x.payload) 4 ≡ b
            → pick b (some (record { item = count x.kind (from_little x.payload); rest = x.rest; last = x.kind; due = from_little x.payload })) none ≡ some r → Short bs r
        sized false q e = absurd (none-some e)
        sized true q e =
            let l = eqb-true (length x.payload) 4 q in
            same (record { line = omega (arith, t.all, l, count_small x.kind (from_little x.payload) t.kind (four_small x.payload t.payload l)); octets = t.rest }) e

    go : (o : Option Front) → front bs ≡ o → Short bs r
    go none f = absurd (none-some (sym (first-none last due bs f) ∙ e))
    go (some x) f = shown x (taken bs x h f) (form last due x.kind) (sym (by-form last due bs x f (form last due x.kind) refl) ∙ e)

first-line : (i : Item) (is : List Item) → length (lines_of (i ∷ is)) ≤ length (line_of i) + length (lines_of is)
first-line (value k p) is = omega (arith, length-append (line_of (value k p)) (lines_of is))
first-line (count k n) is = omega (arith, length-append (line_of (count k n)) (lines_of is))
first-line broken is = omega arith

within-short : (f last due : ℕ) (bs : List ℕ) → Octets bs → length (lines_of (items_within f last due bs)) ≤ 2 * length bs
unfolding items_within pick
within-short zero last due bs h = omega arith
within-short (suc f) last due bs h = go (eqb (length bs) 0 && eqb due 0) refl (first_of last due bs) refl (λ l d v o. within-short f l d v o)
  where
    go : (x : Bool) → (eqb (length bs) 0 && eqb due 0) ≡ x → (o : Option First) → first_of last due bs ≡ o
        → ((l d : ℕ) (v : List ℕ) → Octets v → length (lines_of (items_within f l d v)) ≤ 2 * length v) → length (lines_of (items_within (suc f) last due bs)) ≤ 2 * length bs
    go true x o e ih = rw (x, items_within) (omega arith)
    go false x none e ih = rw (within-broken last due bs x f e) (omega arith)
    go false x (some r) e ih =
        let s = first-short last due bs r h e in
        rw (within-first last due bs x f r e) (omega (arith, first-line r.item (items_within f r.last r.due r.rest), ih r.last r.due r.rest s.octets, s.line))

-- all lines
pub lines-short : (bs : List ℕ) → ((k : ℕ) → get_or bs k 0 < 256) → length (lines_of (items_of bs)) ≤ 2 * length bs
unfolding items_from
lines-short bs h = within-short (suc (length bs)) 0 0 bs (octets_of bs h)
