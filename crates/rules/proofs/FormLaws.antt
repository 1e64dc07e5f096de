-- Document 01, "Records and listing": the listing takes exactly the bytes that are records in form. Assumes nothing.
use Prim.Native.Nat.{ℕ, zero, suc, ◌+◌, ◌*◌, ◌^◌, ◌/◌, ◌%◌, ◌<◌, ◌≤◌}
use mathlib.Core.Path.{◌≡◌, refl, ap, sym, ◌∙◌, subst}
use mathlib.Core.Logic.{◌↔◌}
use mathlib.Core.Bool.{Bool, true, false, ◌&&◌}
use mathlib.Core.List.{List, [], ◌∷◌, ◌++◌, append_assoc}
use mathlib.Core.Option.{Option, none, some}
use native.Mathlib.Omega.{arith}
use lib.ListN.{length, take, drop, take-append-drop, length-drop}
use lib.Seq.{length-take-le, drop-drop}
use lib.Dec.{ltb, leb, eqb}
use borrow.Author.Tests.{ltb-true, leb-true, eqb-true, leb-false}
use Rattle.rules.specs.Bytes.{pick, to_little, from_little}
use Rattle.rules.specs.Lines.{is_string}
use Rattle.rules.specs.Variables.{limit}
use Rattle.rules.specs.Fields.{single, many, Present}
use Rattle.rules.specs.Records.{record_bytes, argument_records, records_of, records}
use Rattle.rules.specs.Listing.{decimal, listing_line, Form, form, prefixed, less, Front, front, listing_lines}
use Rattle.rules.proofs.ListingLaws.{argument_lines, content_lines, field_lines, AllSmall, InOrder, listing-reads}
use Rattle.rules.proofs.PassesLaws.{none-some}

abbrev pub Octets : List ℕ → Type 0
Octets [] = Unit {0}
Octets (b ∷ bs) = (b < 256) × Octets bs

octets-take : (k : ℕ) (bs : List ℕ) → Octets bs → Octets (take k bs)
octets-take zero bs h = tt
octets-take (suc k) [] h = tt
octets-take (suc k) (b ∷ bs) h = (h.0, octets-take k bs h.1)

octets-drop : (k : ℕ) (bs : List ℕ) → Octets bs → Octets (drop k bs)
octets-drop zero bs h = h
octets-drop (suc k) [] h = tt
octets-drop (suc k) (b ∷ bs) h = octets-drop k bs h.1

little-big : (bs : List ℕ) → Octets bs → to_little (length bs) (from_little bs) ≡ bs
unfolding to_little from_little
little-big [] h = refl
little-big (b ∷ bs) h =
    let e : (b + 256 * from_little bs) % 256 ≡ b = omega (arith, h.0) in
    let f : (b + 256 * from_little bs) / 256 ≡ from_little bs = omega (arith, h.0) in
    rw (e, f) (ap (λ (x : List ℕ). b ∷ x) (little-big bs h.1))

little-of : (k : ℕ) (bs : List ℕ) → Octets bs → length bs ≡ k → to_little k (from_little bs) ≡ bs
little-of k bs h e = subst (λ (x : ℕ). to_little x (from_little bs) ≡ bs) e (little-big bs h)

big-four : (bs : List ℕ) → Octets bs → length bs ≡ 4 → from_little bs < 256 ^ 4
unfolding from_little
big-four (a ∷ b ∷ c ∷ d ∷ []) h e = omega (arith, h.0, h.1.0, h.1.1.0, h.1.1.1.0)
big-four [] h e = absurd (omega (arith, e))
big-four (a ∷ []) h e = absurd (omega (arith, e))
big-four (a ∷ b ∷ []) h e = absurd (omega (arith, e))
big-four (a ∷ b ∷ c ∷ []) h e = absurd (omega (arith, e))
big-four (a ∷ b ∷ c ∷ d ∷ x ∷ bs) h e = absurd (omega (arith, e))

and-true : (a b : Bool) → (a && b) ≡ true → (a ≡ true) × (b ≡ true)
and-true true true e = (refl, refl)
and-true true false e = (refl, e)
and-true false b e = let z : ◌≡◌ {A = ℕ} 0 1 = cc in absurd (omega arith)

abbrev pub size_of : List ℕ → ℕ
size_of bytes = from_little (take 4 bytes)

abbrev pub cut : List ℕ → Front
cut bytes = record { kind = from_little (take 2 (drop 4 bytes)); payload = take (size_of bytes) (drop 6 bytes); rest = drop (6 + size_of bytes) bytes }

pub front_cut : (bytes : List ℕ) (r : Front) → front bytes ≡ some r → (6 + size_of bytes ≤ length bytes) × (size_of bytes ≤ limit) × (cut bytes ≡ r)
unfolding front
front_cut bytes r e = go (leb (6 + size_of bytes) (length bytes) && leb (size_of bytes) limit) refl
  where
    go : (t : Bool) → (leb (6 + size_of bytes) (length bytes) && leb (size_of bytes) limit) ≡ t → (6 + size_of bytes ≤ length bytes) × (size_of bytes ≤ limit) × (cut bytes ≡ r)
    go false q = let z : none ≡ some r = rw (q, front) at e in absurd (none-some refl z)
    go true q =
        let z : some (cut bytes) ≡ some r = rw (q, front) at e in
        let p = and-true (leb (6 + size_of bytes) (length bytes)) (leb (size_of bytes) limit) q in
        (leb-true (6 + size_of bytes) (length bytes) p.0, leb-true (size_of bytes) limit p.1, cc)

cut-is : (bytes : List ℕ) → Octets bytes → 6 + size_of bytes ≤ length bytes → bytes ≡ record_bytes (cut bytes).kind (cut bytes).payload ++ (cut bytes).rest
unfolding record_bytes to_little from_little
cut-is bytes h l =
    let n = size_of bytes in
    let p : length (take n (drop 6 bytes)) ≡ n = length-take-le n (drop 6 bytes) (omega (arith, length-drop 6 bytes)) in
    let a : to_little 4 (length (take n (drop 6 bytes))) ≡ take 4 bytes = ap (to_little 4) p ∙ little-of 4 (take 4 bytes) (octets-take 4 bytes h) (length-take-le 4 bytes (omega arith)) in
    let b : to_little 2 (from_little (take 2 (drop 4 bytes))) ≡ take 2 (drop 4 bytes) = little-of 2 (take 2 (drop 4 bytes)) (octets-take 2 (drop 4 bytes) (octets-drop 4 bytes h)) (length-take-le 2 (drop 4 bytes) (omega (arith, length-drop 4 bytes))) in
    let c : drop 4 bytes ≡ take 2 (drop 4 bytes) ++ drop 6 bytes = sym (take-append-drop 2 (drop 4 bytes)) ∙ ap (λ (x : List ℕ). take 2 (drop 4 bytes) ++ x) (drop-drop 2 4 bytes) in
    let d : drop 6 bytes ≡ take n (drop 6 bytes) ++ drop (6 + n) bytes = sym (take-append-drop n (drop 6 bytes)) ∙ ap (λ (x : List ℕ). take n (drop 6 bytes) ++ x) (drop-drop n 6 bytes) in
    let w : bytes ≡ take 4 bytes ++ (take 2 (drop 4 bytes) ++ (take n (drop 6 bytes) ++ drop (6 + n) bytes)) =
    sym (take-append-drop 4 bytes) ∙ ap (λ (x : List ℕ). take 4 bytes ++ x) (c ∙ ap (λ (x : List ℕ). take 2 (drop 4 bytes) ++ x) d) in
    w ∙ sym (append_assoc (take 4 bytes) (take 2 (drop 4 bytes) ++ take n (drop 6 bytes)) (drop (6 + n) bytes) ∙ ap (λ (x : List ℕ). take 4 bytes ++ x) (append_assoc (take 2 (drop 4 bytes)) (take n (drop 6 bytes)) (drop (6 + n) bytes)))
    ∙ ap (λ (x : List ℕ). x ++ drop (6 + n) bytes) (sym (ap (λ (x : List ℕ). x ++ (to_little 2 (from_little (take 2 (drop 4 bytes))) ++ take n (drop 6 bytes))) a ∙ ap (λ (x : List ℕ). take 4 bytes ++ (x ++ take n (drop 6 bytes))) b))

-- the record at the front, taken apart
pub record Taken (bytes : List ℕ) (r : Front) : Type 0 where
  pub whole : bytes ≡ record_bytes r.kind r.payload ++ r.rest
  pub small : length r.payload ≤ limit
  pub payloads : Octets r.payload
  pub more : Octets r.rest

taken : (bytes : List ℕ) (r : Front) → Octets bytes → front bytes ≡ some r → Taken bytes r
taken bytes r h e =
    let x = front_cut bytes r e in
    subst (λ (f : Front). Taken bytes f) x.2 (record {
      whole = cut-is bytes h x.0;
      small = let p : length (take (size_of bytes) (drop 6 bytes)) ≡ size_of bytes = length-take-le (size_of bytes) (drop 6 bytes) (omega (arith, length-drop 6 bytes, x.0)) in omega (arith, p, x.1);
      payloads = octets-take (size_of bytes) (drop 6 bytes) (octets-drop 6 bytes h);
      more = octets-drop (6 + size_of bytes) bytes h;
    })

abbrev FormSays : ℕ → ℕ → ℕ → Form → Type 0
FormSays last due kind Form.argument = (d : ℕ) × (due ≡ suc d) × (kind ≡ 11)
FormSays last due kind Form.string = (due ≡ 0) × (last < kind) × (kind ≤ 7)
FormSays last due kind Form.list = (due ≡ 0) × (last < kind) × (7 < kind) × (kind ≤ 10)
FormSays last due kind Form.wrong = Unit {0}

form-says : (last due kind : ℕ) → FormSays last due kind (form last due kind)
unfolding form is_string
form-says last (suc due) kind = go (eqb kind 11) refl
  where
    go : (t : Bool) → eqb kind 11 ≡ t → FormSays last (suc due) kind (form last (suc due) kind)
    go true q = rw (q, form) (due, refl, eqb-true kind 11 q)
    go false q = rw (q, form) tt
form-says last zero kind = go (ltb last kind) refl (leb kind 7) refl (leb kind 10) refl
  where
    go : (x : Bool) → ltb last kind ≡ x → (y : Bool) → leb kind 7 ≡ y → (z : Bool) → leb kind 10 ≡ z → FormSays last zero kind (form last zero kind)
    go false q y p z r = rw (q, form) tt
    go true q true p z r = rw (q, form) (rw p (refl, ltb-true last kind q, leb-true kind 7 p))
    go true q false p true r = rw (q, form) (rw p (rw r (refl, ltb-true last kind q, leb-false kind 7 p, leb-true kind 10 r)))
    go true q false p false r = rw (q, form) (rw p (rw r tt))

-- bytes that are records in form: the arguments still due, then fields after the `last`
pub record Parsed (last due : ℕ) (bytes shown : List ℕ) : Type 0 where
  pub vs : List (List ℕ)
  pub ps : List Present
  pub count : length vs ≡ due
  pub small : AllSmall vs
  pub order : InOrder last ps
  pub form : bytes ≡ argument_records vs ++ records ps
  pub text : shown ≡ argument_lines vs ++ field_lines ps

prefixed-inv : (xs : List ℕ) (o : Option (List ℕ)) (s : List ℕ) → prefixed xs o ≡ some s → (ys : List ℕ) × (o ≡ some ys) × (s ≡ xs ++ ys)
unfolding prefixed
prefixed-inv xs none s e = absurd (none-some refl e)
prefixed-inv xs (some ys) s e = let z : xs ++ ys ≡ s = cc in (ys, refl, sym z)

empty-one : (l : List ℕ) → length l ≡ 0 → l ≡ []
empty-one [] e = refl
empty-one (x ∷ xs) e = absurd (omega (arith, e))

none_left : (vs : List (List ℕ)) → length vs ≡ 0 → vs ≡ []
none_left [] e = refl
none_left (x ∷ xs) e = absurd (omega (arith, e))

module _ (fuel last due : ℕ) (bytes shown : List ℕ) (h : Octets bytes) where
  abbrev IH : Type 0
  IH = (last' due' : ℕ) (b s : List ℕ) → Octets b → listing_lines fuel last' due' b ≡ some s → Parsed last' due' b s

  at-end : length bytes ≡ 0 → due ≡ 0 → shown ≡ [] → Parsed last due bytes shown
  unfolding argument_records records argument_lines field_lines
  at-end e d s = record { vs = []; ps = []; count = sym d; small = tt; order = tt; form = empty-one bytes e; text = s }

  module _ (r : Front) (t : Taken bytes r) where
    an-argument : (d : ℕ) → due ≡ suc d → r.kind ≡ 11 → (ys : List ℕ) → shown ≡ listing_line r.kind (length r.payload) r.payload ++ ys → Parsed last d r.rest ys → Parsed last due bytes shown
    unfolding argument_records argument_lines
    an-argument d e k ys s p = record {
      vs = r.payload ∷ p.vs;
      ps = p.ps;
      count = ap suc p.count ∙ sym e;
      small = (t.small, p.small);
      order = p.order;
      form = t.whole ∙ ap (λ (x : ℕ). record_bytes x r.payload ++ r.rest) k ∙ ap (λ (x : List ℕ). record_bytes 11 r.payload ++ x) p.form ∙ sym (append_assoc (record_bytes 11 r.payload) (argument_records p.vs) (records p.ps));
      text = s ∙ ap (λ (x : ℕ). listing_line x (length r.payload) r.payload ++ ys) k ∙ ap (λ (x : List ℕ). listing_line 11 (length r.payload) r.payload ++ x) p.text ∙ sym (append_assoc (listing_line 11 (length r.payload) r.payload) (argument_lines p.vs) (field_lines p.ps));
    }

    a-string : due ≡ 0 → last < r.kind → r.kind ≤ 7 → (ys : List ℕ) → shown ≡ listing_line r.kind (length r.payload) r.payload ++ ys → Parsed r.kind 0 r.rest ys → Parsed last due bytes shown
    unfolding argument_records argument_lines records records_of field_lines content_lines
    a-string e k l ys s p =
        let q : p.vs ≡ [] = none_left p.vs p.count in
        record {
          vs = [];
          ps = record { number = r.kind; content = single r.payload } ∷ p.ps;
          count = sym e;
          small = tt;
          order = (k, (l, t.small), p.order);
          form = t.whole ∙ ap (λ (x : List ℕ). record_bytes r.kind r.payload ++ x) (p.form ∙ ap (λ (x : List (List ℕ)). argument_records x ++ records p.ps) q);
          text = s ∙ ap (λ (x : List ℕ). listing_line r.kind (length r.payload) r.payload ++ x) (p.text ∙ ap (λ (x : List (List ℕ)). argument_lines x ++ field_lines p.ps) q);
        }

    a-list : due ≡ 0 → last < r.kind → 7 < r.kind → r.kind ≤ 10 → length r.payload ≡ 4 → (ys : List ℕ) → shown ≡ listing_line r.kind 4 (decimal (from_little r.payload)) ++ ys → Parsed r.kind (from_little r.payload) r.rest ys → Parsed last due bytes shown
    unfolding argument_records argument_lines records records_of field_lines content_lines
    a-list e k l m four ys s p =
        let n : to_little 4 (length p.vs) ≡ r.payload = ap (to_little 4) p.count ∙ little-of 4 r.payload t.payloads four in
        record {
          vs = [];
          ps = record { number = r.kind; content = many p.vs } ∷ p.ps;
          count = sym e;
          small = tt;
          order = (k, (l, m, omega (arith, p.count, big-four r.payload t.payloads four), p.small), p.order);
          form = t.whole ∙ ap (λ (x : List ℕ). record_bytes r.kind x ++ r.rest) (sym n) ∙ ap (λ (x : List ℕ). record_bytes r.kind (to_little 4 (length p.vs)) ++ x) p.form
              ∙ sym (append_assoc (record_bytes r.kind (to_little 4 (length p.vs))) (argument_records p.vs) (records p.ps));
          text = s ∙ ap (λ (x : ℕ). listing_line r.kind 4 (decimal x) ++ ys) (sym p.count) ∙ ap (λ (x : List ℕ). listing_line r.kind 4 (decimal (length p.vs)) ++ x) p.text
              ∙ sym (append_assoc (listing_line r.kind 4 (decimal (length p.vs))) (argument_lines p.vs) (field_lines p.ps));
        }

  step : IH → listing_lines (suc fuel) last due bytes ≡ some shown → Parsed last due bytes shown
  unfolding listing_lines pick less
  step ih e = start (eqb (length bytes) 0) refl
    where
      listed : (r : Front) → Taken bytes r → eqb (length bytes) 0 ≡ false → front bytes ≡ some r → form last due r.kind ≡ Form.list → FormSays last due r.kind Form.list
          → (b : Bool) → eqb (length r.payload) 4 ≡ b → Parsed last due bytes shown
      listed r t q f p says false g = let z : none ≡ some shown = rw g at (rw p at (rw f at (rw (q, listing_lines) at e))) in absurd (none-some refl z)
      listed r t q f p says true g =
          let z : prefixed (listing_line r.kind 4 (decimal (from_little r.payload))) (listing_lines fuel r.kind (from_little r.payload) r.rest) ≡ some shown = rw g at (rw p at (rw f at (rw (q, listing_lines) at e))) in
          let y = prefixed-inv (listing_line r.kind 4 (decimal (from_little r.payload))) (listing_lines fuel r.kind (from_little r.payload) r.rest) shown z in
          a-list r t says.0 says.1 says.2 says.3 (eqb-true (length r.payload) 4 g) y.0 y.2 (ih r.kind (from_little r.payload) r.rest y.0 t.more y.1)

      placed : (r : Front) → Taken bytes r → eqb (length bytes) 0 ≡ false → front bytes ≡ some r → (x : Form) → form last due r.kind ≡ x → FormSays last due r.kind x → Parsed last due bytes shown
      placed r t q f Form.wrong p says = let z : none ≡ some shown = rw p at (rw f at (rw (q, listing_lines) at e)) in absurd (none-some refl z)
      placed r t q f Form.argument p says =
          let z : prefixed (listing_line r.kind (length r.payload) r.payload) (listing_lines fuel last (less due) r.rest) ≡ some shown = rw p at (rw f at (rw (q, listing_lines) at e)) in
          let y = prefixed-inv (listing_line r.kind (length r.payload) r.payload) (listing_lines fuel last (less due) r.rest) shown z in
          let d : less due ≡ says.0 = ap less says.1 in
          an-argument r t says.0 says.1 says.2 y.0 y.2 (ih last says.0 r.rest y.0 t.more (subst (λ (k : ℕ). listing_lines fuel last k r.rest ≡ some y.0) d y.1))
      placed r t q f Form.string p says =
          let z : prefixed (listing_line r.kind (length r.payload) r.payload) (listing_lines fuel r.kind 0 r.rest) ≡ some shown = rw p at (rw f at (rw (q, listing_lines) at e)) in
          let y = prefixed-inv (listing_line r.kind (length r.payload) r.payload) (listing_lines fuel r.kind 0 r.rest) shown z in
          a-string r t says.0 says.1 says.2 y.0 y.2 (ih r.kind 0 r.rest y.0 t.more y.1)
      placed r t q f Form.list p says = listed r t q f p says (eqb (length r.payload) 4) refl

      fronted : eqb (length bytes) 0 ≡ false → (o : Option Front) → front bytes ≡ o → Parsed last due bytes shown
      fronted q none f = let z : none ≡ some shown = rw f at (rw (q, listing_lines) at e) in absurd (none-some refl z)
      fronted q (some r) f = placed r (taken bytes r h f) q f (form last due r.kind) refl (form-says last due r.kind)

      ended : eqb (length bytes) 0 ≡ true → (b : Bool) → eqb due 0 ≡ b → Parsed last due bytes shown
      ended q true d =
          let z : some [] ≡ some shown = rw d at (rw (q, listing_lines) at e) in
          let w : [] ≡ shown = cc in
          at-end (eqb-true (length bytes) 0 q) (eqb-true due 0 d) (sym w)
      ended q false d = let z : none ≡ some shown = rw d at (rw (q, listing_lines) at e) in absurd (none-some refl z)

      start : (b : Bool) → eqb (length bytes) 0 ≡ b → Parsed last due bytes shown
      start true q = ended q (eqb due 0) refl
      start false q = fronted q (front bytes) refl

accepted : (fuel last due : ℕ) (bytes shown : List ℕ) → Octets bytes → listing_lines fuel last due bytes ≡ some shown → Parsed last due bytes shown
unfolding listing_lines
accepted zero last due bytes shown h e = absurd (none-some refl e)
accepted (suc fuel) last due bytes shown h e = step fuel last due bytes shown h (λ last' due' b s h' e'. accepted fuel last' due' b s h' e') e

-- The listing takes bytes exactly when they are the records of fields in order, and shows these fields' lines
pub form-exactly : (bytes shown : List ℕ) → Octets bytes
    → (listing_lines (suc (length bytes)) 0 0 bytes ≡ some shown) ↔ ((ps : List Present) × InOrder 0 ps × (bytes ≡ records ps) × (shown ≡ field_lines ps))
unfolding argument_records argument_lines
form-exactly bytes shown h = (
  λ e.
      let p = accepted (suc (length bytes)) 0 0 bytes shown h e in
      let q : p.vs ≡ [] = none_left p.vs p.count in
      (p.ps, p.order, p.form ∙ ap (λ (x : List (List ℕ)). argument_records x ++ records p.ps) q, p.text ∙ ap (λ (x : List (List ℕ)). argument_lines x ++ field_lines p.ps) q),
  λ x. rw (x.2, x.3) (listing-reads x.0 x.1),
)
