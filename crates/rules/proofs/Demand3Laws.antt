-- Demand 3: which answer the variables of a text get. Assumes nothing.
use Prim.Native.Nat.{ℕ, ◌<◌}
use mathlib.Core.Path.{◌≡◌, refl, ap, sym, ◌∙◌, subst}
use mathlib.Core.Logic.{◌↔◌}
use mathlib.Core.Bool.{true}
use mathlib.Core.List.{List, [], ◌∷◌, map}
use mathlib.Core.Option.{Option, some}
use native.Mathlib.Omega.{arith}
use lib.ListN.{length, get_or}
use Rattle.rules.specs.Tokens.{Token}
use Rattle.rules.specs.Bytes.{before}
use Rattle.rules.proofs.BytesLaws.{before-is, is-before}
use Rattle.rules.specs.Numbers.{Refusal, ◌>>=◌, in_variable, undefined_variable, content_too_large, Result, refused, ok}
use Rattle.rules.specs.Lines.{Part, Assignment, File}
use Rattle.rules.specs.Reading.{file, records_of_file, reading}
use Rattle.rules.specs.Variables.{Piece, Found, found_at, rank_of, look_up, rules_of, Resolved, too_large_at, lacks, resolved, resolve}
use Rattle.rules.specs.Variables.{key_at, resolve_variables}
use Rattle.rules.specs.Demand3.{At, Assigned, Joined, Value, HasValue, Refers, Leads, Numbered, Upto, TooLarge, Lacks, Demand3}
use Rattle.rules.proofs.Ranks as P
use Rattle.rules.proofs.RanksLaws.{height, height-one, lower}
use Rattle.rules.proofs.ResolveLaws.{too-large-iff, lacks-iff, numbered, resolve-says}
use Rattle.rules.proofs.TableLaws.{Sorted, at_lt, at_of, at_name, at-rule, at_before, place-lt, length-rules, place_of, at_place, file-sorted}

-- the parts, with their references looked up
pub data Looked (vs : List Assignment) : List Part → List Piece → Type 0 where
  nil : Looked vs [] []
  text : {s : List ℕ} {ps : List Part} {qs : List Piece} → Looked vs ps qs → Looked vs (Part.text s ∷ ps) (Piece.text s ∷ qs)
  ref : {n : Token} {j : ℕ} {ps : List Part} {qs : List Piece} → rank_of n.text vs ≡ j → Looked vs ps qs → Looked vs (Part.reference n ∷ ps) (Piece.ref n j ∷ qs)

pub looked : (vs : List Assignment) (ps : List Part) → Looked vs ps (map (look_up vs) ps)
unfolding look_up
looked vs [] = Looked.nil
looked vs (Part.text s ∷ ps) = Looked.text (looked vs ps)
looked vs (Part.reference n ∷ ps) = Looked.ref refl (looked vs ps)

module _ (vs : List Assignment) (sorted : Sorted vs) where
  abbrev pub rules : List (List Piece)
  rules = rules_of vs vs

  pub rule-at : {i : ℕ} {a : Assignment} → At vs i a → Looked vs a.value (get_or rules i [])
  rule-at {i} {a} m = rw (at-rule vs m) (looked vs a.value)

  -- an assigned name's place
  pub place-key : {key : List ℕ} {a : Assignment} (x : Assigned vs key a) → rank_of key vs ≡ x.rank
  place-key x = ap (λ (k : List ℕ). rank_of k vs) (sym x.named) ∙ place_of sorted x.at

  pub down : {ps : List Part} {qs : List Piece} {v : List ℕ} → Joined vs ps v → Looked vs ps qs → P.Joined rules qs v
  down Joined.nil Looked.nil = P.Joined.nil
  down (Joined.text d) (Looked.text l) = P.Joined.text (down d l)
  down (Joined.reference {n} {a} x d f) (Looked.ref {j = j} q l) =
      let p : x.rank ≡ j = sym (place-key x) ∙ q in
      P.Joined.ref {j = j} (omega (arith, at_lt x.at, length-rules vs vs)) (rw p at (down d (rule-at x.at))) (down f l)

  -- the assignment at a reference's place
  found : {key : List ℕ} {j : ℕ} → rank_of key vs ≡ j → j < length rules → (a : Assignment) × Assigned vs key a × Looked vs a.value (get_or rules j [])
  found {key} {j} q h =
      let x = at_place vs key (omega (arith, length-rules vs vs)) in
      (x.0, record { rank = rank_of key vs; at = x.1; named = x.2 }, subst (λ (k : ℕ). Looked vs x.0.value (get_or rules k [])) q (rule-at x.1))

  pub up : {ps : List Part} {qs : List Piece} {v : List ℕ} → P.Joined rules qs v → Looked vs ps qs → Joined vs ps v
  up P.Joined.nil Looked.nil = Joined.nil
  up (P.Joined.text d) (Looked.text {ps = ps} l) = Joined.text (up {ps = ps} d l)
  up (P.Joined.ref h d f) (Looked.ref {ps = ps} q l) = let x = found q h in Joined.reference x.1 (up {ps = x.0.value} d x.2) (up {ps = ps} f l)

  -- a name has a value exactly where its place has it
  pub value-down : {key : List ℕ} {j : ℕ} {v : List ℕ} → rank_of key vs ≡ j → Value vs key v → P.Value rules j v
  value-down {j = j} q (a, x, d) =
      let p : x.rank ≡ j = sym (place-key x) ∙ q in
      (omega (arith, at_lt x.at, length-rules vs vs), rw p at (down d (rule-at x.at)))

  pub value-up : {key : List ℕ} {j : ℕ} {v : List ℕ} → rank_of key vs ≡ j → P.Value rules j v → Value vs key v
  value-up q x = let y = found q x.0 in (y.0, y.1, up x.1 y.2)

  pub upto-down : {ps : List Part} {qs : List Piece} {v : List ℕ} {e : Option Token} → Upto vs ps v e → Looked vs ps qs → P.Upto rules qs v e
  upto-down Upto.whole Looked.nil = P.Upto.whole
  upto-down (Upto.text u) (Looked.text l) = P.Upto.text (upto-down u l)
  upto-down (Upto.reference x u) (Looked.ref q l) = P.Upto.ref (value-down q x) (upto-down u l)
  upto-down (Upto.stop f) (Looked.ref q l) = P.Upto.stop (λ x. f (x.0, value-up q x.1))

  pub upto-up : {ps : List Part} {qs : List Piece} {v : List ℕ} {e : Option Token} → P.Upto rules qs v e → Looked vs ps qs → Upto vs ps v e
  upto-up P.Upto.whole Looked.nil = Upto.whole
  upto-up (P.Upto.text u) (Looked.text l) = Upto.text (upto-up u l)
  upto-up (P.Upto.ref x u) (Looked.ref q l) = Upto.reference (value-up q x) (upto-up u l)
  upto-up (P.Upto.stop f) (Looked.ref q l) = Upto.stop (λ x. f (x.0, value-down q x.1))

  large-down : TooLarge vs → P.TooLarge rules
  large-down x = (x.assigned.rank, (omega (arith, at_lt x.assigned.at, length-rules vs vs), (x.prefix, x.end, upto-down x.upto (rule-at x.assigned.at), x.large)))

  large-up : P.TooLarge rules → TooLarge vs
  large-up x =
      let y = at_of vs x.0 (omega (arith, x.1.0, length-rules vs vs)) in
      record {
        key = y.0.key.text;
        by = y.0;
        assigned = record { rank = x.0; at = y.1; named = refl };
        prefix = x.1.1.0;
        end = x.1.1.1;
        upto = upto-up x.1.1.2 (rule-at y.1);
        large = x.1.1.3;
      }

  small : {j : ℕ} {n : Token} {a : Assignment} → P.LacksAt rules j n → At vs j a → {key : List ℕ} {b : Assignment} → Assigned vs key b → before key a.key.text ≡ true → HasValue vs key
  small {j} {a = a} x m {key} {b} z h =
      let lt = place-lt sorted z.at m (rw z.named (before-is key a.key.text h)) in
      let y = x.smallest z.rank lt in
      (y.0, value-up (place-key z) y.1)

  lacks-up : {j : ℕ} {n : Token} → P.LacksAt rules j n → (a : Assignment) × (key_at vs j ≡ a.key) × Lacks vs a n
  lacks-up {j} {n} x =
      let y = at_of vs j (omega (arith, x.assigned, length-rules vs vs)) in (
        y.0,
        at_name y.1,
        record {
          assigned = record { rank = j; at = y.1; named = refl };
          without = λ h. x.without (h.0, value-down (place_of sorted y.1) h.1);
          smallest = λ key b z h. small x y.1 z h;
          prefix = x.first.0;
          first = upto-up x.first.1 (rule-at y.1);
        },
      )

  lacks-down : {a : Assignment} {n : Token} → Lacks vs a n → (j : ℕ) × (key_at vs j ≡ a.key) × P.LacksAt rules j n
  lacks-down {a} {n} x =
      let m = x.assigned.at in (
        x.assigned.rank,
        at_name m,
        record {
          assigned = omega (arith, at_lt m, length-rules vs vs);
          without = λ h. x.without (h.0, value-up (place_of sorted m) h.1);
          smallest = λ i h. let y = at_of vs i (omega (arith, at_lt m)) in let z = x.smallest y.0.key.text y.0 (record { rank = i; at = y.1; named = refl }) (is-before (at_before sorted y.1 m h)) in (z.0, value-down (place_of sorted y.1) z.1);
          first = (x.prefix, upto-down x.first (rule-at m));
        },
      )

  refers-up : {ps : List Part} {qs : List Piece} {k : ℕ} → P.Refers qs k → Looked vs ps qs → (n : Token) × Refers ps n × (rank_of n.text vs ≡ k)
  refers-up P.Refers.here (Looked.ref {n = n} q l) = (n, Refers.first, q)
  refers-up (P.Refers.there r) (Looked.text l) = let x = refers-up r l in (x.0, Refers.later x.1, x.2)
  refers-up (P.Refers.there r) (Looked.ref q l) = let x = refers-up r l in (x.0, Refers.later x.1, x.2)

  refers-down : {ps : List Part} {qs : List Piece} {n : Token} → Refers ps n → Looked vs ps qs → P.Refers qs (rank_of n.text vs)
  refers-down Refers.first (Looked.ref {n = n} {qs = qs} q l) = subst (λ (k : ℕ). P.Refers (Piece.ref n k ∷ qs) (rank_of n.text vs)) q P.Refers.here
  refers-down (Refers.later r) (Looked.text l) = P.Refers.there (refers-down r l)
  refers-down (Refers.later r) (Looked.ref q l) = P.Refers.there (refers-down r l)

  number_at : (num : List ℕ → ℕ) {j k : ℕ} {a b : Assignment} (key : List ℕ) → At vs j a → Assigned vs key b → rank_of key vs ≡ k → num key < num a.key.text
      → (k < length rules) × (num (key_at vs k).text < num (key_at vs j).text)
  number_at num {j} {k} {a} {b} key m z q lt =
      let p : z.rank ≡ k = sym (place-key z) ∙ q in
      let e : (key_at vs k).text ≡ key = ap (λ (i : ℕ). (key_at vs i).text) (sym p) ∙ ap (λ (n : Token). n.text) (at_name z.at) ∙ z.named in
      (omega (arith, at_lt z.at, length-rules vs vs), rw (e, at_name m) lt)

  pub number-down : (num : List ℕ → ℕ) → Numbered vs num → P.Numbered rules (λ i. num (key_at vs i).text)
  number-down num f j h k r =
      let y = at_of vs j (omega (arith, length-rules vs vs)) in
      let x = refers-up r (rule-at y.1) in
      let z = f y.0.key.text y.0 (record { rank = j; at = y.1; named = refl }) x.0 x.1 in
      number_at num x.0.text y.1 z.0.1 x.2 z.1

  pub number_up : (num : ℕ → ℕ) → P.Numbered rules num → Numbered vs (λ key. num (rank_of key vs))
  number_up num f key a x n r =
      let y = f x.rank (omega (arith, at_lt x.at, length-rules vs vs)) (rank_of n.text vs) (refers-down r (rule-at x.at)) in
      let z = found refl y.0 in
      ((z.0, z.1), rw (place-key x) y.1)

  -- what a value's references lead to is assigned, and less goes into it
  leads : {ps : List Part} {key : List ℕ} {qs : List Piece} {v : List ℕ} → Leads vs ps key → Looked vs ps qs → (d : P.Joined rules qs v)
      → (rank_of key vs < length rules) × ((u : List ℕ) × (d' : P.Joined rules (get_or rules (rank_of key vs) []) u) × (height rules d' < height rules d))
  leads (Leads.to r) l d = lower rules d (refers-down r l)
  leads (Leads.through {n = n} r x t) l d =
      let y = lower rules d (refers-down r l) in
      let z = leads t (rw (place-key x) (rule-at x.at)) y.1.1 in
      (z.0, (z.1.0, z.1.1, omega (arith, z.1.2, y.1.2)))

  -- a name that leads to itself has no value, and neither has one that leads to a name that is not assigned
  pub cycle : {key : List ℕ} {a : Assignment} → Assigned vs key a → Leads vs a.value key → HasValue vs key → ⊥
  cycle {key} {a} x t h =
      let d = (value-down refl h.1).1 in
      let y = leads t (rw (place-key x) (rule-at x.at)) d in
      omega (arith, y.1.2, height-one rules d y.1.1)

  pub leads-assigned : {key to : List ℕ} {a : Assignment} → Assigned vs key a → Leads vs a.value to → HasValue vs key → HasValue vs to
  leads-assigned {key} {to} x t h =
      let d = (value-down refl h.1).1 in
      let y = leads t (rw (place-key x) (rule-at x.at)) d in
      (y.1.0, value-up refl (y.0, y.1.1))

  -- the answer that the passes give, as `resolve_variables` hands it on
  unfoldable pub Handed : Resolved → Result Found → Type 0
  Handed (too_large_at i) r = r ≡ refused (content_too_large (in_variable (key_at vs i)))
  Handed (lacks i n) r = r ≡ refused (undefined_variable n (in_variable (key_at vs i)))
  Handed (resolved vals) r = r ≡ ok vals

  pub handed : Handed (resolve rules) (resolve_variables vs)
  unfolding resolve_variables Handed
  handed = go (resolve rules) refl
    where
      go : (r : Resolved) → resolve rules ≡ r → Handed (resolve rules) (resolve_variables vs)
      go (too_large_at i) q = rw (q, resolve_variables) refl
      go (lacks i n) q = rw (q, resolve_variables) refl
      go (resolved vals) q = rw (q, resolve_variables) refl

  -- the variables resolve exactly when nothing is too large and the assigned names can be numbered
  pub resolve-exactly : ((vals : Found) × (resolve_variables vs ≡ ok vals)) ↔ ((TooLarge vs → ⊥) × ((num : List ℕ → ℕ) × Numbered vs num))
  unfolding Handed
  resolve-exactly = (
    λ x. go x.0 x.1 (resolve rules) refl handed,
    λ x. let y = (numbered rules).1 (λ z. x.0 (large-up z), ((λ i. x.1.0 (key_at vs i).text), number-down x.1.0 x.1.1)) in (y.0, rw y.1 at handed),
  )
    where
      go : (vals : Found) → resolve_variables vs ≡ ok vals → (r : Resolved) → resolve rules ≡ r → Handed r (resolve_variables vs) → (TooLarge vs → ⊥) × ((num : List ℕ → ℕ) × Numbered vs num)
      go vals e (too_large_at i) q h = let z : ◌≡◌ {A = ℕ} 0 1 = cc in absurd (omega arith)
      go vals e (lacks i n) q h = let z : ◌≡◌ {A = ℕ} 0 1 = cc in absurd (omega arith)
      go vals e (resolved after) q h =
          let y = (numbered rules).0 (after, q) in
          (λ z. y.0 (large-down z), ((λ key. y.1.0 (rank_of key vs)), number_up y.1.0 y.1.1))

  pub has_all : (vals : Found) → resolve_variables vs ≡ ok vals → P.HasAll rules vals
  unfolding Handed
  has_all vals e = go (resolve rules) refl handed (resolve-says rules)
    where
      go : (r : Resolved) → resolve rules ≡ r → Handed r (resolve_variables vs) → P.Says rules r → P.HasAll rules vals
      go (too_large_at i) q h s = let z : ◌≡◌ {A = ℕ} 0 1 = cc in absurd (omega arith)
      go (lacks i n) q h s = let z : ◌≡◌ {A = ℕ} 0 1 = cc in absurd (omega arith)
      go (resolved after) q h s = let p : after ≡ vals = cc in rw p at s.1

  -- and a name's value is then its parts joined
  pub values-are : (vals : Found) → resolve_variables vs ≡ ok vals → {key : List ℕ} {a : Assignment} (x : Assigned vs key a) → (v : List ℕ) × (found_at vals x.rank ≡ some v) × Value vs key v
  values-are vals e x =
      let y = (has_all vals e).each x.rank (omega (arith, at_lt x.at, length-rules vs vs)) in
      (y.0, y.2, value-up (place-key x) y.1)

  -- 16 exactly when something is too large
  pub too-large-exactly : ((k : Token) × (resolve_variables vs ≡ refused (content_too_large (in_variable k)))) ↔ TooLarge vs
  unfolding Handed
  too-large-exactly = (
    λ x. go x.0 x.1 (resolve rules) refl handed,
    λ x. let y = (too-large-iff rules).1 (large-down x) in (key_at vs y.0, rw y.1 at handed),
  )
    where
      go : (k : Token) → resolve_variables vs ≡ refused (content_too_large (in_variable k)) → (r : Resolved) → resolve rules ≡ r → Handed r (resolve_variables vs) → TooLarge vs
      go k e (too_large_at i) q h = large-up ((too-large-iff rules).0 (i, q))
      go k e (lacks i n) q h = let z : ◌≡◌ {A = ℕ} 0 1 = cc in absurd (omega arith)
      go k e (resolved after) q h = let z : ◌≡◌ {A = ℕ} 0 1 = cc in absurd (omega arith)

  -- 15 exactly otherwise: for the smallest assigned name without a value, with its first reference that has none
  pub lacks-exactly : (n k : Token) → (resolve_variables vs ≡ refused (undefined_variable n (in_variable k))) ↔ ((TooLarge vs → ⊥) × ((a : Assignment) × (a.key ≡ k) × Lacks vs a n))
  unfolding Handed
  lacks-exactly n k = (
    λ e. go e (resolve rules) refl handed,
    λ x.
        let y = lacks-down x.1.2 in
        let z : resolve rules ≡ lacks y.0 n = (lacks-iff rules y.0 n).1 (λ l. x.0 (large-up l), y.2) in
        let h : resolve_variables vs ≡ refused (undefined_variable n (in_variable (key_at vs y.0))) = rw z at handed in
        cc (y.1, x.1.1),
  )
    where
      go : resolve_variables vs ≡ refused (undefined_variable n (in_variable k)) → (r : Resolved) → resolve rules ≡ r → Handed r (resolve_variables vs) → (TooLarge vs → ⊥) × ((a : Assignment) × (a.key ≡ k) × Lacks vs a n)
      go e (too_large_at i) q h = let z : ◌≡◌ {A = ℕ} 0 1 = cc in absurd (omega arith)
      go e (resolved after) q h = let z : ◌≡◌ {A = ℕ} 0 1 = cc in absurd (omega arith)
      go e (lacks i m) q h =
          let p : m ≡ n = cc in
          let p' : key_at vs i ≡ k = cc in
          let y = (lacks-iff rules i m).0 q in
          let z = lacks-up y.1 in
          (λ l. y.0 (large-down l), (z.0, sym z.1 ∙ p', subst (λ (x : Token). Lacks vs z.0 x) p z.2))

-- of a text whose lines all read
pub demand3 : (input : List ℕ) (f : File) → file input ≡ ok f → Demand3 f.variables (resolve_variables f.variables)
demand3 input f e =
    let s = file-sorted input f e in
    record {
      resolves = resolve-exactly f.variables s;
      values = values-are f.variables s;
      cycles = cycle f.variables s;
      leading = leads-assigned f.variables s;
      too_large = too-large-exactly f.variables s;
      lacking = lacks-exactly f.variables s;
    }

-- what the variables are refused for is what the text is refused for
pub reading-refused : (input : List ℕ) (f : File) (r : Refusal) → file input ≡ ok f → resolve_variables f.variables ≡ refused r → reading input ≡ refused r
unfolding reading records_of_file ◌>>=◌
reading-refused input f r e q = rw (e, q, reading, records_of_file, ◌>>=◌) refl
