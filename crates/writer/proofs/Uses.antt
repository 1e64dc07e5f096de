-- For the layer above: the first call, writing one thing after another, and the values of document 01's rules. Assumes nothing.
use Prim.Native.Nat.{ℕ, ◌+◌, ◌*◌, ◌-◌, ◌<◌, ◌≤◌}
use mathlib.Core.Path.{◌≡◌, refl, sym, ◌∙◌, ap}
use mathlib.Core.Bool.{Bool, true, false}
use mathlib.Core.List.{List, [], ◌∷◌, ◌++◌, append-nil, append_assoc}
use mathlib.Core.Option.{Option, none, some}
use native.Mathlib.Nat.{add-zero}
use native.Mathlib.Decide.{dec_lt}
use native.Mathlib.Omega.{arith}
use lib.Dec.{ltb}
use lib.ListN.{length, get_or, take, drop, replicate, length-append, length-map, get_or-eq_default}
use Rattle.rules.specs.Numbers.{ok}
use Rattle.rules.specs.Lines.{Assignment}
use Rattle.rules.specs.Variables.{Piece, rules_of, Found, Resolved, too_large_at, lacks, resolve_variables, found_at, resolved, resolve, limit, Expansion, large, missing, bounded, expand}
use Rattle.rules.proofs.Lengths.{entries}
use Rattle.rules.proofs.TableLaws.{ok-one, refused-ok}
use Rattle.scan.specs.Stores.{puts}
use Rattle.scan.proofs.Stores.{puts-puts, puts_comm, column-before, column-after}
use Rattle.workspace.specs.Map.{keys_of, ends_of, lengths_of, variables_in, rules_in, Looked}
use Rattle.workspace.proofs.Links.{rules-looked}
use Rattle.writer.specs.Tables.{Tables, tables_in, values_of, or_empty, value, joined}
use Rattle.writer.specs.Writing.{place_in, Held, Remembered, Known, Ready, Written}
use Rattle.writer.proofs.Places.{forgotten}
use Rattle.writer.proofs.Sounds.{has_all}

-- where the variables of the workspace resolve, so do the rules in it
found-by : (vs : List Assignment) (vals : Found) → resolve_variables vs ≡ ok vals → resolve (rules_of vs vs) ≡ resolved vals
unfolding resolve_variables
found-by vs vals e = go (resolve (rules_of vs vs)) refl
  where
    go : (x : Resolved) → resolve (rules_of vs vs) ≡ x → x ≡ resolved vals
    go (too_large_at i) q = absurd (refused-ok (rw (q, resolve_variables) at e))
    go (lacks i n) q = absurd (refused-ok (rw (q, resolve_variables) at e))
    go (resolved w) q = ap resolved (ok-one (rw (q, resolve_variables) at e))

pub found_in : (n count v : ℕ) (ws pool : List ℕ) (vals : Found) → Looked n count ws pool (variables_in n count v ws pool) → resolve_variables (variables_in n count v ws pool) ≡ ok vals
    → resolve (rules_in n count v ws pool) ≡ resolved vals
found_in n count v ws pool vals looked e =
    ap resolve (rules-looked n count ws pool (variables_in n count v ws pool) looked v) ∙ found-by (variables_in n count v ws pool) vals e

-- once the passes are done the tables are ready
module _ (n count v : ℕ) (ws pool : List ℕ) (vals : Found) (found : resolve (rules_in n count v ws pool) ≡ resolved vals) where
  pub values-are : (tables_in n count v ws pool).values ≡ vals
  unfolding values_of
  values-are = ap values_of found

  pub ready : lengths_of n v ws ≡ entries vals → ((j : ℕ) → j < v → get_or (ends_of n ws) (get_or (keys_of n v ws) j 0) 0 ≤ count) → Ready count v (tables_in n count v ws pool)
  unfolding rules_in
  ready lengths ends = record { resolves = found ∙ ap resolved (sym values-are); lengths = lengths ∙ ap entries (sym values-are); in_table = ends }

-- where no place is remembered, what is remembered is right
pub fresh : (t : Tables) (out : List ℕ) (at m : ℕ) → 2 * length t.keys ≤ m → Remembered t (replicate m 0) out at
fresh t out at m h j k p = absurd (omega (arith, forgotten m j (omega arith)))

module _ {t : Tables} {places out : List ℕ} {at : ℕ} where
  -- bytes from elsewhere, as a record's head
  pub bytes-written : (bs : List ℕ) → Remembered t places out at → Written t places out at bs places (puts out at bs) (at + length bs)
  bytes-written bs r =
      record {
        moved = refl;
        bytes = refl;
        remembered = λ j k p. (let x = r j k p in record { inside = omega (arith, x.inside); stands = column-before (length (value t j)) (place_in places j - 1) out at bs x.inside ∙ x.stands });
        recent = λ j k p. refl;
      }

  pub none_written : Remembered t places out at → Written t places out at [] places out at
  none_written r = record { moved = sym (add-zero at); bytes = refl; remembered = r; recent = λ j k p. refl }

  -- one thing after another
  pub and_then : {bs cs places₁ out₁ places₂ out₂ : List ℕ} {at₁ at₂ : ℕ} → Written t places out at bs places₁ out₁ at₁ → Written t places₁ out₁ at₁ cs places₂ out₂ at₂
      → Written t places out at (bs ++ cs) places₂ out₂ at₂
  and_then {bs} {cs} {places₁} {out₁} {places₂} {out₂} {at₁} {at₂} a b =
      record {
        moved = omega (arith, a.moved, b.moved, length-append bs cs);
        bytes = b.bytes ∙ rw (a.bytes, a.moved) (puts-puts out at bs cs);
        remembered = b.remembered;
        recent = λ j k p. (let e = b.recent j k (omega (arith, a.moved)) in e ∙ a.recent j k (omega arith));
      }

  -- bytes from elsewhere before what was written, as a record's head
  pub before-written : (hs : List ℕ) → Remembered t places out at → {bs places₁ out₁ : List ℕ} {at₁ : ℕ} → Written t places out (at + length hs) bs places₁ out₁ at₁
      → Written t places out at (hs ++ bs) places₁ (puts out₁ at hs) at₁
  before-written hs r {bs} {places₁} {out₁} {at₁} w =
      record {
        moved = omega (arith, w.moved, length-append hs bs);
        bytes = ap (λ (l : List ℕ). puts l at hs) w.bytes ∙ sym (puts_comm out at (at + length hs) hs bs (omega arith)) ∙ puts-puts out at hs bs;
        remembered = λ j k p. held j k p (dec_lt (at + length hs) (place_in places₁ j));
        recent = λ j k p. w.recent j k (omega arith);
      }
    where
      held : (j : ℕ) → j < length t.keys → 1 ≤ place_in places₁ j → Dec (at + length hs < place_in places₁ j) → Held (puts out₁ at hs) at₁ (value t j) (place_in places₁ j)
      held j k p (yes l) =
          let x = w.remembered j k p in
          record { inside = x.inside; stands = column-after (length (value t j)) (place_in places₁ j - 1) out₁ at hs (omega arith) ∙ x.stands }
      held j k p (no l) =
          let e = w.recent j k (omega arith) in
          let x = r j k (rw e at p) in
          rw e (record {
            inside = omega (arith, x.inside, w.moved);
            stands = column-before (length (value t j)) (place_in places j - 1) out₁ at hs x.inside
                ∙ ap (λ (l : List ℕ). take (length (value t j)) (drop (place_in places j - 1) l)) w.bytes
                ∙ column-before (length (value t j)) (place_in places j - 1) out (at + length hs) bs (omega (arith, x.inside)) ∙ x.stands;
          })

-- a value that `expand` gives is the pieces joined, and every reference is to an assigned name
unbounded : (v : List ℕ) (e : Expansion) (w : List ℕ) → bounded v e ≡ Expansion.value w → e ≡ Expansion.value w
unfolding bounded
unbounded v e w q = go (ltb limit (length v)) refl
  where
    go : (b : Bool) → ltb limit (length v) ≡ b → e ≡ Expansion.value w
    go true p = let z : ◌≡◌ {A = ℕ} 0 1 = (let y : large ≡ Expansion.value w = rw (p, bounded) at q in cc) in absurd (omega arith)
    go false p = rw (p, bounded) at q

expand-value : (vals : Found) (u : List ℕ) (ps : List Piece) (w : List ℕ) → expand vals u ps ≡ Expansion.value w
    → Known (length vals) ps × (w ≡ u ++ joined (λ (j : ℕ). or_empty (found_at vals j)) ps)
unfolding expand Known joined
expand-value vals u [] w q = (tt, let z : u ≡ w = cc in sym z ∙ sym (append-nil u))
expand-value vals u (Piece.text s ∷ ps) w q =
    let r = expand-value vals (u ++ s) ps w (unbounded (u ++ s) _ w q) in
    (r.0, r.1 ∙ append_assoc u s _)
expand-value vals u (Piece.ref t j ∷ ps) w q = go (found_at vals j) refl (λ x. expand-value vals (u ++ x) ps w)
  where
    go : (o : Option (List ℕ)) → found_at vals j ≡ o
        → ((x : List ℕ) → expand vals (u ++ x) ps ≡ Expansion.value w → Known (length vals) ps × (w ≡ u ++ x ++ joined (λ (j : ℕ). or_empty (found_at vals j)) ps))
        → Known (length vals) (Piece.ref t j ∷ ps) × (w ≡ u ++ joined (λ (j : ℕ). or_empty (found_at vals j)) (Piece.ref t j ∷ ps))
    go none p ih = let z : ◌≡◌ {A = ℕ} 0 1 = (let y : missing t ≡ Expansion.value w = rw (p, expand) at q in cc) in absurd (omega arith)
    go (some x) p ih =
        let r = ih x (unbounded (u ++ x) _ w (rw (p, expand) at q)) in
        ((inside (dec_lt j (length vals)), r.0), rw p (r.1 ∙ append_assoc u x _))
      where
        inside : Dec (j < length vals) → j < length vals
        inside (yes h) = h
        inside (no h) =
            let y : none ≡ some x = sym (get_or-eq_default vals none (omega arith)) ∙ p in
            let z : ◌≡◌ {A = ℕ} 0 1 = cc in
            absurd (omega arith)

pub expanded : {count v : ℕ} {t : Tables} → Ready count v t → length t.keys ≡ v → (ps : List Piece) (bs : List ℕ) → expand t.values [] ps ≡ Expansion.value bs
    → Known v ps × (bs ≡ joined (value t) ps)
unfolding value joined
expanded {v = v} {t} r keys ps bs q =
    let x = expand-value t.values [] ps bs q in
    let l : length t.values ≡ v = (has_all r).size ∙ length-map t.keys _ ∙ keys in
    (rw l at x.0, x.1)
