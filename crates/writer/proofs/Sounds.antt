-- Tables whose variables resolve have a numbering, and each value is its pieces joined. Assumes nothing.
use Prim.Native.Nat.{ℕ, zero, suc, ◌+◌, ◌<◌}
use mathlib.Core.Path.{◌≡◌, refl, ◌∙◌, ap, ap₂}
use mathlib.Core.List.{List, [], ◌∷◌, ◌++◌, map}
use mathlib.Core.Option.{none}
use native.Mathlib.Omega.{arith}
use lib.ListN.{length, get_or, drop, length-map, get_or-map, drop_of_length-le}
use Rattle.rules.specs.Variables.{Piece, resolved}
use Rattle.rules.proofs.Lengths.{entry, entries}
use Rattle.rules.proofs.Ranks.{Joined, Refers, here, there, HasAll, Says}
use Rattle.rules.proofs.RanksLaws.{joined-one}
use Rattle.rules.proofs.ResolveLaws.{resolve-says, numbered}
use Rattle.rules.proofs.WriterLaws.{bounded}
use Rattle.scan.specs.Stores.{puts}
use Rattle.writer.specs.Tables.{Tables, start_of, end_of, pieces, rules, value, joined, value_between}
use Rattle.writer.specs.Writing.{Ready, Writable}
use Rattle.writer.proofs.Pieces.{Refs, Sound}
use Rattle.writer.proofs.Runs.{Run, begin}

map_at : (f : ℕ → List Piece) (l : List ℕ) (j : ℕ) → j < length l → get_or (map f l) j [] ≡ f (get_or l j 0)
map_at f [] j h = absurd (omega arith)
map_at f (k ∷ l) zero h = refl
map_at f (k ∷ l) (suc j) h = map_at f l j (omega arith)

refs-of : (num : ℕ → ℕ) (v b : ℕ) (ps : List Piece) → ((k : ℕ) → Refers ps k → (k < v) × (num k < b)) → Refs num v b ps
unfolding Refs
refs-of num v b [] f = tt
refs-of num v b (Piece.text s ∷ ps) f = refs-of num v b ps (λ k m. f k (there m))
refs-of num v b (Piece.ref t j ∷ ps) f = let x = f j here in (x.0, x.1, refs-of num v b ps (λ k m. f k (there m)))

module _ {count v : ℕ} {t : Tables} (r : Ready count v t) where
  pub has_all : HasAll (rules t) t.values
  has_all = (let s : Says (rules t) (resolved t.values) = rw r.resolves at (resolve-says (rules t)) in s.1)

  -- the value of a name is that of document 01's rules
  value-joined : (j : ℕ) → j < length (rules t) → Joined (rules t) (get_or (rules t) j []) (value t j)
  unfolding value
  value-joined j h = let x = has_all.each j h in rw x.2 x.1.1

  joined_is : {ps : List Piece} {bs : List ℕ} → Joined (rules t) ps bs → bs ≡ joined (value t) ps
  unfolding joined
  joined_is Joined.nil = refl
  joined_is (Joined.text {s} d) = ap (λ (x : List ℕ). s ++ x) (joined_is d)
  joined_is (Joined.ref {j} h d f) = ap₂ (λ (x y : List ℕ). x ++ y) (joined-one (rules t) d (value-joined j h)) (joined_is f)

  pub sizes : (j : ℕ) → j < length (rules t) → get_or t.lengths j 0 ≡ suc (length (value t j))
  unfolding value entries entry
  sizes j h =
      let x = has_all.each j h in
      ap (λ (l : List ℕ). get_or l j 0) r.lengths ∙ get_or-map entry t.values j none ∙ rw x.2 refl

  pub sound : length t.tokens ≡ count → length t.keys ≡ v → Sound count v t
  sound tokens keys =
      let g = (numbered (rules t)).0 (t.values, r.resolves) in
      let b = bounded (rules t) g.1.0 g.1.1 in
      let l : length (rules t) ≡ v = length-map t.keys _ ∙ keys in
      let rule : (j : ℕ) → j < v → get_or (rules t) j [] ≡ pieces t (start_of t j) (end_of t j) = λ j h. map_at _ t.keys j (omega arith) in
      record {
        tokens = tokens;
        num = b.0;
        value_is = λ j h. rw (rule j h) at (joined_is (value-joined j (omega arith)));
        lower = λ j h. refs-of b.0 v (b.0 j) (pieces t (start_of t j) (end_of t j)) (λ k m. let x = b.1 j (omega arith) k (rw (rule j h) m) in (omega (arith, x.0), x.1));
        low = λ j h. omega (arith, b.2 j (omega arith));
        sizes = λ j h. sizes j (omega arith);
        in_table = r.in_table;
      }

pub start : {t : Tables} {places stack out : List ℕ} {at from to : ℕ} → Writable t places stack out at from to → (v : ℕ) → v ≡ length t.keys
    → Run t places (puts out at (value_between t from to)) at (at + length (value_between t from to)) places (drop (length stack) stack) (length stack) out from to v at
start {stack = stack} w v ve = let e : drop (length stack) stack ≡ [] = drop_of_length-le stack {i = length stack} (omega arith) in rw (ve, e) (begin (sound w.ready refl refl) w)
