-- Laws of the tables: a token and the piece that it is; the names that pieces refer to. Assumes nothing.
use Prim.Native.Nat.{ℕ, suc, ◌+◌, ◌-◌, ◌<◌, ◌≤◌}
use mathlib.Core.Path.{◌≡◌, refl, ◌∙◌, ap}
use mathlib.Core.List.{List, [], ◌∷◌}
use native.Mathlib.Nat.{add-zero}
use native.Mathlib.Omega.{arith}
use native.Mathlib.Numerals.{add-one}
use lib.ListN.{length, get_or, take, drop}
use lib.Seq.{drop-cons, drop-drop, get_or-drop}
use borrow.Author.Tests.{eq-eqb, ne_eqb}
use Rattle.rules.specs.Bytes.{pick}
use Rattle.rules.specs.Tokens.{is_a, no_name}
use Rattle.rules.specs.Variables.{Piece}
use Rattle.tokens.specs.Entries.{token_at}
use Rattle.workspace.specs.Map.{dropped_kind, pieces_of, piece_of}
use Rattle.writer.specs.Tables.{Tables, start_of, end_of, pieces, value, joined}
use Rattle.writer.specs.Writing.{Known}

-- the pieces of a token and those after it
module _ (t : Tables) (i e : ℕ) (h : i < e) (l : i < length t.tokens) where
  tokens-front : take (e - i) (drop i t.tokens) ≡ token_at t.tokens i ∷ take (e - (i + 1)) (drop (i + 1) t.tokens)
  tokens-front = let z : e - i ≡ suc (e - (i + 1)) = omega arith in rw (z, add-one, drop-cons t.tokens i no_name l)

  front : pieces t i e ≡ pick (is_a dropped_kind (token_at t.tokens i)) (pieces t (i + 1) e) (piece_of (get_or t.ranks i 0) (token_at t.tokens i) ∷ pieces t (i + 1) e)
  unfolding pieces_of
  front =
      let a : get_or (drop i t.ranks) 0 0 ≡ get_or t.ranks i 0 = get_or-drop i t.ranks 0 0 ∙ ap (λ (k : ℕ). get_or t.ranks k 0) (add-zero i) in
      let b : drop 1 (drop i t.ranks) ≡ drop (i + 1) t.ranks = drop-drop 1 i t.ranks in
      rw (tokens-front, a, b) refl

  pub front-dropped : (token_at t.tokens i).kind ≡ 0 → pieces t i e ≡ pieces t (i + 1) e
  unfolding is_a pick
  front-dropped k = front ∙ rw (eq-eqb (token_at t.tokens i).kind 0 k) refl

  pub front-text : ((token_at t.tokens i).kind ≡ 0 → ⊥) → ((token_at t.tokens i).kind ≡ 2 → ⊥) → pieces t i e ≡ Piece.text (token_at t.tokens i).text ∷ pieces t (i + 1) e
  unfolding is_a pick
  front-text d k = front ∙ rw (ne_eqb (token_at t.tokens i).kind 0 d, ne_eqb (token_at t.tokens i).kind 2 k) refl

  pub front-ref : (token_at t.tokens i).kind ≡ 2 → pieces t i e ≡ Piece.ref (token_at t.tokens i) (get_or t.ranks i 0) ∷ pieces t (i + 1) e
  unfolding is_a pick
  front-ref k = front ∙ rw (ne_eqb (token_at t.tokens i).kind 0 (λ z. omega arith), eq-eqb (token_at t.tokens i).kind 2 k) refl

pub front-none : (t : Tables) (i e : ℕ) → e ≤ i → pieces t i e ≡ []
unfolding pieces_of
front-none t i e h = let z : e - i ≡ 0 = omega arith in rw z refl

-- every reference is to a name whose number is below b
unfoldable pub Refs : (ℕ → ℕ) → ℕ → ℕ → List Piece → Type 0
Refs num v b [] = Unit {0}
Refs num v b (Piece.text s ∷ ps) = Refs num v b ps
Refs num v b (Piece.ref t j ∷ ps) = (j < v) × (num j < b) × Refs num v b ps

pub refs-tail : (num : ℕ → ℕ) (v b : ℕ) (p : Piece) (ps : List Piece) → Refs num v b (p ∷ ps) → Refs num v b ps
unfolding Refs
refs-tail num v b (Piece.text s) ps r = r
refs-tail num v b (Piece.ref t j) ps r = r.2

pub refs-all : (num : ℕ → ℕ) (v : ℕ) (ps : List Piece) → ((j : ℕ) → j < v → num j < v) → Known v ps → Refs num v v ps
unfolding Refs Known
refs-all num v [] f k = tt
refs-all num v (Piece.text s ∷ ps) f k = refs-all num v ps f k
refs-all num v (Piece.ref t j ∷ ps) f k = (k.0, f j k.0, refs-all num v ps f k.1)

-- The tables, with a numbering: each variable's value is its pieces joined, and each refers to smaller numbers
pub record Sound (count v : ℕ) (t : Tables) : Type 0 where
  pub tokens : length t.tokens ≡ count
  pub num : ℕ → ℕ
  pub value_is : (j : ℕ) → j < v → value t j ≡ joined (value t) (pieces t (start_of t j) (end_of t j))
  pub lower : (j : ℕ) → j < v → Refs num v (num j) (pieces t (start_of t j) (end_of t j))
  pub low : (j : ℕ) → j < v → num j < v
  pub sizes : (j : ℕ) → j < v → get_or t.lengths j 0 ≡ suc (length (value t j))
  pub in_table : (j : ℕ) → j < v → end_of t j ≤ count
