-- Looking up: what is read, and the loop. Assumes nothing.
use Prim.Native.Nat.{ℕ, zero, suc, ◌+◌, ◌*◌, ◌≤◌, ◌<◌}
use mathlib.Core.Path.{◌≡◌, refl, sym, ◌∙◌, ap}
use mathlib.Core.Bool.{Bool, true, false}
use mathlib.Core.List.{List, [], ◌∷◌, ◌++◌}
use native.Mathlib.Numerals.{add-one}
use native.Mathlib.Omega.{arith}
use lib.ListN.{length, get_or, take, set}
use lib.Seq.{take-suc, take_all, length-take-le}
use borrow.Author.Tests.{eq-eqb, ne_eqb}
use Rattle.rules.specs.Bytes.{pick, same, overwrite}
use Rattle.rules.specs.Tokens.{Token, is_a, variable_kind, pooled}
use Rattle.rules.specs.Lines.{Assignment}
use Rattle.rules.specs.Variables.{rank_of}
use Rattle.scan.proofs.Stores.{get_or-stored, puts-overwrite, overwrite-nil}
use Rattle.scan.specs.Stores.{puts}
use Rattle.scan.proofs.Lists.{cell_in}
use Rattle.tokens.specs.Entries.{decode, token_at, pool_text}
use Rattle.tokens.proofs.TokenLaws.{length-decode, decode-puts}
use Rattle.workspace.specs.Map.{variables_in, Looked}
use Rattle.names.specs.Store.{rank_for, ranks, Lookable}
use Rattle.names.specs.Named.{named, Searchable}
use Rattle.names.proofs.Places.{names_length}

rank-le : (key : List ℕ) (vs : List Assignment) → rank_of key vs ≤ length vs
unfolding rank_of
rank-le key [] = omega arith
rank-le key (v ∷ vs) = go (same key v.key.text) refl (rank-le key vs)
  where
    go : (b : Bool) → same key v.key.text ≡ b → rank_of key vs ≤ length vs → rank_of key (v ∷ vs) ≤ suc (length vs)
    go true q ih = rw (q, rank_of) (omega arith)
    go false q ih = rw (q, rank_of) (omega arith)

rank-for-le : (vs : List Assignment) (t : Token) → rank_for vs t ≤ length vs
unfolding pick
rank-for-le vs t = go (is_a variable_kind t)
  where
    go : (b : Bool) → pick b (rank_of t.text vs) 0 ≤ length vs
    go true = rank-le t.text vs
    go false = omega arith

-- a Variable has its text in the pool
variable-pooled : (t : Token) → t.kind ≡ 2 → pool_text t ≡ t.text
unfolding pooled pick
variable-pooled t k = rw k

pub length-ranks : (vs : List Assignment) (ts : List Token) → length (ranks vs ts) ≡ length ts
unfolding ranks
length-ranks vs [] = refl
length-ranks vs (t ∷ ts) = ap suc (length-ranks vs ts)

ranks-at : (vs : List Assignment) (ts : List Token) (j : ℕ) → j < length ts → get_or (ranks vs ts) j 0 ≡ rank_for vs (token_at ts j)
unfolding ranks
ranks-at vs [] j h = absurd (omega arith)
ranks-at vs (t ∷ ts) zero h = refl
ranks-at vs (t ∷ ts) (suc j) h = ranks-at vs ts j (omega arith)

module _ (vs : List Assignment) (t : Token) (kind : ℕ) (e : kind ≡ t.kind) where
  pub is-reference : kind ≡ 2 → (text : List ℕ) → text ≡ pool_text t → (r : ℕ) → r ≡ rank_of text vs → r ≡ rank_for vs t
  unfolding is_a pick
  is-reference k text q r p =
      let x : t.kind ≡ 2 = sym e ∙ k in
      let y : text ≡ t.text = q ∙ variable-pooled t x in
      rw (eq-eqb t.kind 2 x, ← y) p

  pub no-reference : (kind ≡ 2 → ⊥) → 0 ≡ rank_for vs t
  unfolding is_a pick
  no-reference k = rw (ne_eqb t.kind 2 (λ z. k (e ∙ z)))

-- for an attribute
pub ruleset reading = (is-reference, no-reference)

-- the loop: the ranks of the first j tokens are stored
module _ (ts : List Token) (keys column : List ℕ) (S : Searchable ts keys) (room : length ts ≤ length column) where
  all : List ℕ
  all = ranks (named ts keys) ts

  length-all : length all ≡ length ts
  unfolding all
  length-all = length-ranks (named ts keys) ts

  pub look-start : column ≡ overwrite (take 0 (ranks (named ts keys) ts)) column
  look-start = sym (overwrite-nil column)

  module _ (now : List ℕ) (j : ℕ) (e : now ≡ overwrite (take j (ranks (named ts keys) ts)) column) where
    pub look-end : length ts ≤ j → now ≡ overwrite (ranks (named ts keys) ts) column
    unfolding all
    look-end h = e ∙ ap (λ (x : List ℕ). overwrite x column) (take_all j all (omega (arith, length-all)))

    module _ (r : ℕ) (h : j < length ts) (q : r ≡ rank_for (named ts keys) (token_at ts j)) where
      pub look-fits : length keys ≤ 65535 → r ≤ 65535
      look-fits s = omega (arith, q, rank-for-le (named ts keys) (token_at ts j), names_length ts keys S)

      pub look-more : set now j r ≡ overwrite (take (j + 1) (ranks (named ts keys) ts)) column
      unfolding all
      look-more =
          let l : length (take j all) ≡ j = length-take-le j all (omega (arith, length-all)) in
          let x : take (j + 1) all ≡ take j all ++ (get_or all j 0 ∷ []) = rw add-one (take-suc all j 0 (omega (arith, length-all))) in
          let y : get_or all j 0 ≡ r = ranks-at (named ts keys) ts j h ∙ sym q in
          let z : set (overwrite (take j all) column) (length (take j all)) r ≡ overwrite (take j all ++ (r ∷ [])) column = puts-overwrite (take j all) (r ∷ []) column (omega (arith, room)) in
          ap (λ (w : List ℕ). set w j r) e ∙ ap (λ (k : ℕ). set (overwrite (take j all) column) k r) (sym l) ∙ z ∙ ap (λ (k : ℕ). overwrite (take j all ++ (k ∷ [])) column) (sym y) ∙ sym (ap (λ (w : List ℕ). overwrite w column) x)

-- THE LAW of looking up: every reference has its variable's rank
module _ (n count v : ℕ) (ws pool : List ℕ) (L : Lookable n count v ws pool) where
  looked : List ℕ
  looked = ranks (variables_in n count v ws pool) (decode count ws pool)

  length-looked : length looked ≡ count
  unfolding looked
  length-looked = length-ranks (variables_in n count v ws pool) (decode count ws pool) ∙ length-decode count ws pool

  pub looked-up : Looked n count (puts ws (7 * n) (ranks (variables_in n count v ws pool) (decode count ws pool))) pool (variables_in n count v ws pool)
  unfolding looked pick
  looked-up j h e =
      let l = length-looked in
      let m : length looked ≤ n = omega (arith, L.search.tokens) in
      let T : decode count (puts ws (7 * n) looked) pool ≡ decode count ws pool = decode-puts count ws pool (7 * n) looked (omega (arith, L.search.tokens)) in
      let x : is_a variable_kind (token_at (decode count ws pool) j) ≡ true = rw T at e in
      sym (cell_in (puts ws (7 * n) looked) (7 * n) n j (omega (arith, L.search.tokens)))
      ∙ get_or-stored ws (7 * n) looked (omega (arith, L.room)) j 0 (omega arith)
      ∙ ranks-at (variables_in n count v ws pool) (decode count ws pool) j (omega (arith, length-decode count ws pool))
      ∙ rw (T, x)
