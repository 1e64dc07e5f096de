-- Laws of tokens as they are read: parts of them, and kinds. Assumes nothing.
use Prim.Native.Nat.{ℕ, zero, suc, ◌-◌, ◌≤◌, ◌<◌}
use mathlib.Core.Path.{◌≡◌, sym, ◌∙◌, ap}
use mathlib.Core.Bool.{true, false}
use mathlib.Core.List.{List, [], ◌∷◌}
use native.Mathlib.Nat.{sub-zero}
use native.Mathlib.Omega.{arith}
use lib.ListN.{take, drop}
use lib.Seq.{get_or-take, take-nil}
use borrow.Author.Tests.{eq-eqb, ne_eqb}
use Rattle.rules.specs.Tokens.{Token, no_name, is_a}
use Rattle.tokens.specs.Entries.{decode, token_at, kind_at}
use Rattle.tokens.proofs.TokenLaws.{kind-at, kind-by, entry_past, decode-take}
use Rattle.workspace.specs.Map.{between}

pub token-inside : (end count : ℕ) (ws pool : List ℕ) (j : ℕ) → end ≤ count → j < end → token_at (decode end ws pool) j ≡ token_at (decode count ws pool) j
token-inside end count ws pool j h q = ap (λ (l : List Token). token_at l j) (decode-take end count ws pool h) ∙ get_or-take end (decode count ws pool) j no_name q

pub kind-inside : (end count : ℕ) (ws : List ℕ) (j : ℕ) → end ≤ count → j < end → kind_at end ws j ≡ kind_at count ws j
kind-inside end count ws j h q = kind-at end ws [] j ∙ ap (λ (t : Token). t.kind) (token-inside end count ws [] j h q) ∙ sym (kind-at count ws [] j)

pub kind-past : (count : ℕ) (ws : List ℕ) (j : ℕ) → count ≤ j → kind_at count ws j ≡ 0
kind-past count ws j h = kind-by count ws j ∙ sym (entry_past count ws j 0 h)

module _ (count : ℕ) (ws pool : List ℕ) (j kind : ℕ) where
  pub is-kind : kind_at count ws j ≡ kind → is_a kind (token_at (decode count ws pool) j) ≡ true
  unfolding is_a
  is-kind e = eq-eqb (token_at (decode count ws pool) j).kind kind (sym (kind-at count ws pool j) ∙ e)

  pub no_kind : (kind_at count ws j ≡ kind → ⊥) → is_a kind (token_at (decode count ws pool) j) ≡ false
  unfolding is_a
  no_kind e = ne_eqb (token_at (decode count ws pool) j).kind kind (λ z. e (kind-at count ws pool j ∙ z))

-- a part of a list, two ways
pub between-drop : (ts : List Token) (a b : ℕ) → between ts a b ≡ drop a (take b ts)
between-drop ts zero b = rw sub-zero
between-drop ts (suc a) zero = let e : 0 - suc a ≡ 0 = omega arith in rw e
between-drop [] (suc a) (suc b) = take-nil (suc b - suc a)
between-drop (t ∷ ts) (suc a) (suc b) = let e : suc b - suc a ≡ b - a = omega arith in rw e (between-drop ts a b)

-- a part of the first tokens is a part of all
pub between-inside : (end count : ℕ) (ws pool : List ℕ) (a b : ℕ) → end ≤ count → b ≤ end → between (decode end ws pool) a b ≡ between (decode count ws pool) a b
between-inside end count ws pool a b h q =
    between-drop (decode end ws pool) a b ∙ ap (drop a) (sym (decode-take b end ws pool q) ∙ decode-take b count ws pool (omega arith)) ∙ sym (between-drop (decode count ws pool) a b)
