-- The sum of a string value's tokens, or of one argument's, is the length of what the rules resolve them to. Assumes nothing.
use Prim.Native.Nat.{ℕ, ◌-◌, ◌≤◌}
use mathlib.Core.Path.{◌≡◌, refl, sym, ◌∙◌, ap₂}
use mathlib.Core.List.{List, [], map}
use native.Mathlib.Omega.{arith}
use lib.ListN.{length}
use Rattle.rules.specs.Tokens.{Token}
use Rattle.rules.specs.Numbers.{WhileResolving, undefined_variable, content_too_large, refused, ok}
use Rattle.rules.specs.Lines.{Assignment}
use Rattle.rules.specs.Variables.{Piece, Found, Expansion, large, missing, value, expand, look_up}
use Rattle.rules.specs.Fields.{expanded, resolve_parts}
use Rattle.rules.proofs.Lengths.{Sum, add, add_is, sum_of, entries}
use Rattle.tokens.specs.Entries.{decode, token_at}
use Rattle.workspace.specs.Map.{parts_between, pieces_between, ranks_of, lengths_of, Looked}
use Rattle.workspace.proofs.Links.{between-looked}
use Rattle.passes.specs.Sums.{top, size_at, Advance, advance}
use Rattle.passes.proofs.Advances.{Advances, advances}
use Rattle.std.specs.Prelude.{Ok, Err}
use Rattle.passes.specs.declared.sums.Stop.TheVariants.{Over, Missing}

-- an expansion by its sum
module _ (w : WhileResolving) where
  large-by : (x : Expansion) → sum_of x ≡ Sum.over → expanded w x ≡ refused (content_too_large w)
  unfolding sum_of expanded
  large-by large e = refl
  large-by (missing m) e = let z : ◌≡◌ {A = ℕ} 0 1 = cc in absurd (omega arith)
  large-by (value v) e = let z : ◌≡◌ {A = ℕ} 0 1 = cc in absurd (omega arith)

  missing-by : (x : Expansion) (m : Token) → sum_of x ≡ Sum.missing m → expanded w x ≡ refused (undefined_variable m w)
  unfolding sum_of expanded
  missing-by large m e = let z : ◌≡◌ {A = ℕ} 0 1 = cc in absurd (omega arith)
  missing-by (missing k) m e = let q : k ≡ m = cc in rw q
  missing-by (value v) m e = let z : ◌≡◌ {A = ℕ} 0 1 = cc in absurd (omega arith)

  value-by : (x : Expansion) (t : ℕ) → sum_of x ≡ Sum.sum t → (u : List ℕ) × (expanded w x ≡ ok u) × (length u ≡ t)
  unfolding sum_of expanded
  value-by large t e = let z : ◌≡◌ {A = ℕ} 0 1 = cc in absurd (omega arith)
  value-by (missing m) t e = let z : ◌≡◌ {A = ℕ} 0 1 = cc in absurd (omega arith)
  value-by (value v) t e = (v, refl, cc)

-- the references looked up among vs, and the lengths those of vals
module _ (n count v : ℕ) (ws pool : List ℕ) (vs : List Assignment) (vals : Found) (looked : Looked n count ws pool vs) (lens : lengths_of n v ws ≡ entries vals)
    (w : WhileResolving) (from to : ℕ) where
  -- what the answer r of `sum_on` from 0 says about the tokens from `from` up to `to`
  abbrev pub Measured : Advance → Type 0
  Measured (Err Over) = resolve_parts vs vals w (parts_between (decode count ws pool) from to) ≡ refused (content_too_large w)
  Measured (Err (Missing j s)) = resolve_parts vs vals w (parts_between (decode count ws pool) from to) ≡ refused (undefined_variable (token_at (decode count ws pool) j) w)
  Measured (Ok t) = (u : List ℕ) × (resolve_parts vs vals w (parts_between (decode count ws pool) from to) ≡ ok u) × (length u ≡ t) × (t ≤ top)

  is_sum : add (lengths_of n v ws) 0 (pieces_between (decode count ws pool) (ranks_of n ws) from to) ≡ sum_of (expand vals [] (map (look_up vs) (parts_between (decode count ws pool) from to)))
  is_sum =
      ap₂ (λ (l : List ℕ) (ps : List Piece). add l 0 ps) lens (between-looked n count ws pool vs looked from to)
      ∙ add_is vals [] (map (look_up vs) (parts_between (decode count ws pool) from to))

  by : (r : Advance) → Advances (decode count ws pool) (ranks_of n ws) (lengths_of n v ws) to from 0 r → Measured r
  unfolding resolve_parts
  by (Err Over) a = large-by w (expand vals [] (map (look_up vs) (parts_between (decode count ws pool) from to))) (sym is_sum ∙ a)
  by (Err (Missing j s)) a = missing-by w (expand vals [] (map (look_up vs) (parts_between (decode count ws pool) from to))) (token_at (decode count ws pool) j) (sym is_sum ∙ a.3)
  by (Ok t) a =
      let x = value-by w (expand vals [] (map (look_up vs) (parts_between (decode count ws pool) from to))) t (sym is_sum ∙ a.1) in
      (x.0, x.1, x.2, a.0)

  -- THE LAW of `sum_on` for fields
  pub measured : (r : Advance) → r ≡ advance (size_at n count v ws pool) from 0 (to - from) → Measured r
  measured r e = by r (rw e (advances (decode count ws pool) (ranks_of n ws) (lengths_of n v ws) to from 0 (omega arith)))
