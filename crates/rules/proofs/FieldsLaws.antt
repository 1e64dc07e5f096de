-- Laws of fields: once the variables are resolved, a value of a field is its parts joined, or is refused for its first reference without a value, or as too large.
-- Assumes nothing.
use Prim.Native.Nat.{ℕ, ◌<◌, ◌≤◌}
use mathlib.Core.Path.{◌≡◌, refl, ap, subst}
use mathlib.Core.Logic.{◌↔◌}
use mathlib.Core.List.{List, [], map}
use mathlib.Core.Option.{Option, none, some}
use native.Mathlib.Omega.{arith}
use lib.ListN.{length}
use Rattle.rules.specs.Tokens.{Token}
use Rattle.rules.specs.Numbers.{ok}
use Rattle.rules.specs.Lines.{Part, Assignment}
use Rattle.rules.specs.Variables.{limit, Found, Expansion, large, missing, value, expand, look_up}
use Rattle.rules.specs.Variables.{resolve_variables}
use Rattle.rules.specs.Demand3.{Upto}
use Rattle.rules.proofs.PassesLaws.{upto-one}
use Rattle.rules.proofs.ResolveLaws.{upto_all}
use Rattle.rules.proofs.ExpandLaws.{total, stop_at, View, view}
use Rattle.rules.proofs.TableLaws.{Sorted}
use Rattle.rules.proofs.Demand3Laws.{rules, looked, upto-up, upto-down, has_all}

-- what an answer says of the parts
abbrev pub Expanded : List Assignment → List Part → Expansion → Type 0
Expanded vs ps large = (v : List ℕ) × (e : Option Token) × Upto vs ps v e × (limit < length v)
Expanded vs ps (missing n) = (v : List ℕ) × Upto vs ps v (some n) × (length v ≤ limit)
Expanded vs ps (value v) = Upto vs ps v none × (length v ≤ limit)

module _ (vs : List Assignment) (sorted : Sorted vs) (vals : Found) (found : resolve_variables vs ≡ ok vals) where
  says : (ps : List Part) (x : Expansion) → View vals (map (look_up vs) ps) x → Expanded vs ps x
  says ps x w = go x w (upto-up vs sorted (upto_all (rules vs sorted) vals (has_all vs sorted vals found) (map (look_up vs) ps)) (looked vs ps))
    where
      go : (x : Expansion) → View vals (map (look_up vs) ps) x → Upto vs ps (total vals (map (look_up vs) ps)) (stop_at vals (map (look_up vs) ps)) → Expanded vs ps x
      go large w u = (total vals (map (look_up vs) ps), stop_at vals (map (look_up vs) ps), u, w)
      go (missing n) w u = (total vals (map (look_up vs) ps), subst (λ (e : Option Token). Upto vs ps (total vals (map (look_up vs) ps)) e) w.1 u, w.0)
      go (value v) w u = (rw w.2 (subst (λ (e : Option Token). Upto vs ps (total vals (map (look_up vs) ps)) e) w.1 u), rw w.2 w.0)

  pub expand-says : (ps : List Part) → Expanded vs ps (expand vals [] (map (look_up vs) ps))
  expand-says ps = says ps (expand vals [] (map (look_up vs) ps)) (view vals (map (look_up vs) ps))

  one : {ps : List Part} {v w : List ℕ} {d e : Option Token} → Upto vs ps v d → Upto vs ps w e → (v ≡ w) × (d ≡ e)
  one {ps} x y = upto-one (rules vs sorted) (upto-down vs sorted x (looked vs ps)) (upto-down vs sorted y (looked vs ps))

  same : (ps : List Part) (x y : Expansion) → Expanded vs ps x → Expanded vs ps y → x ≡ y
  same ps large large a b = refl
  same ps large (missing n) a b = absurd (omega (arith, a.3, b.2, ap length (one a.2 b.1).0))
  same ps large (value v) a b = absurd (omega (arith, a.3, b.1, ap length (one a.2 b.0).0))
  same ps (missing n) large a b = absurd (omega (arith, a.2, b.3, ap length (one a.1 b.2).0))
  same ps (missing n) (missing m) a b = cc (one a.1 b.1).1
  same ps (missing n) (value v) a b = cc (one a.1 b.0).1
  same ps (value v) large a b = absurd (omega (arith, a.1, b.3, ap length (one a.0 b.2).0))
  same ps (value v) (missing n) a b = cc (one a.0 b.1).1
  same ps (value v) (value w) a b = cc (one a.0 b.0).0

  -- each answer exactly where what it says is so
  pub expand-exactly : (ps : List Part) (x : Expansion) → (expand vals [] (map (look_up vs) ps) ≡ x) ↔ Expanded vs ps x
  expand-exactly ps x = (λ e. rw e at (expand-says ps), λ a. same ps (expand vals [] (map (look_up vs) ps)) x (expand-says ps) a)
