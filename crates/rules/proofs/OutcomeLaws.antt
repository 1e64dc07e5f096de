-- Demand 3 of `resolve_variables`: no fourth outcome, one value, the name that 16 carries, and numbering alone. Assumes nothing.
use Prim.Native.Nat.{ℕ, ◌<◌}
use mathlib.Core.Path.{◌≡◌, refl, sym, ◌∙◌}
use mathlib.Core.Logic.{◌↔◌}
use mathlib.Core.List.{List}
use mathlib.Core.Option.{Option}
use native.Mathlib.Omega.{arith}
use lib.ListN.{length}
use Rattle.rules.specs.Tokens.{Token}
use Rattle.rules.specs.Numbers.{in_variable, undefined_variable, content_too_large, Result, refused, ok}
use Rattle.rules.specs.Lines.{Assignment}
use Rattle.rules.specs.Variables.{rank_of, limit, Found, Resolved, resolve}
use Rattle.rules.specs.Variables.{key_at, resolve_variables}
use Rattle.rules.specs.Demand3.{Assigned, Value, HasValue, Numbered, Upto}
use Rattle.rules.proofs.Ranks as P
use Rattle.rules.proofs.RanksLaws.{joined-one, numbered-iff}
use Rattle.rules.proofs.ResolveLaws.{resolve-says}
use Rattle.rules.proofs.TableLaws.{Sorted, at_lt, at_of, at_name, length-rules, place_of}
use Rattle.rules.proofs.Demand3Laws.{rules, Handed, handed, rule-at, place-key, value-down, value-up, upto-up, number_up, number-down}

-- there is no fourth outcome
pub data OneOf (r : Result Found) : Type 0 where
  given : (vals : Found) → r ≡ ok vals → OneOf r
  large : (k : Token) → r ≡ refused (content_too_large (in_variable k)) → OneOf r
  without : (n k : Token) → r ≡ refused (undefined_variable n (in_variable k)) → OneOf r

-- a assigns a name whose value, taken up to its first reference without a value, is too large
pub record Oversize (vs : List Assignment) (a : Assignment) : Type 0 where
  pub assigned : Assigned vs a.key.text a
  pub prefix : List ℕ
  pub end : Option Token
  pub upto : Upto vs a.value prefix end
  pub large : limit < length prefix

module _ (vs : List Assignment) (sorted : Sorted vs) where
  pub one_of : OneOf (resolve_variables vs)
  unfolding Handed
  one_of = go (resolve (rules vs sorted)) (handed vs sorted)
    where
      go : (r : Resolved) → Handed vs sorted r (resolve_variables vs) → OneOf (resolve_variables vs)
      go (Resolved.too_large_at i) h = OneOf.large (key_at vs i) h
      go (Resolved.lacks i n) h = OneOf.without n (key_at vs i) h
      go (Resolved.resolved vals) h = OneOf.given vals h

  -- the name that 16 carries is itself too large
  pub large-name : (k : Token) → resolve_variables vs ≡ refused (content_too_large (in_variable k)) → (a : Assignment) × (a.key ≡ k) × Oversize vs a
  unfolding Handed
  large-name k e = go (resolve (rules vs sorted)) (handed vs sorted) (resolve-says (rules vs sorted))
    where
      go : (r : Resolved) → Handed vs sorted r (resolve_variables vs) → P.Says (rules vs sorted) r → (a : Assignment) × (a.key ≡ k) × Oversize vs a
      go (Resolved.too_large_at i) h s =
          let y = at_of vs i (omega (arith, s.0, length-rules vs vs)) in
          let p : key_at vs i ≡ k = cc in (
            y.0,
            sym (at_name y.1) ∙ p,
            record {
              assigned = record { rank = i; at = y.1; named = refl };
              prefix = s.1.0;
              end = s.1.1;
              upto = upto-up vs sorted s.1.2 (rule-at vs sorted y.1);
              large = s.1.3;
            },
          )
      go (Resolved.lacks i n) h s = let z : ◌≡◌ {A = ℕ} 0 1 = cc in absurd (omega arith)
      go (Resolved.resolved vals) h s = let z : ◌≡◌ {A = ℕ} 0 1 = cc in absurd (omega arith)

  -- a name has one value
  pub one_value : (key v w : List ℕ) → Value vs key v → Value vs key w → v ≡ w
  one_value key v w x y = joined-one (rules vs sorted) (value-down vs sorted refl x).1 (value-down vs sorted refl y).1

  -- every assigned name has a value exactly when they can be numbered, whatever is too large
  pub numbering : ((key : List ℕ) (a : Assignment) → Assigned vs key a → HasValue vs key) ↔ ((num : List ℕ → ℕ) × Numbered vs num)
  numbering = (
    λ f. let y = (numbered-iff (rules vs sorted)).1 (λ j h. let a = at_of vs j (omega (arith, length-rules vs vs)) in let x = f a.0.key.text a.0 (record { rank = j; at = a.1; named = refl }) in (x.0, value-down vs sorted (place_of sorted a.1) x.1)) in ((λ key. y.0 (rank_of key vs)), number_up vs sorted y.0 y.1),
    λ x key a z. let y = (numbered-iff (rules vs sorted)).0 ((λ i. x.0 (key_at vs i).text), number-down vs sorted x.0 x.1) z.rank (omega (arith, at_lt z.at, length-rules vs vs)) in (y.0, value-up vs sorted (place-key vs sorted z) y.1),
  )
