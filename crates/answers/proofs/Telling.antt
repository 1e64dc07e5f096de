-- What an answer without names tells. Assumes nothing.
use Prim.Native.Nat.{ℕ}
use mathlib.Core.Path.{◌≡◌, refl, ap, sym}
use Rattle.rules.specs.Tokens.{Token, no_name, token}
use Rattle.rules.specs.Numbers as Rules
use Rattle.answers.specs.declared.Number.{Number}
use Rattle.answers.specs.declared.Name.{Name}
use Rattle.answers.specs.declared.Refusal.{Refusal}
use Rattle.answers.specs.Refusals as Ours
use Rattle.answers.specs.Tells.{Tells, Names, number_of, plain_answer}

no_name_lem : (t : Token) → t ≡ no_name → Names (record { place = 0; length = 0 }) t
unfolding no_name token
no_name_lem t e = rw e (record { is_place = refl; is_length = refl })

-- an answer without names tells its number and its value
pub tells-plain : (n : Number) (value : ℕ) (b : Rules.Answer) → number_of n ≡ Rules.number b → Rules.detail b ≡ Rules.details value no_name no_name → Tells (plain_answer n value) b
unfolding Rules.details
tells-plain n value b e d = record {
  is_number = e;
  is_value = sym (ap (λ (x : Rules.Detail). x.value) d);
  is_first = no_name_lem (Rules.detail b).first (ap (λ (x : Rules.Detail). x.first) d);
  is_second = no_name_lem (Rules.detail b).second (ap (λ (x : Rules.Detail). x.second) d);
}

-- no name tells no token
pub no-names : Names Ours.no_name no_name
unfolding no_name token
no-names = record { is_place = refl; is_length = refl }

-- a refusal tells the document's, number by number and name by name
pub refuses : (e : Refusal) (r : Rules.Refusal) (value : ℕ) (a b : Name) (s t : Token) → number_of (Ours.refusal_number e) ≡ Rules.refusal_number r → Ours.refusal_detail e ≡ Ours.details value a b
    → Rules.refusal_detail r ≡ Rules.details value s t → Names a s → Names b t → Ours.Refuses e r
unfolding Rules.number Rules.detail Rules.details
refuses e r value a b s t m d x p q = record {
  is_number = m;
  is_value = rw (d, x) refl;
  is_first = rw (d, x) p;
  is_second = rw (d, x) q;
}
