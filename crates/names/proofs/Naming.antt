-- Of variables names alone count for their order, and for what a search finds. Assumes nothing.
use Prim.Native.Nat.{ℕ, suc}
use mathlib.Core.Path.{◌≡◌, refl, ◌∙◌, ap, ap₂}
use mathlib.Core.Bool.{Bool, true, false, ◌||◌}
use mathlib.Core.List.{List, [], ◌∷◌, map}
use Rattle.std.specs.Prelude.{Result, Ok, Err}
use Rattle.rules.specs.Bytes.{pick, same, before}
use Rattle.rules.specs.Tokens.{Token, is_a, variable_kind}
use Rattle.rules.specs.Lines.{assigned}
use Rattle.rules.specs.Variables.{rank_of}
use Rattle.rules.proofs.TableLaws.{After, Sorted}
use Rattle.tokens.specs.Entries.{decode, token_at}
use Rattle.workspace.specs.Map.{keys_from, starts_of, ends_of, variable_at, variables_from}
use Rattle.names.specs.Store.{place_for, place_among, ranks}
use Rattle.names.specs.Store as Store
use Rattle.names.specs.Named.{named, Searchable}

module _ (ts : List Token) (starts ends : List ℕ) where
  after-named : (a : List ℕ) (ks : List ℕ) → After a (map (variable_at ts starts ends) ks) → After a (map (variable_at ts [] []) ks)
  after-named a [] h = tt
  after-named a (k ∷ ks) h = (h.0, after-named a ks h.1)

  sorted-keys : (ks : List ℕ) → Sorted (map (variable_at ts starts ends) ks) → Sorted (map (variable_at ts [] []) ks)
  sorted-keys [] h = tt
  sorted-keys (k ∷ ks) h = (after-named (token_at ts k).text ks h.0, sorted-keys ks h.1)

  sorted-named : (ks : List ℕ) → Sorted (map (variable_at ts starts ends) ks) → Sorted (named ts ks)
  unfolding named
  sorted-named ks h = sorted-keys ks h

  rank-keys : (name ks : List ℕ) → rank_of name (map (variable_at ts [] []) ks) ≡ rank_of name (map (variable_at ts starts ends) ks)
  unfolding rank_of
  rank-keys name [] = refl
  rank-keys name (k ∷ ks) = ap (λ (r : ℕ). elim (same name (token_at ts k).text) [ true ↦ 0 | false ↦ suc r ]) (rank-keys name ks)

  place-keys : (name ks : List ℕ) → place_for name (map (variable_at ts [] []) ks) ≡ place_for name (map (variable_at ts starts ends) ks)
  unfolding place_for
  place-keys name [] = refl
  place-keys name (k ∷ ks) = ap (λ (r : ℕ). elim (before (token_at ts k).text name) [ true ↦ suc r | false ↦ 0 ]) (place-keys name ks)

  assigned-keys : (name ks : List ℕ) → assigned name (map (variable_at ts [] []) ks) ≡ assigned name (map (variable_at ts starts ends) ks)
  unfolding assigned
  assigned-keys name [] = refl
  assigned-keys name (k ∷ ks) = ap (λ (b : Bool). same name (token_at ts k).text || b) (assigned-keys name ks)

  among-named : (name ks : List ℕ) → place_among (named ts ks) name ≡ place_among (map (variable_at ts starts ends) ks) name
  unfolding named place_among
  among-named name ks =
      ap (λ (b : Bool). pick {A = Result ℕ ℕ} b (Ok (rank_of name (map (variable_at ts [] []) ks))) (Err (place_for name (map (variable_at ts [] []) ks)))) (assigned-keys name ks)
      ∙ ap₂ (λ (r p : ℕ). pick {A = Result ℕ ℕ} (assigned name (map (variable_at ts starts ends) ks)) (Ok r) (Err p)) (rank-keys name ks) (place-keys name ks)

  ranks-named : (ks : List ℕ) (us : List Token) → ranks (named ts ks) us ≡ ranks (map (variable_at ts starts ends) ks) us
  unfolding named ranks
  ranks-named ks [] = refl
  ranks-named ks (u ∷ us) = ap₂ (λ (r : ℕ) (rs : List ℕ). pick (is_a variable_kind u) r 0 ∷ rs) (rank-keys u.text ks) (ranks-named ks us)

-- the same of the variables in a workspace
module _ (first n count v : ℕ) (ws pool : List ℕ) where
  pub search-names : Store.Searchable first n count v ws pool → Searchable (decode count ws pool) (keys_from first v ws)
  unfolding variables_from
  search-names S = record { texts = S.texts; sorted = sorted-named (decode count ws pool) (starts_of n ws) (ends_of n ws) (keys_from first v ws) S.sorted }

  pub among-in : (name : List ℕ) → place_among (named (decode count ws pool) (keys_from first v ws)) name ≡ place_among (variables_from first n count v ws pool) name
  unfolding variables_from
  among-in name = among-named (decode count ws pool) (starts_of n ws) (ends_of n ws) name (keys_from first v ws)

  pub rank-in : (name : List ℕ) → rank_of name (named (decode count ws pool) (keys_from first v ws)) ≡ rank_of name (variables_from first n count v ws pool)
  unfolding named variables_from
  rank-in name = rank-keys (decode count ws pool) (starts_of n ws) (ends_of n ws) name (keys_from first v ws)

  pub ranks-in : ranks (named (decode count ws pool) (keys_from first v ws)) (decode count ws pool) ≡ ranks (variables_from first n count v ws pool) (decode count ws pool)
  unfolding variables_from
  ranks-in = ranks-named (decode count ws pool) (starts_of n ws) (ends_of n ws) (keys_from first v ws) (decode count ws pool)
