-- Once the references are looked up, the workspace holds the rules of its variables. Assumes nothing.
use Prim.Native.Nat.{ℕ, suc, ◌+◌, ◌*◌, ◌-◌, ◌≤◌, ◌<◌}
use mathlib.Core.Path.{◌≡◌, refl, sym, ◌∙◌, ap, ap₂}
use mathlib.Core.Bool.{Bool, true, false}
use mathlib.Core.List.{List, [], ◌∷◌, map}
use native.Mathlib.Omega.{arith}
use lib.ListN.{length, get_or, drop, length-take, length-drop, length-map}
use lib.Seq.{get_or-take, get_or-drop, length-take-le}
use Rattle.rules.specs.Bytes.{pick}
use Rattle.rules.specs.Tokens.{Token, is_a, variable_kind, no_name}
use Rattle.rules.specs.Lines.{as_part, Assignment}
use Rattle.rules.specs.Variables.{Piece, rank_of, look_up, rules_of}
use Rattle.tokens.specs.Entries.{decode, token_at}
use Rattle.tokens.proofs.TokenLaws.{length-decode}
use Rattle.workspace.specs.Map.{dropped_kind, parts_of, between, parts_between, piece_of, pieces_of, pieces_between, keys_of, starts_of, ends_of, ranks_of, variable_at, variables_from, variables_in, rule_at, rules_in, Looked}

piece-looked : (vs : List Assignment) (t : Token) (rank : ℕ) → (is_a variable_kind t ≡ true → rank ≡ rank_of t.text vs) → piece_of rank t ≡ look_up vs (as_part t)
unfolding pick look_up as_part
piece-looked vs t rank h = go (is_a variable_kind t) refl
  where
    go : (b : Bool) → is_a variable_kind t ≡ b → piece_of rank t ≡ look_up vs (as_part t)
    go true q = rw (q, h q)
    go false q = rw q

pub pieces-looked : (vs : List Assignment) (ranks : List ℕ) (ts : List Token)
    → ((j : ℕ) → j < length ts → is_a variable_kind (token_at ts j) ≡ true → get_or ranks j 0 ≡ rank_of (token_at ts j).text vs) → pieces_of ranks ts ≡ map (look_up vs) (parts_of ts)
unfolding pieces_of parts_of pick
pieces-looked vs ranks [] h = refl
pieces-looked vs ranks (t ∷ ts) h =
    go (is_a dropped_kind t) refl (piece-looked vs t (get_or ranks 0 0) (λ q. h 0 (omega arith) q))
    (pieces-looked vs (drop 1 ranks) ts (λ j l q. let e : 1 + j ≡ suc j = omega arith in get_or-drop 1 ranks j 0 ∙ ap (λ (k : ℕ). get_or ranks k 0) e ∙ h (suc j) (omega arith) q))
  where
    go : (b : Bool) → is_a dropped_kind t ≡ b → piece_of (get_or ranks 0 0) t ≡ look_up vs (as_part t) → pieces_of (drop 1 ranks) ts ≡ map (look_up vs) (parts_of ts)
        → pieces_of ranks (t ∷ ts) ≡ map (look_up vs) (parts_of (t ∷ ts))
    go true q p ps = rw q ps
    go false q p ps = rw q (ap₂ (λ (x : Piece) (xs : List Piece). x ∷ xs) p ps)

-- the tokens of a range
between-at : (ts : List Token) (from to j : ℕ) → j < length (between ts from to) → (token_at (between ts from to) j ≡ token_at ts (from + j)) × (from + j < length ts)
between-at ts from to j h =
    let l = length-take (to - from) (drop from ts) in
    let d = length-drop from ts in
    (get_or-take (to - from) (drop from ts) j no_name (omega arith) ∙ get_or-drop from ts j no_name, omega arith)

module _ (n count : ℕ) (ws pool : List ℕ) (vs : List Assignment) (looked : Looked n count ws pool vs) where
  -- THE LINK: the pieces of a range of tokens are its parts, looked up
  pub between-looked : (from to : ℕ) → pieces_between (decode count ws pool) (ranks_of n ws) from to ≡ map (look_up vs) (parts_between (decode count ws pool) from to)
  between-looked from to = pieces-looked vs (drop from (ranks_of n ws)) (between (decode count ws pool) from to) at
    where
      at : (j : ℕ) → j < length (between (decode count ws pool) from to) → is_a variable_kind (token_at (between (decode count ws pool) from to) j) ≡ true
          → get_or (drop from (ranks_of n ws)) j 0 ≡ rank_of (token_at (between (decode count ws pool) from to) j).text vs
      at j h q =
          let x = between-at (decode count ws pool) from to j h in
          get_or-drop from (ranks_of n ws) j 0 ∙ looked (from + j) (omega (arith, x.1, length-decode count ws pool)) (ap (is_a variable_kind) (sym x.0) ∙ q)
          ∙ ap (λ (t : Token). rank_of t.text vs) (sym x.0)

  rules-map : (ks : List ℕ) → map (rule_at (decode count ws pool) (ranks_of n ws) (starts_of n ws) (ends_of n ws)) ks ≡ rules_of vs (map (variable_at (decode count ws pool) (starts_of n ws) (ends_of n ws)) ks)
  unfolding rules_of
  rules-map [] = refl
  rules-map (k ∷ ks) =
      ap₂ (λ (p : List Piece) (ps : List (List Piece)). p ∷ ps) (between-looked (get_or (starts_of n ws) k 0) (get_or (ends_of n ws) k 0)) (rules-map ks)

  -- so the rules in the workspace are those of its variables
  pub rules-looked : (v : ℕ) → rules_in n count v ws pool ≡ rules_of vs (variables_in n count v ws pool)
  unfolding rules_in variables_from
  rules-looked v = rules-map (keys_of n v ws)

-- how many there are
module _ (n count v : ℕ) (ws pool : List ℕ) (room : 4 * n + v ≤ length ws) where
  pub keys_length : length (keys_of n v ws) ≡ v
  keys_length = length-take-le v (drop (4 * n) ws) (omega (arith, length-drop (4 * n) ws))

  pub rules-length : length (rules_in n count v ws pool) ≡ v
  unfolding rules_in
  rules-length = length-map (keys_of n v ws) _ ∙ keys_length
