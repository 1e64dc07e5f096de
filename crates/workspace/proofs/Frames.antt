-- What each part of the map rests on, and so what stores elsewhere leave as it was. Assumes nothing.
use Prim.Native.Nat.{ℕ, zero, suc, ◌+◌, ◌*◌, ◌≤◌, ◌<◌}
use mathlib.Core.Path.{◌≡◌, sym, ◌∙◌, ap}
use mathlib.Core.List.{List, [], ◌∷◌}
use native.Mathlib.Nat.{zero-add}
use native.Mathlib.Omega.{arith}
use lib.ListN.{length, get_or, take, drop}
use lib.Seq.{take-take, take-nil, get_or-take, get_or-drop}
use Rattle.rules.specs.Lines.{Assignment}
use Rattle.tokens.specs.Entries.{decode}
use Rattle.tokens.proofs.TokenLaws.{decode-same}
use Rattle.scan.specs.Stores.{puts}
use Rattle.scan.proofs.Stores.{take-puts, drop-puts}
use Rattle.workspace.specs.Map.{ranks_of, variables_from, variables_in, rules_in, field_in, Looked}

take-drop : (n b : ℕ) (l : List ℕ) → take n (drop b l) ≡ drop b (take (b + n) l)
take-drop n zero l = rw zero-add
take-drop n (suc b) [] = rw (take-nil n, take-nil (suc b + n))
take-drop n (suc b) (x ∷ l) = let e : suc b + n ≡ suc (b + n) = omega arith in take-drop n b l ∙ rw e

-- the first m entries are the same
module _ (m : ℕ) (ws ws' : List ℕ) (low : take m ws' ≡ take m ws) where
  pub entry-low : (k : ℕ) → k < m → get_or ws' k 0 ≡ get_or ws k 0
  entry-low k h = sym (get_or-take m ws' k 0 h) ∙ ap (λ (l : List ℕ). get_or l k 0) low ∙ get_or-take m ws k 0 h

  pub take-low : (k : ℕ) → k ≤ m → take k ws' ≡ take k ws
  take-low k h = sym (take-take k m ws' h) ∙ ap (take k) low ∙ take-take k m ws h

  pub column-low : (k b : ℕ) → b + k ≤ m → take k (drop b ws') ≡ take k (drop b ws)
  column-low k b h = take-drop k b ws' ∙ ap (drop b) (take-low (b + k) h) ∙ sym (take-drop k b ws)

  pub decode-low : (count : ℕ) (pool : List ℕ) → 4 * count ≤ m → decode count ws' pool ≡ decode count ws pool
  decode-low count pool h = decode-same count ws ws' pool (λ k l. entry-low k (omega arith))

-- the variables rest on the first 7n entries
module _ (n count v : ℕ) (ws ws' pool : List ℕ) (inside : count ≤ n) (few : v ≤ n) (low : take (7 * n) ws' ≡ take (7 * n) ws) where
  pub variables-low : variables_in n count v ws' pool ≡ variables_in n count v ws pool
  unfolding variables_from
  variables-low =
      let D = decode-low (7 * n) ws ws' low count pool (omega arith) in
      let K = column-low (7 * n) ws ws' low v (4 * n) (omega arith) in
      let S = column-low (7 * n) ws ws' low n (5 * n) (omega arith) in
      let E = column-low (7 * n) ws ws' low n (6 * n) (omega arith) in
      rw (D, K, S, E)

  -- the fields rest on them and on their own entries
  pub field-low : drop (12 * n) ws' ≡ drop (12 * n) ws → (f : ℕ) → field_in n count ws' pool f ≡ field_in n count ws pool f
  unfolding field_in
  field-low high f =
      let D = decode-low (7 * n) ws ws' low count pool (omega arith) in
      let S = column-low (7 * n) ws ws' low n (5 * n) (omega arith) in
      let E = column-low (7 * n) ws ws' low n (6 * n) (omega arith) in
      let F : get_or ws' (12 * n + f) 0 ≡ get_or ws (12 * n + f) 0 = sym (get_or-drop (12 * n) ws' f 0) ∙ ap (λ (l : List ℕ). get_or l f 0) high ∙ get_or-drop (12 * n) ws f 0 in
      rw (D, S, E, F)

-- Only the scratch and the lengths, the entries from 8n up to 12n, may differ
pub record Kept (n : ℕ) (ws ws' : List ℕ) : Type 0 where
  pub low : take (8 * n) ws' ≡ take (8 * n) ws
  pub high : drop (12 * n) ws' ≡ drop (12 * n) ws

pub kept-puts : (n : ℕ) (ws : List ℕ) (i : ℕ) (vs : List ℕ) → 8 * n ≤ i → i + length vs ≤ 12 * n → Kept n ws (puts ws i vs)
kept-puts n ws i vs h k = record { low = take-puts (8 * n) ws i vs h; high = drop-puts (12 * n) ws i vs k }

module _ (n count v : ℕ) (ws ws' pool : List ℕ) (inside : count ≤ n) (few : v ≤ n) where
  -- the rules rest on the first 8n entries
  pub rules-low : take (8 * n) ws' ≡ take (8 * n) ws → rules_in n count v ws' pool ≡ rules_in n count v ws pool
  unfolding rules_in
  rules-low low =
      let D = decode-low (8 * n) ws ws' low count pool (omega arith) in
      let K = column-low (8 * n) ws ws' low v (4 * n) (omega arith) in
      let S = column-low (8 * n) ws ws' low n (5 * n) (omega arith) in
      let E = column-low (8 * n) ws ws' low n (6 * n) (omega arith) in
      let R = column-low (8 * n) ws ws' low n (7 * n) (omega arith) in
      rw (D, K, S, E, R)

  module _ (K : Kept n ws ws') where
    low_seven : take (7 * n) ws' ≡ take (7 * n) ws
    low_seven = take-low (8 * n) ws ws' K.low (7 * n) (omega arith)

    pub tokens-kept : decode count ws' pool ≡ decode count ws pool
    tokens-kept = decode-low (8 * n) ws ws' K.low count pool (omega arith)

    pub ranks-kept : ranks_of n ws' ≡ ranks_of n ws
    ranks-kept = column-low (8 * n) ws ws' K.low n (7 * n) (omega arith)

    pub variables-kept : variables_in n count v ws' pool ≡ variables_in n count v ws pool
    variables-kept = variables-low n count v ws ws' pool inside few low_seven

    pub rules-kept : rules_in n count v ws' pool ≡ rules_in n count v ws pool
    rules-kept = rules-low K.low

    pub looked-kept : (vs : List Assignment) → Looked n count ws pool vs → Looked n count ws' pool vs
    looked-kept vs L = rw (tokens-kept, ranks-kept) L
