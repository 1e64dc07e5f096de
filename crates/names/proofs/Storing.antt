-- Storing a variable: the columns after it, and the variables that they hold. Assumes nothing.
use Prim.Native.Nat.{ℕ, zero, suc, ◌+◌, ◌*◌, ◌-◌, ◌≤◌, ◌<◌}
use mathlib.Core.Path.{◌≡◌, refl, sym, ◌∙◌, ap, ap₂}
use mathlib.Core.Bool.{Bool, true, false}
use mathlib.Core.List.{List, [], ◌∷◌, ◌++◌, map}
use native.Mathlib.Omega.{arith}
use native.Mathlib.Decide.{dec_lt}
use lib.Dec.{ltb}
use lib.ListN.{length, get_or, take, drop, set, length-set, length-append, length-drop, length-map}
use lib.Seq.{drop-set-lt, get_or-set_same, get_or-set_other, take_at, length-take-le}
use Rattle.rules.specs.Bytes.{pick}
use Rattle.rules.proofs.BytesLaws.{false-true}
use Rattle.rules.specs.Tokens.{Token}
use Rattle.rules.specs.Lines.{Assignment, insert}
use Rattle.scan.specs.Stores.{puts}
use Rattle.scan.proofs.Lists.{length_part, cell_in, cell-past, part-some}
use Rattle.scan.proofs.Stores.{length-puts, drop-puts, drop-stored, get_or-puts-below, get_or-puts-above, column-before}
use Rattle.tokens.specs.Entries.{decode, token_at, pool_text}
use Rattle.tokens.proofs.TokenLaws.{decode-same}
use Rattle.workspace.specs.Map.{keys_from, starts_of, ends_of, variable_at, variables_from}
use Rattle.std.specs.Prelude.{Result, Ok, Err, Some, None}
use Rattle.names.specs.Named.{named}
use Rattle.names.specs.Store.{place_among, All, Searchable, Insertable, Inserts, place_of, with_key, first_after, stored, new_one, is_assigned}
use Rattle.names.proofs.Places.{place-insert, place-le, taken, free, text-pooled}
use Rattle.names.proofs.Naming.{among-in}

-- a cell of a column: the entry, while the column has it
cell_same : (n b k : ℕ) (ws ws' : List ℕ) → get_or ws' (b + k) 0 ≡ get_or ws (b + k) 0 → get_or (take n (drop b ws')) k 0 ≡ get_or (take n (drop b ws)) k 0
cell_same n b k ws ws' e = go (dec_lt k n)
  where
    go : Dec (k < n) → get_or (take n (drop b ws')) k 0 ≡ get_or (take n (drop b ws)) k 0
    go (yes h) = sym (cell_in ws' b n k h) ∙ e ∙ cell_in ws b n k h
    go (no h) = sym (cell-past ws' b n k (omega arith)) ∙ cell-past ws b n k (omega arith)

-- where the keys begin, after storing: where they began, or one before
pub after-within : (first v p : ℕ) → (first - 1 ≤ first_after first v p) × (first_after first v p ≤ first)
unfolding pick
after-within first v p = go (ltb p (v - p))
  where
    go : (b : Bool) → (first - 1 ≤ pick b (first - 1) first) × (pick b (first - 1) first ≤ first)
    go true = (omega arith, omega arith)
    go false = (omega arith, omega arith)

-- the workspace after storing
module _ (first n v p key from end : ℕ) (ws : List ℕ) (room : 7 * n ≤ length ws) (low : 4 * n < first) (high : first + v < 5 * n) (h : p ≤ v) (k : key < n) where
  vals : List ℕ
  vals = with_key p key (keys_from first v ws)

  at : ℕ
  at = first_after first v p

  shifted : List ℕ
  shifted = puts ws at vals

  bounds : (4 * n ≤ at) × (at + (v + 1) ≤ 5 * n)
  unfolding at
  bounds = let b = after-within first v p in (omega (arith, b.0), omega (arith, b.1))

  length-vals : length vals ≡ v + 1
  unfolding vals
  length-vals =
      let l : length (keys_from first v ws) ≡ v = length_part ws first v (omega arith) in
      length-append (take p (keys_from first v ws)) (key ∷ drop p (keys_from first v ws))
      ∙ omega (arith, length-take-le p (keys_from first v ws) (omega arith), length-drop p (keys_from first v ws))

  pub stored-long : length (stored first n v p key from end ws) ≡ length ws
  stored-long = simp (length-set, length-puts) refl

  -- all but the column of keys and the key's own two cells is as it was
  pub stored_other : (i : ℕ) → (4 * n ≤ i → i < 5 * n → ⊥) → (i ≡ 5 * n + key → ⊥) → (i ≡ 6 * n + key → ⊥) → get_or (stored first n v p key from end ws) i 0 ≡ get_or ws i 0
  unfolding shifted vals at
  stored_other i a b d =
      get_or-set_other (set shifted (5 * n + key) from) (6 * n + key) i end 0 d ∙ get_or-set_other shifted (5 * n + key) i from 0 b ∙ go (dec_lt i (4 * n))
    where
      go : Dec (i < 4 * n) → get_or shifted i 0 ≡ get_or ws i 0
      go (yes q) = get_or-puts-below ws at vals i 0 (omega (arith, bounds.0))
      go (no q) = elim (dec_lt i (5 * n)) [
        | yes r ↦ absurd (a (omega arith) r)
        | no r ↦ get_or-puts-above ws at vals i 0 (omega (arith, bounds.1, length-vals))
      ]

  -- and all from 7n on
  pub stored-beyond : (m : ℕ) → 7 * n ≤ m → drop m (stored first n v p key from end ws) ≡ drop m ws
  unfolding shifted vals at
  stored-beyond m l =
      drop-set-lt m (set shifted (5 * n + key) from) (6 * n + key) end (omega arith) ∙ drop-set-lt m shifted (5 * n + key) from (omega arith)
      ∙ drop-puts m ws at vals (omega (arith, bounds.1, length-vals))

  pub stored-keys : keys_from (first_after first v p) (v + 1) (stored first n v p key from end ws) ≡ with_key p key (keys_from first v ws)
  unfolding shifted vals at
  stored-keys =
      let b = bounds.1 in
      let l = length-vals in
      column-before (v + 1) at (set shifted (5 * n + key) from) (6 * n + key) (end ∷ []) (omega arith)
      ∙ column-before (v + 1) at shifted (5 * n + key) (from ∷ []) (omega arith)
      ∙ ap (take (v + 1)) (drop-stored ws at vals (omega arith)) ∙ take_at vals (drop (at + length vals) ws) (v + 1) l

  pub stored-start : get_or (starts_of n (stored first n v p key from end ws)) key 0 ≡ from
  unfolding shifted vals at
  stored-start =
      let l : length shifted ≡ length ws = length-puts ws at vals in
      sym (cell_in (stored first n v p key from end ws) (5 * n) n key k)
      ∙ get_or-set_other (set shifted (5 * n + key) from) (6 * n + key) (5 * n + key) end 0 (λ e. omega arith) ∙ get_or-set_same shifted (5 * n + key) from 0 (omega arith)

  pub stored-end : get_or (ends_of n (stored first n v p key from end ws)) key 0 ≡ end
  unfolding shifted vals at
  stored-end =
      let l : length shifted ≡ length ws = length-puts ws at vals in
      let m : length (set shifted (5 * n + key) from) ≡ length ws = length-set shifted (5 * n + key) from ∙ l in
      sym (cell_in (stored first n v p key from end ws) (6 * n) n key k) ∙ get_or-set_same (set shifted (5 * n + key) from) (6 * n + key) end 0 (omega arith)

  pub stored-tokens : (count : ℕ) (pool : List ℕ) → count ≤ n → decode count (stored first n v p key from end ws) pool ≡ decode count ws pool
  stored-tokens count pool t = decode-same count ws (stored first n v p key from end ws) pool (λ i q. stored_other i (λ a b. omega arith) (λ e. omega arith) (λ e. omega arith))

  -- the cells of other tokens
  pub stored-starts : (i : ℕ) → (i ≡ key → ⊥) → get_or (starts_of n (stored first n v p key from end ws)) i 0 ≡ get_or (starts_of n ws) i 0
  stored-starts i ne = go (dec_lt i n)
    where
      go : Dec (i < n) → get_or (starts_of n (stored first n v p key from end ws)) i 0 ≡ get_or (starts_of n ws) i 0
      go (yes q) = cell_same n (5 * n) i ws (stored first n v p key from end ws) (stored_other (5 * n + i) (λ a b. omega arith) (λ e. ne (omega arith)) (λ e. omega arith))
      go (no q) = sym (cell-past (stored first n v p key from end ws) (5 * n) n i (omega arith)) ∙ cell-past ws (5 * n) n i (omega arith)

  pub stored-ends : (i : ℕ) → (i ≡ key → ⊥) → get_or (ends_of n (stored first n v p key from end ws)) i 0 ≡ get_or (ends_of n ws) i 0
  stored-ends i ne = cell_same n (6 * n) i ws (stored first n v p key from end ws) (stored_other (6 * n + i) (λ a b. omega arith) (λ e. omega arith) (λ e. ne (omega arith)))

-- the variables
variables-length : (first n count v : ℕ) (ws pool : List ℕ) → Searchable first n count v ws pool → length (variables_from first n count v ws pool) ≡ v
unfolding variables_from
variables-length first n count v ws pool S = length-map (keys_from first v ws) _ ∙ length_part ws first v (omega (arith, S.room, S.few))

map_below : (f g : ℕ → Assignment) (key : ℕ) → ((k : ℕ) → k < key → g k ≡ f k) → (ks : List ℕ) → All (λ (k : ℕ). k < key) ks → map g ks ≡ map f ks
map_below f g key e [] b = refl
map_below f g key e (k ∷ ks) b = ap₂ (λ (x : Assignment) (l : List Assignment). x ∷ l) (e k b.0) (map_below f g key e ks b.1)

map-insert : (f g : ℕ → Assignment) (key : ℕ) → ((k : ℕ) → k < key → g k ≡ f k) → (ks : List ℕ) (p : ℕ) → All (λ (k : ℕ). k < key) ks
    → map g (take p ks ++ key ∷ drop p ks) ≡ take p (map f ks) ++ g key ∷ drop p (map f ks)
map-insert f g key e [] zero b = refl
map-insert f g key e [] (suc p) b = refl
map-insert f g key e (k ∷ ks) zero b = ap (λ (l : List Assignment). g key ∷ l) (map_below f g key e (k ∷ ks) b)
map-insert f g key e (k ∷ ks) (suc p) b = ap₂ (λ (x : Assignment) (l : List Assignment). x ∷ l) (e k b.0) (map-insert f g key e ks p b.1)

module _ (first n count v key from end : ℕ) (ws pool : List ℕ) (I : Insertable first n count v key from end ws pool) where
  pub place-fits : place_of first n count v key ws pool ≤ v
  place-fits = omega (arith, place-le (token_at (decode count ws pool) key).text (variables_from first n count v ws pool), variables-length first n count v ws pool I.search)

  stored-table : is_assigned first n count v key ws pool ≡ false
      → variables_from (first_after first v (place_of first n count v key ws pool)) n count (v + 1) (stored first n v (place_of first n count v key ws pool) key from end ws) pool ≡ insert (new_one count key from end ws pool) (variables_from first n count v ws pool)
  unfolding variables_from
  stored-table a =
      let p = place_of first n count v key ws pool in
      let w = stored first n v p key from end ws in
      let r = I.search.room in
      let T = stored-tokens first n v p key from end ws r I.below I.above place-fits I.inside count pool I.search.tokens in
      let K = stored-keys first n v p key from end ws r I.below I.above place-fits I.inside in
      let f = variable_at (decode count ws pool) (starts_of n ws) (ends_of n ws) in
      let g = variable_at (decode count ws pool) (starts_of n w) (ends_of n w) in
      let same : (k : ℕ) → k < key → g k ≡ f k = λ k q.
      rw (stored-starts first n v p key from end ws r I.below I.above place-fits I.inside k (λ z. omega arith), stored-ends first n v p key from end ws r I.below I.above place-fits I.inside k (λ z. omega arith)) in
      let new : g key ≡ new_one count key from end ws pool =
      rw (stored-start first n v p key from end ws r I.below I.above place-fits I.inside, stored-end first n v p key from end ws r I.below I.above place-fits I.inside) in
      ap₂ (λ (ts : List _) (ks : List ℕ). map (variable_at ts (starts_of n w) (ends_of n w)) ks) T K
      ∙ map-insert f g key same (keys_from first v ws) p I.older
      ∙ ap (λ (x : Assignment). take p (variables_from first n count v ws pool) ++ x ∷ drop p (variables_from first n count v ws pool)) new
      ∙ sym (place-insert (new_one count key from end ws pool) (variables_from first n count v ws pool) a)

  -- what a search for the key's name, as both were read, found among the names
  module _ (ts : List Token) (e : ts ≡ decode count ws pool) (text : List ℕ) (t : text ≡ pool_text (token_at ts key))
      (found : Result ℕ ℕ) (f : found ≡ place_among (named ts (take (first + v - first) (drop first ws))) text) where
    is_found : found ≡ place_among (variables_from first n count v ws pool) (token_at (decode count ws pool) key).text
    is_found = f ∙ rw (t, e, part-some ws first v, text-pooled (token_at (decode count ws pool) key) I.text) (among-in first n count v ws pool (token_at (decode count ws pool) key).text)

    pub insert-dup : (i : ℕ) → found ≡ Ok i → Inserts first n count v key from end pool ws ws None
    unfolding pick
    insert-dup i q =
        let a : is_assigned first n count v key ws pool ≡ true = (taken _ _ _ is_found i q).1 in
        record { is_answer = rw a; is_ws = rw a; is_table = λ z. absurd (false-true z a) }

    -- so many stand before it
    module _ (p : ℕ) (q : found ≡ Err p) where
      is_place : p ≡ place_of first n count v key ws pool
      is_place = (free _ _ _ is_found p q).0

      pub place-in : p ≤ v
      place-in = let h = place-fits in omega (arith, is_place)

      pub insert-new : (w : List ℕ) (begin : ℕ) → begin ≡ first_after first v p → w ≡ puts ws (first_after first v p) (with_key p key (keys_from first v ws))
          → Inserts first n count v key from end pool ws (set (set w (5 * n + key) from) (6 * n + key) end) (Some begin)
      unfolding pick
      insert-new w begin b s =
          let a : is_assigned first n count v key ws pool ≡ false = (free _ _ _ is_found p q).2 in
          let i : set (set w (5 * n + key) from) (6 * n + key) end ≡ stored first n v (place_of first n count v key ws pool) key from end ws =
          ap (λ (l : List ℕ). set (set l (5 * n + key) from) (6 * n + key) end) s ∙ ap (λ (k : ℕ). stored first n v k key from end ws) is_place in
          record {
            is_answer = rw a (ap Some (b ∙ ap (first_after first v) is_place));
            is_ws = rw a i;
            is_table = λ z. ap (λ (l : List ℕ). variables_from (first_after first v (place_of first n count v key ws pool)) n count (v + 1) l pool) i ∙ stored-table z;
          }
