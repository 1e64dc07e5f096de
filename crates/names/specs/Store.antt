-- Variables in byte order, as the workspace holds them: what storing one asks and does, and what looking up references does. Assumes nothing.
use Rattle.std.specs.Prelude.{ℕ, zero, suc, ◌+◌, ◌*◌, ◌-◌, ◌≤◌, ◌<◌, ◌≡◌, Bool, true, false, List, [], ◌∷◌, ◌++◌, Option, Some, None, Result, Ok, Err, ltb, length, take, drop, set}
use Rattle.rules.specs.Bytes.{pick, before}
use Rattle.rules.specs.Tokens.{Token, is_a, text_kind, variable_kind}
use Rattle.rules.specs.Lines.{Assignment, assigned, insert}
use Rattle.rules.specs.Variables.{rank_of}
use Rattle.rules.proofs.TableLaws.{Sorted}
use Rattle.scan.specs.Stores.{puts}
use Rattle.tokens.specs.Entries.{decode, token_at}
use Rattle.workspace.specs.Map.{keys_from, parts_between, variables_from}

-- how many names, from the front on, stand before the key: where it is to be stored
unfoldable pub place_for : List ℕ → List Assignment → ℕ
place_for key [] = zero
place_for key (v ∷ vs) = elim (before v.key.text key) [ true ↦ suc (place_for key vs) | false ↦ zero ]

-- it holds of each
abbrev pub All : (ℕ → Type 0) → List ℕ → Type 0
All P [] = Unit {0}
All P (k ∷ ks) = P k × All P ks

-- these tokens are Text
abbrev pub Texts : List Token → List ℕ → Type 0
Texts ts ks = All (λ (k : ℕ). is_a text_kind (token_at ts k) ≡ true) ks

-- what a search asks, where the keys stand from place `first` on
pub record Searchable (first n count v : ℕ) (ws pool : List ℕ) : Type 0 where
  pub room : 7 * n ≤ length ws
  pub tokens : count ≤ n
  pub few : first + v ≤ 5 * n
  pub texts : Texts (decode count ws pool) (keys_from first v ws)
  pub sorted : Sorted (variables_from first n count v ws pool)

-- what a search for the key finds: its rank, where it is one of the names; else how many stand before it
unfoldable pub place_among : List Assignment → List ℕ → Result ℕ ℕ
place_among vs key = pick (assigned key vs) (Ok (rank_of key vs)) (Err (place_for key vs))

-- what storing the variable of key token `key` asks: it comes after the keys stored before it, and is a Text; there is room on both sides of them
pub record Insertable (first n count v key from end : ℕ) (ws pool : List ℕ) : Type 0 where
  pub search : Searchable first n count v ws pool
  pub older : All (λ (k : ℕ). k < key) (keys_from first v ws)
  pub text : is_a text_kind (token_at (decode count ws pool) key) ≡ true
  pub below : 4 * n < first
  pub above : first + v < 5 * n
  pub inside : key < n
  pub small : n ≤ 65535
  pub from_small : from ≤ n
  pub end_small : end ≤ n

abbrev pub is_assigned : ℕ → ℕ → ℕ → ℕ → ℕ → List ℕ → List ℕ → Bool
is_assigned first n count v key ws pool = assigned (token_at (decode count ws pool) key).text (variables_from first n count v ws pool)

-- its place among them
abbrev pub place_of : ℕ → ℕ → ℕ → ℕ → ℕ → List ℕ → List ℕ → ℕ
place_of first n count v key ws pool = place_for (token_at (decode count ws pool) key).text (variables_from first n count v ws pool)

-- the variable that is to be stored
abbrev pub new_one : ℕ → ℕ → ℕ → ℕ → List ℕ → List ℕ → Assignment
new_one count key from end ws pool = record { key = token_at (decode count ws pool) key; value = parts_between (decode count ws pool) from end }

-- the keys with one more, at place p
abbrev pub with_key : ℕ → ℕ → List ℕ → List ℕ
with_key p key keys = take p keys ++ key ∷ drop p keys

-- where they begin then: those before place p go one down where they are fewer than those after it, which else go one up
abbrev pub first_after : ℕ → ℕ → ℕ → ℕ
first_after first v p = pick (ltb p (v - p)) (first - 1) first

-- the workspace with the variable stored, at place p of the sorted ones
abbrev pub stored : ℕ → ℕ → ℕ → ℕ → ℕ → ℕ → ℕ → List ℕ → List ℕ
stored first n v p key from end ws = set (set (puts ws (first_after first v p) (with_key p key (keys_from first v ws))) (5 * n + key) from) (6 * n + key) end

-- A variable that is assigned already is a duplicate, and nothing changes. Else it goes to its place in byte order, and nothing else changes.
pub record Inserts (first n count v key from end : ℕ) (pool ws ws' : List ℕ) (r : Option ℕ) : Type 0 where
  pub is_answer : r ≡ pick (is_assigned first n count v key ws pool) None (Some (first_after first v (place_of first n count v key ws pool)))
  pub is_ws : ws' ≡ pick (is_assigned first n count v key ws pool) ws (stored first n v (place_of first n count v key ws pool) key from end ws)
  pub is_table : is_assigned first n count v key ws pool ≡ false
      → variables_from (first_after first v (place_of first n count v key ws pool)) n count (v + 1) ws' pool ≡ insert (new_one count key from end ws pool) (variables_from first n count v ws pool)

-- the rank of the variable that token t refers to; 0 where it is no reference
abbrev pub rank_for : List Assignment → Token → ℕ
rank_for vs t = pick (is_a variable_kind t) (rank_of t.text vs) 0

unfoldable pub ranks : List Assignment → List Token → List ℕ
ranks vs [] = []
ranks vs (t ∷ ts) = rank_for vs t ∷ ranks vs ts

-- what looking up asks
pub record Lookable (n count v : ℕ) (ws pool : List ℕ) : Type 0 where
  pub search : Searchable (4 * n) n count v ws pool
  pub room : 8 * n ≤ length ws
  pub small : n ≤ 65535
