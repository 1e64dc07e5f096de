-- What the writer needs, and what it does. Beside the tables, which it never changes, it has two parts of the workspace: two entries for each name, where
-- its value stands in the output; and the stack, which grows down, three entries for each value that is being written. Assumes nothing.
use Rattle.std.specs.Prelude.{ℕ, suc, ◌+◌, ◌*◌, ◌-◌, ◌≤◌, ◌<◌, ◌≡◌, List, [], ◌∷◌, length, get_or, take, drop}
use Rattle.rules.specs.Variables.{Piece, resolved, resolve}
use Rattle.rules.proofs.Lengths.{entries}
use Rattle.scan.specs.Stores.{puts}
use Rattle.writer.specs.Tables.{Tables, end_of, pieces, rules, value, value_between}

-- each reference is to one of the v names
unfoldable pub Known : ℕ → List Piece → Type 0
Known v [] = Unit {0}
Known v (Piece.text s ∷ ps) = Known v ps
Known v (Piece.ref t j ∷ ps) = (j < v) × Known v ps

-- one more than the place in the output where the value of the name of rank j stands, in two entries; 0 for none
abbrev pub place_in : List ℕ → ℕ → ℕ
place_in places j = get_or places (2 * j) 0 + 2147483648 * get_or places (2 * j + 1) 0

-- bs stand in the list at place p
abbrev pub Stands : List ℕ → ℕ → List ℕ → Type 0
Stands l p bs = take (length bs) (drop p l) ≡ bs

-- where a place is remembered, the value stands there, in the part that is written
pub record Held (out : List ℕ) (at : ℕ) (bs : List ℕ) (p : ℕ) : Type 0 where
  pub inside : p - 1 + length bs ≤ at
  pub stands : Stands out (p - 1) bs

abbrev pub Remembered : Tables → List ℕ → List ℕ → ℕ → Type 0
Remembered t places out at = (j : ℕ) → j < length t.keys → 1 ≤ place_in places j → Held out at (value t j) (place_in places j)

-- what is needed to write the value of the variable of rank j from place p on
pub record Referred (t : Tables) (places : List ℕ) (j : ℕ) (out : List ℕ) (p : ℕ) : Type 0 where
  pub has_length : get_or t.lengths j 0 ≡ suc (length (value t j))
  pub has_place : 2 * j + 1 < length places
  pub fits : p + length (value t j) ≤ length out
  pub small : p + length (value t j) < 4611686018427387904
  pub held : 1 ≤ place_in places j → Held out p (value t j) (place_in places j)

-- the variables are resolved, the column of lengths is right, and all their tokens are tokens
pub record Ready (count v : ℕ) (t : Tables) : Type 0 where
  pub resolves : resolve (rules t) ≡ resolved t.values
  pub lengths : t.lengths ≡ entries t.values
  pub in_table : (j : ℕ) → j < v → end_of t j ≤ count

-- tokens and names have 16 bits; there is a place for each name, and a frame for each at once
pub record Suffices (t : Tables) (places stack : List ℕ) : Type 0 where
  pub tokens : length t.tokens ≤ 65535
  pub names : length t.keys ≤ 65535
  pub for_places : 2 * length t.keys ≤ length places
  pub for_frames : 3 * length t.keys ≤ length stack

-- what a call asks
pub record Writable (t : Tables) (places stack out : List ℕ) (at from to : ℕ) : Type 0 where
  pub room : Suffices t places stack
  pub ready : Ready (length t.tokens) (length t.keys) t
  pub in_table : to ≤ length t.tokens
  pub known : Known (length t.keys) (pieces t from to)
  pub fits : at + length (value_between t from to) ≤ length out
  pub small : at + length (value_between t from to) < 4611686018427387904
  pub remembered : Remembered t places out at

-- the bytes bs are written at place `at`; what is remembered is right again, and what is new of it stands there or later
pub record Written (t : Tables) (places out : List ℕ) (at : ℕ) (bs places' out' : List ℕ) (at' : ℕ) : Type 0 where
  pub moved : at' ≡ at + length bs
  pub bytes : out' ≡ puts out at bs
  pub remembered : Remembered t places' out' at'
  pub recent : (j : ℕ) → j < length t.keys → place_in places' j ≤ at → place_in places' j ≡ place_in places j
