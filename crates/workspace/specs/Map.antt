-- The map of the workspace for a text of n bytes, and the file that it holds once the lines are read. Assumes nothing.
--   0 .. 4n       tokens, four entries each
--   4n .. 5n      the key tokens of the variables, in byte order of their names: from 4n on; while lines are read, from a place in between
--   5n .. 6n      by key token: the value's first token (of a list: where its arguments' rows begin)
--   6n .. 7n      by key token: the token past the value (of a list: how many arguments it has)
--                 by row of an argument: its first token, and the token past it. The rows of a list stand at the tokens of its value.
--   7n .. 8n      by token: the rank of the variable that it refers to, the number of variables where it is none; 0 for other tokens
--   8n .. 8n+v    by rank: the length of the value + 1, 0 for none
--   8n+v .. 8n+4v scratch of the passes, for v variables; 9n .. 12n then the writer's
--   12n .. 12n+11 by field number: the field's key token + 1, 0 where the field is absent
use Rattle.std.specs.Prelude.{ℕ, zero, suc, ◌+◌, ◌*◌, ◌-◌, ◌≤◌, ◌<◌, ◌≡◌, true, List, [], ◌∷◌, map, length, get_or, take, drop}
use Rattle.std.proofs.Math.Option.{Option, none, some}
use Rattle.rules.specs.Bytes.{pick}
use Rattle.rules.specs.Tokens.{Token, is_a, variable_kind}
use Rattle.rules.specs.Lines.{Part, as_part, Template, string, list, is_string, Assignment, Field, File, field_at}
use Rattle.rules.specs.Variables.{Piece, text, ref, rank_of}
use Rattle.tokens.specs.Entries.{decode, token_at}

-- column k of n entries
abbrev pub column : ℕ → ℕ → List ℕ → List ℕ
column k n ws = take n (drop (k * n) ws)

-- a token that a list value dropped (a quote, or a backslash that escapes) has this kind
abbrev pub dropped_kind : ℕ
dropped_kind = 0

-- the parts of tokens, without those that were dropped
unfoldable pub parts_of : List Token → List Part
parts_of [] = []
parts_of (t ∷ ts) = pick (is_a dropped_kind t) (parts_of ts) (as_part t ∷ parts_of ts)

-- the tokens from `from` up to, not with, `to`
abbrev pub between : List Token → ℕ → ℕ → List Token
between ts from to = take (to - from) (drop from ts)

abbrev pub parts_between : List Token → ℕ → ℕ → List Part
parts_between ts from to = parts_of (between ts from to)

-- the key tokens of v variables, in byte order of their names: from place `first` on
abbrev pub keys_from : ℕ → ℕ → List ℕ → List ℕ
keys_from first v ws = take v (drop first ws)

-- once all lines are read
abbrev pub keys_of : ℕ → ℕ → List ℕ → List ℕ
keys_of n v ws = keys_from (4 * n) v ws

abbrev pub starts_of : ℕ → List ℕ → List ℕ
starts_of n ws = column 5 n ws

abbrev pub ends_of : ℕ → List ℕ → List ℕ
ends_of n ws = column 6 n ws

abbrev pub ranks_of : ℕ → List ℕ → List ℕ
ranks_of n ws = column 7 n ws

abbrev pub lengths_of : ℕ → ℕ → List ℕ → List ℕ
lengths_of n v ws = take v (drop (8 * n) ws)

-- the tokens ts, with the columns of starts and ends
module _ (ts : List Token) (starts ends : List ℕ) where
  -- the variable whose key is token k
  abbrev pub variable_at : ℕ → Assignment
  variable_at k = record { key = token_at ts k; value = parts_between ts (get_or starts k 0) (get_or ends k 0) }

  -- the arguments of m rows from row i on
  unfoldable pub arguments_from : ℕ → ℕ → List (List Part)
  arguments_from i zero = []
  arguments_from i (suc m) = parts_between ts (get_or starts i 0) (get_or ends i 0) ∷ arguments_from (suc i) m

  -- the value of the field f whose key is token k
  unfoldable pub template_at : ℕ → ℕ → Template
  template_at f k = pick (is_string f) (string (parts_between ts (get_or starts k 0) (get_or ends k 0))) (list (arguments_from (get_or starts k 0) (get_or ends k 0)))

  -- by what the field's entry holds
  unfoldable pub field_of_entry : ℕ → ℕ → Option Field
  field_of_entry f zero = none
  field_of_entry f (suc k) = some (record { number = f; key = token_at ts k; value = template_at f k })

-- the variables in byte order, whose keys stand from place `first` on
unfoldable pub variables_from : ℕ → ℕ → ℕ → ℕ → List ℕ → List ℕ → List Assignment
variables_from first n count v ws pool = map (variable_at (decode count ws pool) (starts_of n ws) (ends_of n ws)) (keys_from first v ws)

abbrev pub variables_in : ℕ → ℕ → ℕ → List ℕ → List ℕ → List Assignment
variables_in n count v ws pool = variables_from (4 * n) n count v ws pool

unfoldable pub field_in : ℕ → ℕ → List ℕ → List ℕ → ℕ → Option Field
field_in n count ws pool f = field_of_entry (decode count ws pool) (starts_of n ws) (ends_of n ws) f (get_or ws (12 * n + f) 0)

-- token t as a piece, where it refers to the variable of this rank
abbrev pub piece_of : ℕ → Token → Piece
piece_of rank t = pick (is_a variable_kind t) (ref t rank) (text t.text)

-- the pieces of tokens with their ranks, without those that were dropped
unfoldable pub pieces_of : List ℕ → List Token → List Piece
pieces_of ranks [] = []
pieces_of ranks (t ∷ ts) = pick (is_a dropped_kind t) (pieces_of (drop 1 ranks) ts) (piece_of (get_or ranks 0 0) t ∷ pieces_of (drop 1 ranks) ts)

abbrev pub pieces_between : List Token → List ℕ → ℕ → ℕ → List Piece
pieces_between ts ranks from to = pieces_of (drop from ranks) (between ts from to)

-- the pieces of the variable whose key is token k
abbrev pub rule_at : List Token → List ℕ → List ℕ → List ℕ → ℕ → List Piece
rule_at ts ranks starts ends k = pieces_between ts ranks (get_or starts k 0) (get_or ends k 0)

-- each variable's pieces, by rank
unfoldable pub rules_in : ℕ → ℕ → ℕ → List ℕ → List ℕ → List (List Piece)
rules_in n count v ws pool = map (rule_at (decode count ws pool) (ranks_of n ws) (starts_of n ws) (ends_of n ws)) (keys_of n v ws)

-- the column of ranks is right: each reference has its variable's rank among vs
abbrev pub Looked : ℕ → ℕ → List ℕ → List ℕ → List Assignment → Type 0
Looked n count ws pool vs = (j : ℕ) → j < count → is_a variable_kind (token_at (decode count ws pool) j) ≡ true
    → get_or (ranks_of n ws) j 0 ≡ rank_of (token_at (decode count ws pool) j).text vs

-- workspace and pool hold the file: `count` tokens and v variables, whose keys stand from place `first` on
pub record HoldsFrom (first n count v : ℕ) (ws pool : List ℕ) (file : File) : Type 0 where
  pub variables : variables_from first n count v ws pool ≡ file.variables
  pub fields : (f : ℕ) → 1 ≤ f → f ≤ 10 → field_in n count ws pool f ≡ field_at f file.fields

abbrev pub Holds : ℕ → ℕ → ℕ → List ℕ → List ℕ → File → Type 0
Holds n count v ws pool file = HoldsFrom (4 * n) n count v ws pool file

-- the fields that are given, of k from the f-th on
unfoldable pub fields_in : ℕ → ℕ → List ℕ → List ℕ → ℕ → ℕ → List Field
fields_in n count ws pool zero f = []
fields_in n count ws pool (suc k) f = elim (field_in n count ws pool f) [
  | none ↦ fields_in n count ws pool k (suc f)
  | some g ↦ g ∷ fields_in n count ws pool k (suc f)
]

-- the file that workspace and pool hold, its fields by number
unfoldable pub file_in : ℕ → ℕ → ℕ → List ℕ → List ℕ → File
file_in n count v ws pool = record { variables = variables_in n count v ws pool; fields = fields_in n count ws pool 10 1 }

-- the room that all layers have; an assignment is a key, `=` and a newline, but for the last
pub record Room (n count v : ℕ) (ws : List ℕ) : Type 0 where
  pub small : n ≤ 65535
  pub room : 12 * n + 64 ≤ length ws
  pub tokens : count ≤ n
  pub few : 3 * v ≤ count + 1
