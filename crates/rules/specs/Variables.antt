-- Document 01, "Variables, then fields": names in byte order, visited in repeated passes. Assumes nothing.
use Rattle.std.specs.Prelude.{ℕ, zero, suc, Bool, true, false, List, [], ◌∷◌, ◌++◌, map, length, get_or, set, replicate, ltb}
use Rattle.std.proofs.Math.Option.{Option, none, some}
use Rattle.rules.specs.Bytes.{same}
use Rattle.rules.specs.Tokens.{Token, no_name}
use Rattle.rules.specs.Numbers.{in_variable, undefined_variable, content_too_large, Result, refused, ok}
use Rattle.rules.specs.Lines.{Part, Assignment}

-- the most bytes that a value may have
unfoldable pub limit : ℕ
limit = 67108864

-- a part of a value with its reference looked up: the number is the referred name's rank in byte order, or the count of all names where it is not assigned
pub data Piece : Type 0 where
  text : List ℕ → Piece
  ref : Token → ℕ → Piece

-- the name's rank among the variables; their count, where it is none of them
unfoldable pub rank_of : List ℕ → List Assignment → ℕ
rank_of name [] = zero
rank_of name (v ∷ vs) = elim (same name v.key.text) [ true ↦ zero | false ↦ suc (rank_of name vs) ]

unfoldable pub look_up : List Assignment → Part → Piece
look_up vs (Part.text s) = text s
look_up vs (Part.reference n) = ref n (rank_of n.text vs)

-- each variable's pieces, by rank
unfoldable pub rules_of : List Assignment → List Assignment → List (List Piece)
rules_of vs [] = []
rules_of vs (w ∷ ws) = map (look_up vs) w.value ∷ rules_of vs ws

-- the values found so far, by rank
abbrev pub Found : Type 0
Found = List (Option (List ℕ))

abbrev pub found_at : Found → ℕ → Option (List ℕ)
found_at vals j = get_or vals j none

-- what a visit comes to: a sum above the limit, a reference that lacks a value, or the value
pub data Expansion : Type 0 where
  large : Expansion
  missing : Token → Expansion
  value : List ℕ → Expansion

unfoldable pub bounded : List ℕ → Expansion → Expansion
bounded v e = elim (ltb limit (length v)) [ true ↦ large | false ↦ e ]

-- Parts are summed in order, onto v; the first reference without a value stops, and so does a sum above the limit
unfoldable pub expand : Found → List ℕ → List Piece → Expansion
expand vals v [] = value v
expand vals v (text s ∷ ps) = bounded (v ++ s) (expand vals (v ++ s) ps)
expand vals v (ref n j ∷ ps) = elim (found_at vals j) [ none ↦ missing n | some u ↦ bounded (v ++ u) (expand vals (v ++ u) ps) ]

-- a pass: stopped at a name whose value is too large, or the values after it, and whether it found one
pub data Pass : Type 0 where
  stopped : ℕ → Pass
  passed : Bool → Found → Pass

-- the pass from the i-th name on; a value found counts at once for later names
unfoldable pub pass : ℕ → List (List Piece) → Bool → Found → Pass
pass i [] found vals = passed found vals
pass i (ps ∷ rest) found vals = elim (found_at vals i) [
  | some v ↦ pass (suc i) rest found vals
  | none ↦ elim (expand vals [] ps) [
    | large ↦ stopped i
    | missing n ↦ pass (suc i) rest found vals
    | value v ↦ pass (suc i) rest true (set vals i (some v))
  ]
]

pub data Resolved : Type 0 where
  too_large_at : ℕ → Resolved
  lacks : ℕ → Token → Resolved
  resolved : Found → Resolved

-- the first reference lacking a value
unfoldable pub lacking : Found → List Piece → Token
lacking vals [] = no_name
lacking vals (text s ∷ ps) = lacking vals ps
lacking vals (ref n j ∷ ps) = elim (found_at vals j) [ none ↦ n | some u ↦ lacking vals ps ]

-- the smallest name left, from the i-th on
unfoldable pub left : ℕ → List (List Piece) → Found → Resolved
left i [] vals = resolved vals
left i (ps ∷ rest) vals = elim (found_at vals i) [ some v ↦ left (suc i) rest vals | none ↦ lacks i (lacking vals ps) ]

-- Passes end after one that finds nothing. Each other finds a value, so one more than there are names suffice.
unfoldable pub passes : ℕ → List (List Piece) → Found → Resolved
passes zero rules vals = left 0 rules vals
passes (suc k) rules vals = elim (pass 0 rules false vals) [
  | stopped i ↦ too_large_at i
  | passed found after ↦ elim found [ true ↦ passes k rules after | false ↦ left 0 rules after ]
]

unfoldable pub resolve : List (List Piece) → Resolved
resolve rules = passes (suc (length rules)) rules (replicate (length rules) none)

unfoldable pub key_at : List Assignment → ℕ → Token
key_at [] i = no_name
key_at (v ∷ vs) zero = v.key
key_at (v ∷ vs) (suc i) = key_at vs i

-- the values of the variables, by rank
unfoldable pub resolve_variables : List Assignment → Result Found
resolve_variables vs = elim (resolve (rules_of vs vs)) [
  | too_large_at i ↦ refused (content_too_large (in_variable (key_at vs i)))
  | lacks i n ↦ refused (undefined_variable n (in_variable (key_at vs i)))
  | resolved vals ↦ ok vals
]
