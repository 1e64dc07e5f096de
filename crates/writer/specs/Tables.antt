-- What the writer reads of the workspace (the map's entries below 9n) and of the pool, and never changes. Assumes nothing.
use Rattle.std.specs.Prelude.{ℕ, List, [], ◌∷◌, ◌++◌, map, get_or}
use Rattle.std.proofs.Math.Option.{Option, none, some}
use Rattle.rules.specs.Tokens.{Token}
use Rattle.rules.specs.Variables.{Piece, Found, found_at, Resolved, too_large_at, lacks, resolved, resolve}
use Rattle.tokens.specs.Entries.{decode}
use Rattle.workspace.specs.Map.{keys_of, starts_of, ends_of, ranks_of, lengths_of, pieces_between, rule_at, rules_in}

-- the tokens; the rank by token; the variables' key tokens by rank; a value's first token and the token past it, by key token; length + 1 of a value by
-- rank; and the values themselves, as the rules have them
pub record Tables : Type 0 where
  pub tokens : List Token
  pub ranks : List ℕ
  pub keys : List ℕ
  pub starts : List ℕ
  pub ends : List ℕ
  pub lengths : List ℕ
  pub values : Found

-- the values, where the variables resolve
unfoldable pub values_of : Resolved → Found
values_of (too_large_at i) = []
values_of (lacks i n) = []
values_of (resolved vals) = vals

-- the tables of these tokens and columns
abbrev pub tables_by : List Token → List ℕ → List ℕ → List ℕ → List ℕ → List ℕ → Tables
tables_by tokens ranks keys starts ends lengths =
    record {
      tokens = tokens;
      ranks = ranks;
      keys = keys;
      starts = starts;
      ends = ends;
      lengths = lengths;
      values = values_of (resolve (map (rule_at tokens ranks starts ends) keys));
    }

-- those of the workspace
abbrev pub tables_in : ℕ → ℕ → ℕ → List ℕ → List ℕ → Tables
tables_in n count v ws pool =
    record {
      tokens = decode count ws pool;
      ranks = ranks_of n ws;
      keys = keys_of n v ws;
      starts = starts_of n ws;
      ends = ends_of n ws;
      lengths = lengths_of n v ws;
      values = values_of (resolve (rules_in n count v ws pool));
    }

-- the first token of the value of the variable of rank j, and the token past it
abbrev pub start_of : Tables → ℕ → ℕ
start_of t j = get_or t.starts (get_or t.keys j 0) 0

abbrev pub end_of : Tables → ℕ → ℕ
end_of t j = get_or t.ends (get_or t.keys j 0) 0

-- the pieces of the tokens from `from` up to, not with, `to`
abbrev pub pieces : Tables → ℕ → ℕ → List Piece
pieces t from to = pieces_between t.tokens t.ranks from to

-- each variable's pieces, by rank
abbrev pub rules : Tables → List (List Piece)
rules t = map (rule_at t.tokens t.ranks t.starts t.ends) t.keys

abbrev pub or_empty : Option (List ℕ) → List ℕ
or_empty none = []
or_empty (some v) = v

-- the value of the variable of rank j
unfoldable pub value : Tables → ℕ → List ℕ
value t j = or_empty (found_at t.values j)

-- pieces joined
unfoldable pub joined : (ℕ → List ℕ) → List Piece → List ℕ
joined val [] = []
joined val (Piece.text s ∷ ps) = s ++ joined val ps
joined val (Piece.ref t j ∷ ps) = val j ++ joined val ps

-- the value of the tokens from `from` up to, not with, `to`
abbrev pub value_between : Tables → ℕ → ℕ → List ℕ
value_between t from to = joined (value t) (pieces t from to)
