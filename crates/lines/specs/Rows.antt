-- List values as the workspace holds them: dropped tokens have kind 0, and each argument has a row at the tokens of the value. Assumes nothing.
use Rattle.std.specs.Prelude.{ℕ, ◌+◌, ◌*◌, ◌≤◌, ◌<◌, ◌≡◌, Bool, true, false, List, [], ◌∷◌, length, get_or, drop, set, Option, Some, None, is_some, unwrap_or, Result, Ok, Err}
use Rattle.rules.specs.Numbers.{unterminated_quote, refused, ok}
use Rattle.rules.specs.Lines as Lines
use Rattle.rules.specs.Lines.{Part, arguments, list_value}
use Rattle.tokens.specs.Entries.{decode, token_at, kind_at}
use Rattle.workspace.specs.Map.{dropped_kind, parts_between, starts_of, ends_of, arguments_from}
use Rattle.lines.specs.declared.list.Role.{Role}
use Rattle.lines.specs.declared.list.Role.TheVariants.{Part as IsPart, Splits, Opens, Closes, Escapes}
use Rattle.lines.specs.declared.list.ListState.{ListState}
use Rattle.lines.specs.declared.value.ListPlace.{ListPlace}
use Rattle.lines.specs.declared.value.Quote.{Quote}

-- rules' name of a role
abbrev pub role_of : Role → Lines.Role
role_of IsPart = Lines.part
role_of Splits = Lines.splits
role_of Opens = Lines.opens
role_of Closes = Lines.closes
role_of Escapes = Lines.escapes

-- the kind of the quotes that are open, 0 where none are
abbrev pub kind_of : Option Quote → ℕ
kind_of None = 0
kind_of (Some q) = q.kind

-- the token that opened them, past the line where none are
abbrev pub opener_of : Option Quote → ℕ → ℕ
opener_of None end = end
opener_of (Some q) end = q.opener

-- where the argument being read starts: at token i where it has no part yet
abbrev pub start_of : Option ℕ → ℕ → ℕ
start_of start i = unwrap_or start i

unfoldable pub has_parts : List Part → Bool
has_parts [] = false
has_parts (p ∷ ps) = true

-- all entries are as they were, but those of the tokens from `from` up to `to` and their cells in the columns of starts and ends
pub record Keeps (n from to : ℕ) (ws ws' : List ℕ) : Type 0 where
  pub long : length ws' ≡ length ws
  pub same : (k : ℕ) → (4 * from ≤ k → k < 4 * to → ⊥) → (5 * n + from ≤ k → k < 5 * n + to → ⊥) → (6 * n + from ≤ k → k < 6 * n + to → ⊥) → get_or ws' k 0 ≡ get_or ws k 0

-- a row's argument: from its first token up to the token past it
pub record RowWithin (n from to : ℕ) (ws : List ℕ) (k : ℕ) : Type 0 where
  pub low : from ≤ get_or (starts_of n ws) k 0
  pub order : get_or (starts_of n ws) k 0 ≤ get_or (ends_of n ws) k 0
  pub high : get_or (ends_of n ws) k 0 ≤ to

-- no token of the line has the kind of those dropped
abbrev pub NoneDropped : ℕ → ℕ → List ℕ → Type 0
NoneDropped from end ws = (k : ℕ) → from ≤ k → k < end → kind_at end ws k ≡ dropped_kind → ⊥

-- the value of the line's tokens from `from` up to `end`, read as far as token i. ws₀ is the workspace before, ws the one now.
-- `rows` arguments are found; the one being read starts at token `start`, and `any` says whether it has a part;
-- quotes of the kind `quote` are open, and token `opener` opened them; where none are, `quote` is 0 and `opener` is past the line.
pub record Reading (n from end : ℕ) (ws₀ ws : List ℕ) (i rows start : ℕ) (any escaped : Bool) (quote opener : ℕ) : Type 0 where
  pub none_dropped : NoneDropped from end ws₀
  pub keeps : Keeps n from i ws₀ ws
  pub quote_is : quote ≡ kind_at end ws₀ opener
  pub is_any : (pool : List ℕ) → any ≡ has_parts (parts_between (decode end ws pool) start i)
  pub within : (k : ℕ) → from ≤ k → k < from + rows → RowWithin n from i ws k
  pub left : (pool : List ℕ) → list_value (drop from (decode end ws₀ pool))
      ≡ arguments (token_at (decode end ws₀ pool) opener) escaped (parts_between (decode end ws pool) start i) (arguments_from (decode end ws pool) (starts_of n ws) (ends_of n ws) from rows) (drop i (decode end ws₀ pool))

-- the numbers of such a reading
pub record Bounds (n from end i rows start : ℕ) (ws : List ℕ) : Type 0 where
  pub small : n ≤ 65535
  pub room : 7 * n ≤ length ws
  pub inside : end ≤ n
  pub on : i ≤ end
  pub rows_before : from + rows ≤ start
  pub start_before : start ≤ i

-- an argument that has a part has room for its row
abbrev pub Row : ℕ → ℕ → ℕ → Bool → Type 0
Row from i rows any = any ≡ true → from + rows < i

-- what storing a row asks
pub record Flushable (n from i rows start : ℕ) (any : Bool) (ws : List ℕ) : Type 0 where
  pub small : n ≤ 65535
  pub room : 7 * n ≤ length ws
  pub inside : i ≤ n
  pub start_before : start ≤ i
  pub row : Row from i rows any

-- the same of a state: its numbers, and what it has read
abbrev pub Fits : ListPlace → ℕ → ListState → List ℕ → Type 0
Fits place i s ws = Bounds place.n place.from place.end i s.rows (start_of s.start i) ws × Row place.from i s.rows (is_some s.start)

abbrev pub ReadAs : ListPlace → List ℕ → List ℕ → ℕ → ListState → Type 0
ReadAs place ws₀ ws i s =
    Reading place.n place.from place.end ws₀ ws i s.rows (start_of s.start i) (is_some s.start) s.escaped (kind_of s.quote) (opener_of s.quote place.end)

-- with one row more: the argument from token `start` up to token `end`
abbrev pub with_row : ListPlace → ℕ → ℕ → ℕ → List ℕ → List ℕ
with_row place rows start end ws = set (set ws (5 * place.n + (place.from + rows)) start) (6 * place.n + (place.from + rows)) end

-- what a list value comes to: its arguments, or the token of the quote that stays open
abbrev pub Lists : ℕ → ℕ → ℕ → List ℕ → List ℕ → Result ℕ ℕ → Type 0
Lists n from end ws ws' (Ok m) =
    (from + m ≤ end) × ((k : ℕ) → from ≤ k → k < from + m → RowWithin n from end ws' k)
    × ((pool : List ℕ) → list_value (drop from (decode end ws pool)) ≡ ok (arguments_from (decode end ws' pool) (starts_of n ws') (ends_of n ws') from m))
Lists n from end ws ws' (Err q) = (pool : List ℕ) → list_value (drop from (decode end ws pool)) ≡ refused (unterminated_quote (token_at (decode end ws pool) q))
