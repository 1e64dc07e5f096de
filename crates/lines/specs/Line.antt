-- One line of a list of tokens: where it ends, and how it starts. Assumes nothing.
use Rattle.std.specs.Prelude.{ℕ, ◌+◌, ◌≤◌, ◌<◌, ◌≡◌, List, ltb, length, take, drop}
use Rattle.rules.specs.Bytes.{pick}
use Rattle.rules.specs.Tokens.{Token, text_kind, blank_kind, new_line_kind}
use Rattle.rules.specs.Numbers.{Result, unexpected_at_start, unexpected_after_key, ended_after_key, refused, ok}
use Rattle.rules.specs.Lines.{Ending, newline, end_of_text, Line, Item, empty, skip_blanks, trimmed, read_assignment, read_field}
use Rattle.tokens.specs.Entries.{token_at}
use Rattle.workspace.specs.Map.{between}
use Rattle.lines.specs.declared.line.LineStart.{LineStart}
use Rattle.lines.specs.declared.line.LineStart.TheVariants.{Empty, WrongStart, WrongAfter, Ended, Assigns, Gives}

-- tokens of the same kinds, whatever their texts and places are
pub record SameKinds (us ts : List Token) : Type 0 where
  pub same_length : length us ≡ length ts
  pub same_kind : (k : ℕ) → (token_at us k).kind ≡ (token_at ts k).kind

-- the first token from j on that is no blank: r
pub record Skips (ts : List Token) (j r : ℕ) : Type 0 where
  pub on : j ≤ r
  pub inside : r ≤ length ts
  pub is : skip_blanks (drop j ts) ≡ drop r ts
  pub blank : (k : ℕ) → j ≤ k → k < r → (token_at ts k).kind ≡ blank_kind
  pub other : r < length ts → (token_at ts r).kind ≡ blank_kind → ⊥

-- the line that starts at token j ends at r: at the first newline, or with the text
pub record EndsLine (ts : List Token) (j r : ℕ) : Type 0 where
  pub on : j ≤ r
  pub inside : r ≤ length ts
  pub no_newline : (k : ℕ) → j ≤ k → k < r → (token_at ts k).kind ≡ new_line_kind → ⊥
  pub at_newline : r < length ts → (token_at ts r).kind ≡ new_line_kind

-- how the line ends
abbrev pub ending_at : List Token → ℕ → Ending
ending_at ts end = pick (ltb end (length ts)) (newline (token_at ts end)) end_of_text

-- the line of the tokens from j up to, not with, `end`
abbrev pub line_at : List Token → ℕ → ℕ → Line
line_at ts end j = record { content = drop j (take end ts); ending = ending_at ts end }

-- where key and value of a line from j up to `end` stand
pub record Stands (ts : List Token) (end j key from : ℕ) : Type 0 where
  pub key_on : j ≤ key
  pub value_on : key + 2 ≤ from
  pub inside : from ≤ end
  pub is_text : (token_at ts key).kind ≡ text_kind

-- what the start of a line from j up to `end` says of what the line reads as
abbrev pub Starts : List Token → ℕ → ℕ → Result Item → LineStart → Type 0
Starts ts end j item Empty = item ≡ ok empty
Starts ts end j item (WrongStart k) = (k < length ts) × (item ≡ refused (unexpected_at_start (token_at ts k)))
Starts ts end j item (WrongAfter k) = (k < length ts) × (item ≡ refused (unexpected_after_key (token_at ts k)))
Starts ts end j item Ended = item ≡ refused ended_after_key
Starts ts end j item (Assigns key from) = Stands ts end j key from × (item ≡ read_assignment (token_at ts key) (ending_at ts end) (drop from (take end ts)))
Starts ts end j item (Gives key from) = Stands ts end j key from × (item ≡ read_field (token_at ts key) (ending_at ts end) (drop from (take end ts)))

-- a string value of the line from `from` on ends at r
pub record EndsValue (ts : List Token) (end from r : ℕ) : Type 0 where
  pub on : from ≤ r
  pub inside : r ≤ end
  pub is : trimmed (ending_at ts end) (drop from (take end ts)) ≡ between ts from r
