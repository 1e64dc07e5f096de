-- Document 01, "Lexing": tokens and their kinds; a name is a token. Assumes nothing.
use Rattle.std.specs.Prelude.{ℕ, Bool, List, [], eqb, leb}
use Rattle.rules.specs.Bytes.{pick}

-- Token kinds
abbrev pub text_kind : ℕ
text_kind = 1

abbrev pub variable_kind : ℕ
variable_kind = 2

abbrev pub blank_kind : ℕ
blank_kind = 3

abbrev pub equals_kind : ℕ
equals_kind = 4

abbrev pub colon_kind : ℕ
colon_kind = 5

abbrev pub single_quote_kind : ℕ
single_quote_kind = 6

abbrev pub double_quote_kind : ℕ
double_quote_kind = 7

abbrev pub backslash_kind : ℕ
backslash_kind = 8

abbrev pub new_line_kind : ℕ
new_line_kind = 9

-- A token: its kind; its text, which is its character where it is neither Text nor Variable; its place in the pool, 0 where it has none;
-- and the place of the first source byte that gave it something
pub record Token : Type 0 where
  pub kind : ℕ
  pub text : List ℕ
  pub place : ℕ
  pub source : ℕ

unfoldable pub token : ℕ → List ℕ → ℕ → ℕ → Token
token kind text place source = record { kind = kind; text = text; place = place; source = source }

unfoldable pub is_a : ℕ → Token → Bool
is_a kind t = eqb t.kind kind

-- no token: "all that isn't listed is 0"
unfoldable pub no_name : Token
no_name = token 0 [] 0 0

-- Text and Variable tokens have their text in the pool
unfoldable pub pooled : Token → Bool
pooled t = leb t.kind variable_kind

-- the name that a token shows in a detail: "kinds 1 and 2 only"
unfoldable pub shown_name : Token → Token
shown_name t = pick (pooled t) t no_name
