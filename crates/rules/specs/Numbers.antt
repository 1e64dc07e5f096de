-- Document 01, "Numbers returned": every answer with its number and its detail. Assumes nothing.
use Rattle.std.specs.Prelude.{ℕ}
use Rattle.rules.specs.Tokens.{Token, no_name, shown_name}

-- why a text can't be lexed
pub data LexError : Type 0 where
  missing_close_variable : LexError
  invalid_variable_char : ℕ → LexError

-- what is being resolved: a variable, by its key; or a field, by its number and its key
pub data WhileResolving : Type 0 where
  in_variable : Token → WhileResolving
  in_field : ℕ → Token → WhileResolving

-- the refusals that follow from a well-formed text alone
pub data Refusal : Type 0 where
  lex_error : LexError → ℕ → Refusal  -- with the place of the `$`
  unexpected_at_start unexpected_after_key : Token → Refusal
  ended_after_key : Refusal
  invalid_variable_name duplicate_variable unknown_field duplicate_field : Token → Refusal
  unterminated_quote : Token → Refusal  -- with the opening quote
  undefined_variable : Token → WhileResolving → Refusal
  content_too_large : WhileResolving → Refusal

-- all answers: those of the reader, 18 of the listing, 19 of the exported calls
pub data Answer : Type 0 where
  accepted : ℕ → Answer  -- with the bytes written
  too_long workspace_short pool_short not_utf8 : Answer
  refusal : Refusal → Answer
  output_short : ℕ → Answer  -- with the bytes needed
  not_records detail_short : Answer

unfoldable pub lex_number : LexError → ℕ
lex_number missing_close_variable = 5
lex_number (invalid_variable_char c) = 6

unfoldable pub refusal_number : Refusal → ℕ
refusal_number (lex_error e at) = lex_number e
refusal_number (unexpected_at_start t) = 7
refusal_number (unexpected_after_key t) = 8
refusal_number ended_after_key = 9
refusal_number (invalid_variable_name key) = 10
refusal_number (duplicate_variable key) = 11
refusal_number (unknown_field key) = 12
refusal_number (duplicate_field key) = 13
refusal_number (unterminated_quote quote) = 14
refusal_number (undefined_variable reference w) = 15
refusal_number (content_too_large w) = 16

unfoldable pub number : Answer → ℕ
number (accepted written) = 0
number too_long = 1
number workspace_short = 2
number pool_short = 3
number not_utf8 = 4
number (refusal r) = refusal_number r
number (output_short need) = 17
number not_records = 18
number detail_short = 19

-- a detail: a number with two names
pub record Detail : Type 0 where
  pub value : ℕ
  pub first : Token
  pub second : Token

unfoldable pub details : ℕ → Token → Token → Detail
details value first second = record { value = value; first = first; second = second }

unfoldable pub no_detail : Detail
no_detail = details 0 no_name no_name

unfoldable pub code_point_of : LexError → ℕ
code_point_of missing_close_variable = 0
code_point_of (invalid_variable_char c) = c

-- the field number, 0 for a variable
unfoldable pub field_of : WhileResolving → ℕ
field_of (in_variable key) = 0
field_of (in_field f key) = f

-- the variable being resolved
unfoldable pub variable_of : WhileResolving → Token
variable_of (in_variable key) = key
variable_of (in_field f key) = no_name

unfoldable pub refusal_detail : Refusal → Detail
refusal_detail (lex_error e at) = details (code_point_of e) no_name no_name
refusal_detail (unexpected_at_start t) = details t.kind (shown_name t) no_name
refusal_detail (unexpected_after_key t) = details t.kind (shown_name t) no_name
refusal_detail ended_after_key = no_detail
refusal_detail (invalid_variable_name key) = details 0 key no_name
refusal_detail (duplicate_variable key) = details 0 key no_name
refusal_detail (unknown_field key) = details 0 key no_name
refusal_detail (duplicate_field key) = details 0 key no_name
refusal_detail (unterminated_quote quote) = no_detail
refusal_detail (undefined_variable reference w) = details (field_of w) reference (variable_of w)
refusal_detail (content_too_large w) = details (field_of w) no_name (variable_of w)

unfoldable pub detail : Answer → Detail
detail (accepted written) = details written no_name no_name
detail too_long = no_detail
detail workspace_short = no_detail
detail pool_short = no_detail
detail not_utf8 = no_detail
detail (refusal r) = refusal_detail r
detail (output_short need) = details need no_name no_name
detail not_records = no_detail
detail detail_short = no_detail

-- what a stage gives, or the first refusal
pub data Result (A : Type 0) : Type 0 where
  refused : Refusal → Result A
  ok : A → Result A

infixl 20 ◌>>=◌
unfoldable pub ◌>>=◌ : {A B : Type 0} → Result A → (A → Result B) → Result B
refused r >>= f = refused r
ok a >>= f = f a
