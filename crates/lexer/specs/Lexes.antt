-- What lexing answers, and what workspace and pool then hold: rules' `tokens`. Assumes nothing.
use Rattle.std.specs.Prelude.{ℕ, ◌*◌, ◌≤◌, ◌≡◌, Result, Ok, Err, List, length}
use Rattle.rules.specs.Bytes.{overwrite}
use Rattle.rules.specs.Tokens.{Token}
use Rattle.rules.specs.Numbers as N
use Rattle.rules.specs.Lexing.{tokens, pool_of}
use Rattle.tokens.specs.Entries.{entries}
use Rattle.answers.specs.declared.Refusal as Answers
use Rattle.answers.specs.declared.Refusal.TheVariants as Told
use Rattle.lexer.specs.declared.LexError.{LexError}
use Rattle.lexer.specs.declared.LexError.TheVariants.{MissingCloseVariable, InvalidVariableChar}
use Rattle.lexer.specs.declared.LexRefusal.{LexRefusal}
use Rattle.lexer.specs.declared.Filled.{Filled}

-- room for the tokens of a text in workspace and pool
pub record Room (text ws pool : List ℕ) : Type 0 where
  pub small : length text ≤ 65535
  pub ws_room : 4 * length text ≤ length ws
  pub pool_room : length text ≤ length pool

-- the document's error that the code's error is
abbrev pub error_of : LexError → N.LexError
error_of MissingCloseVariable = N.missing_close_variable
error_of (InvalidVariableChar c) = N.invalid_variable_char c

-- the answer of the code
abbrev pub refusal_of : LexError → Answers.Refusal
refusal_of MissingCloseVariable = Told.MissingCloseVariable
refusal_of (InvalidVariableChar c) = Told.InvalidVariableChar c

-- the text is lexed: workspace and pool hold its tokens, `count` of them, with `used` bytes of text
pub record Holds (text ws ws' pool pool' : List ℕ) (count used : ℕ) : Type 0 where
  pub ts : List Token
  pub is_tokens : tokens text ≡ N.ok ts
  pub is_count : count ≡ length ts
  pub is_used : used ≡ length (pool_of ts)
  pub is_ws : ws' ≡ overwrite (entries ts) ws
  pub is_pool : pool' ≡ overwrite (pool_of ts) pool

-- the text is refused: with this error, and the place of its `$`; workspace and pool are as they were
pub record Untouched (text ws ws' pool pool' : List ℕ) (e : N.LexError) (at : ℕ) : Type 0 where
  pub is_refused : tokens text ≡ N.refused (N.lex_error e at)
  pub same_ws : ws' ≡ ws
  pub same_pool : pool' ≡ pool

-- by the answer
abbrev pub Lexes : List ℕ → List ℕ → List ℕ → List ℕ → List ℕ → Result Filled LexRefusal → Type 0
Lexes text ws ws' pool pool' (Ok f) = Holds text ws ws' pool pool' f.count f.used
Lexes text ws ws' pool pool' (Err r) = Untouched text ws ws' pool pool' (error_of r.error) r.at
