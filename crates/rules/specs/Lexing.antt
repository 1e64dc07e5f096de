-- Document 01, "Lexing": from bytes to tokens. Assumes nothing.
use Rattle.std.specs.Prelude.{ℕ, zero, suc, ◌+◌, Bool, ◌&&◌, ◌||◌, not, List, [], ◌∷◌, ◌++◌, length, take, drop, eqb}
use Rattle.rules.specs.Bytes.{is, within, run, pick}
use Rattle.rules.specs.Tokens.{Token, token, text_kind, variable_kind, blank_kind, equals_kind, colon_kind, single_quote_kind, double_quote_kind, backslash_kind, new_line_kind, pooled}
use Rattle.rules.specs.Numbers.{LexError, missing_close_variable, invalid_variable_char, lex_error, Result, refused, ok}
use Rattle.rules.specs.Utf8.{code_point}

-- the class of a byte
pub data Class : Type 0 where
  other identifier blank line_end hash dollar open_brace close_brace backslash equals colon single double : Class

-- ASCII letters, digits, `.`, `_`
unfoldable pub is_identifier : ℕ → Bool
is_identifier b = within 48 57 b || within 65 90 b || within 97 122 b || is "." b || is "_" b

unfoldable pub is_line_end : ℕ → Bool
is_line_end b = is "\n" b || is "\r" b

unfoldable pub class : ℕ → Class
class b =
    pick (is_identifier b) identifier
    (pick (is " " b || is "\t" b) blank
    (pick (is_line_end b) line_end
    (pick (is "#" b) hash
    (pick (is "$" b) dollar
    (pick (is "{" b) open_brace
    (pick (is "}" b) close_brace
    (pick (is "\\" b) backslash
    (pick (is "=" b) equals
    (pick (is ":" b) colon
    (pick (is "'" b) single
    (pick (is "\"" b) double other)))))))))))

-- What stands at the front of a text: characters that gather in Text, a reference, a token of another kind whose text is the first byte, or an error.
-- The last number is how many bytes it takes beside the first.
pub data Lexeme : Type 0 where
  chars reference : List ℕ → ℕ → Lexeme
  mark : ℕ → ℕ → Lexeme
  bad : LexError → Lexeme

-- LF, CR, CR LF and LF CR are each one newline: 1 where the line end `a` has its second byte next
unfoldable pub second : ℕ → List ℕ → ℕ
second a [] = 0
second a (b ∷ bs) = pick (is_line_end b && not (eqb a b)) 1 0

-- Backslash before `#`: text `#`. Before a line end (or a pair): all vanish and Text goes on. Else a backslash token.
unfoldable pub after_backslash : List ℕ → Lexeme
after_backslash [] = mark backslash_kind 0
after_backslash (b ∷ bs) =
    pick (is "#" b) (chars (b ∷ []) 1)
    (pick (is_line_end b) (chars [] (1 + second b bs))
    (mark backslash_kind 0))

-- a reference is closed by `}` right after its name
unfoldable pub after_name : List ℕ → List ℕ → Lexeme
after_name name [] = bad missing_close_variable
after_name name (b ∷ bs) = pick (is "}" b) (reference name (2 + length name)) (bad (invalid_variable_char (code_point b bs)))

-- `${` opens a reference of ASCII letters, digits, `.`, `_`; zero characters are allowed
unfoldable pub after_brace : List ℕ → Lexeme
after_brace bs = let n = run is_identifier bs in after_name (take n bs) (drop n bs)

-- After a `$`, the byte a. `$$` is text `$`. `$` before anything else but `{` puts both into Text. `$` at the end is text `$`.
unfoldable pub after_dollar : ℕ → List ℕ → Lexeme
after_dollar a [] = chars (a ∷ []) 0
after_dollar a (b ∷ bs) = pick (is "{" b) (after_brace bs) (pick (is "$" b) (chars (a ∷ []) 1) (chars (a ∷ b ∷ []) 1))

-- `#` skips up to, not over, the next LF or CR
unfoldable pub comment : List ℕ → ℕ
comment bs = run (λ b. not (is_line_end b)) bs

-- by the class of the first byte
unfoldable pub lexeme : Class → ℕ → List ℕ → Lexeme
lexeme other b bs = chars (b ∷ []) 0
lexeme identifier b bs = chars (b ∷ []) 0
lexeme blank b bs = mark blank_kind 0
lexeme line_end b bs = mark new_line_kind (second b bs)
lexeme hash b bs = chars [] (comment bs)
lexeme dollar b bs = after_dollar b bs
lexeme open_brace b bs = chars (b ∷ []) 0
lexeme close_brace b bs = chars (b ∷ []) 0
lexeme backslash b bs = after_backslash bs
lexeme equals b bs = mark equals_kind 0
lexeme colon b bs = mark colon_kind 0
lexeme single b bs = mark single_quote_kind 0
lexeme double b bs = mark double_quote_kind 0

-- Text that is being gathered: its bytes so far, and the place of the first source byte that gave it something
pub record Gathered : Type 0 where
  pub text : List ℕ
  pub source : ℕ

unfoldable pub nothing_yet : Gathered
nothing_yet = record { text = []; source = 0 }

-- where the first byte came from, as more comes from place `at`
unfoldable pub first_source : List ℕ → ℕ → ℕ → ℕ
first_source [] source at = at
first_source (b ∷ bs) source at = source

unfoldable pub gather : Gathered → List ℕ → ℕ → Gathered
gather g cs at = record { text = g.text ++ cs; source = first_source g.text g.source at }

unfoldable pub text_token : ℕ → ℕ → List ℕ → List Token
text_token end source [] = []
text_token end source (b ∷ bs) = token text_kind (b ∷ bs) end source ∷ []

-- Text ends at the next token that isn't Text: a token whose place is the pool's end, where anything was gathered
unfoldable pub flush : ℕ → Gathered → List Token
flush end g = text_token end g.source g.text

unfoldable pub prepend : List Token → Result (List Token) → Result (List Token)
prepend ts (refused r) = refused r
prepend ts (ok us) = ok (ts ++ us)

-- The tokens from place `at` of the source on: `end` is the pool's end, `g` what Text has gathered since, `skip` how many bytes the last lexeme still takes
unfoldable pub lex : ℕ → Gathered → ℕ → ℕ → List ℕ → Result (List Token)
lex end g skip at [] = ok (flush end g)
lex end g (suc skip) at (b ∷ bs) = lex end g skip (suc at) bs
lex end g zero at (b ∷ bs) = elim (lexeme (class b) b bs) [
  | chars cs n ↦ lex end (gather g cs at) n (suc at) bs
  | reference name n ↦ prepend (flush end g ++ (token variable_kind name (end + length g.text) at ∷ [])) (lex (end + length g.text + length name) nothing_yet n (suc at) bs)
  | mark kind n ↦ prepend (flush end g ++ (token kind (b ∷ []) 0 at ∷ [])) (lex (end + length g.text) nothing_yet n (suc at) bs)
  | bad e ↦ refused (lex_error e at)
]

unfoldable pub tokens : List ℕ → Result (List Token)
tokens text = lex 0 nothing_yet 0 0 text

-- the text of all Text and Variable tokens, one after another
unfoldable pub pool_of : List Token → List ℕ
pool_of [] = []
pool_of (t ∷ ts) = pick (pooled t) t.text [] ++ pool_of ts
