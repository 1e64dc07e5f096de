-- Where tokens come from in the source, by cases: the place of the first source byte that gave a token something. Document 02's R-2 will show it. Assumes nothing.
use Prim.Native.Nat.{ℕ}
use mathlib.Core.Path.{◌≡◌, refl}
use mathlib.Core.List.{[], ◌∷◌, map}
use Rattle.rules.specs.Bytes.{bytes}
use Rattle.rules.specs.Tokens.{token}
use Rattle.rules.specs.Numbers.{refused, ok, lex_error, missing_close_variable, invalid_variable_char, unexpected_at_start, unexpected_after_key, duplicate_variable, unterminated_quote, undefined_variable, in_variable, in_field}
use Rattle.rules.specs.Lexing.{class, chars, mark, lexeme, tokens}
use Rattle.rules.specs.Reading.{reading}
use Rattle.rules.proofs.Computed.{called}

-- a joined line end gives nothing
pub joined : tokens (bytes "\\\na\\\r\nb c") ≡ ok (token 1 (bytes "ab") 0 2 ∷ token 3 (bytes " ") 0 7 ∷ token 1 (bytes "c") 2 8 ∷ [])
unfolding called
joined = refl

-- nor does a comment
pub comments : tokens (bytes "#x\r\ny#z") ≡ ok (token 9 (bytes "\r") 0 2 ∷ token 1 (bytes "y") 0 4 ∷ [])
unfolding called
comments = refl

-- the backslash or the first `$` gave the character
pub escapes : map tokens (bytes " \\#a" ∷ bytes " $$" ∷ bytes " $x" ∷ bytes " $" ∷ [])
    ≡ ok (token 3 (bytes " ") 0 0 ∷ token 1 (bytes "#a") 0 1 ∷ [])
    ∷ ok (token 3 (bytes " ") 0 0 ∷ token 1 (bytes "$") 0 1 ∷ [])
    ∷ ok (token 3 (bytes " ") 0 0 ∷ token 1 (bytes "$x") 0 1 ∷ [])
    ∷ ok (token 3 (bytes " ") 0 0 ∷ token 1 (bytes "$") 0 1 ∷ [])
    ∷ []
unfolding called
escapes = refl

-- a reference is where its `$` is; the pool has its name alone
pub references : tokens (bytes "a${bc}d") ≡ ok (token 1 (bytes "a") 0 0 ∷ token 2 (bytes "bc") 1 1 ∷ token 1 (bytes "d") 3 6 ∷ [])
unfolding called
references = refl

pub marks : tokens (bytes "=:'\"\\\t\n") ≡ ok (
    token 4 (bytes "=") 0 0 ∷ token 5 (bytes ":") 0 1 ∷ token 6 (bytes "'") 0 2 ∷ token 7 (bytes "\"") 0 3 ∷ token 8 (bytes "\\") 0 4
    ∷ token 3 (bytes "\t") 0 5 ∷ token 9 (bytes "\n") 0 6 ∷ []
    )
unfolding called
marks = refl

-- what a byte at the end of the text gives: nothing is taken beside it
pub last-bytes : map (λ (b : ℕ). lexeme (class b) b []) (bytes "a{}$ \t\n#\\=:'\"")
    ≡ chars (bytes "a") 0 ∷ chars (bytes "{") 0 ∷ chars (bytes "}") 0 ∷ chars (bytes "$") 0 ∷ mark 3 0 ∷ mark 3 0 ∷ mark 9 0 ∷ chars [] 0
    ∷ mark 8 0 ∷ mark 4 0 ∷ mark 5 0 ∷ mark 6 0 ∷ mark 7 0 ∷ []
unfolding called
last-bytes = refl

-- the refusals carry their tokens: for 5 and 6 the place of the `$`, for 14 the opening quote, for fields the key
pub refusals : map reading (bytes "a=${" ∷ bytes "ab${-}" ∷ bytes " =" ∷ bytes "a \n" ∷ bytes "a=\na=" ∷ bytes "Libs: 'a' \"b'" ∷ bytes "Name: ${x}" ∷ bytes "a=${b}" ∷ [])
    ≡ refused (lex_error missing_close_variable 2)
    ∷ refused (lex_error (invalid_variable_char 45) 2)
    ∷ refused (unexpected_at_start (token 4 (bytes "=") 0 1))
    ∷ refused (unexpected_after_key (token 9 (bytes "\n") 0 2))
    ∷ refused (duplicate_variable (token 1 (bytes "a") 1 3))
    ∷ refused (unterminated_quote (token 7 (bytes "\"") 0 10))
    ∷ refused (undefined_variable (token 2 (bytes "x") 4 6) (in_field 1 (token 1 (bytes "Name") 0 0)))
    ∷ refused (undefined_variable (token 2 (bytes "b") 1 2) (in_variable (token 1 (bytes "a") 0 0)))
    ∷ []
unfolding called
refusals = refl
