-- What stands at a place of a text: rules' lexeme, by its kind and the place past it. Assumes nothing.
use Rattle.std.specs.Prelude.{ℕ, ◌+◌, List, length, drop, get_or, ltb}
use Rattle.rules.specs.Bytes.{pick}
use Rattle.rules.specs.Tokens.{text_kind, variable_kind}
use Rattle.rules.specs.Lexing as L
use Rattle.reader_walk.specs.declared.Step.{Step}
use Rattle.reader_walk.specs.declared.Step.TheVariants.{Lexeme, Bad, End}

-- a lexeme that starts at place `at`
unfoldable pub told : ℕ → L.Lexeme → Step
told at (L.chars cs n) = Lexeme text_kind (at + 1 + n)
told at (L.reference name n) = Lexeme variable_kind (at + 1 + n)
told at (L.mark kind n) = Lexeme kind (at + 1 + n)
told at (L.bad e) = Bad

unfoldable pub step_at : List ℕ → ℕ → Step
step_at s at = pick (ltb at (length s)) (told at (L.lexeme (L.class (get_or s at 0)) (get_or s at 0) (drop (at + 1) s))) End

unfoldable pub end_of : ℕ → Step → ℕ
end_of at (Lexeme kind next) = next
end_of at Bad = at
end_of at End = at

unfoldable pub end_at : List ℕ → ℕ → ℕ
end_at s at = end_of at (step_at s at)
