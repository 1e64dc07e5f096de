-- Laws of lines: a line ends at its newline; a name is assigned where it has a place. Assumes nothing.
use mathlib.Core.Path.{◌≡◌, refl, ap}
use mathlib.Core.Bool.{true, false}
use mathlib.Core.List.{List, [], ◌∷◌, ◌++◌}
use Rattle.rules.specs.Tokens.{Token, is_a, new_line_kind}
use Rattle.rules.specs.Lines.{Line, newline, end_of_text, on_first, lines}

-- no token is a newline
abbrev pub Within : List Token → Type 0
Within [] = Unit {0}
Within (t ∷ ts) = (is_a new_line_kind t ≡ false) × Within ts

-- the first line ends at the first newline
pub lines-newline : (ts us : List Token) (t : Token) → Within ts → is_a new_line_kind t ≡ true → lines (ts ++ t ∷ us) ≡ record { content = ts; ending = newline t } ∷ lines us
unfolding lines on_first
lines-newline [] us t w e = rw (e, lines)
lines-newline (s ∷ ts) us t w e = rw (w.0, lines) (ap (λ (l : List Line). on_first s l) (lines-newline ts us t w.1 e))

-- the last line ends with the text
pub lines_end : (ts : List Token) → Within ts → lines ts ≡ record { content = ts; ending = end_of_text } ∷ []
unfolding lines on_first
lines_end [] w = refl
lines_end (s ∷ ts) w = rw (w.0, lines) (ap (λ (l : List Line). on_first s l) (lines_end ts w.1))
