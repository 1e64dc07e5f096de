-- What the contracts of the functions that read one piece of the text cite: four numbers show a lexeme of rules' `lexeme`, or a run of them. Assumes nothing.
use Rattle.std.specs.Prelude.{ℕ, ◌+◌, ◌-◌, ◌≤◌, ◌<◌, ◌≡◌, Bool, List, ◌⊎◌, length, take, drop, get_or, eqb, ltb, Result, Ok, Err}
use Rattle.rules.specs.Bytes.{pick, run}
use Rattle.rules.specs.Tokens.{text_kind, variable_kind, blank_kind, equals_kind, colon_kind, single_quote_kind, double_quote_kind, backslash_kind, new_line_kind}
use Rattle.rules.specs.Lexing.{Lexeme, chars, reference, mark, bad, class, lexeme}
use Rattle.rules.specs.Utf8.{code_point}
use Rattle.scan.specs.Classes.{class_number}
use Rattle.tokens.specs.declared.TokenKind.{TokenKind}
use Rattle.tokens.specs.declared.TokenKind.TheVariants.{Dropped, Text, Variable, Blank, Equals, Colon, SingleQuote, DoubleQuote, Backslash, NewLine}
use Rattle.lexer.specs.declared.LexError.{LexError}
use Rattle.lexer.specs.declared.LexError.TheVariants.{MissingCloseVariable, InvalidVariableChar}
use Rattle.lexer.specs.declared.lexeme.Piece.{Piece}
use Rattle.lexer.specs.declared.lexeme.BadReference.{BadReference}
use Rattle.lexer.specs.Lexes.{error_of}

-- the lexeme at place i of the text
abbrev pub lexeme_at : List ℕ → ℕ → Lexeme
lexeme_at text i = lexeme (class (get_or text i 0)) (get_or text i 0) (drop (i + 1) text)

-- the number of a kind
abbrev pub kind_of : TokenKind → ℕ
kind_of Dropped = 0
kind_of Text = text_kind
kind_of Variable = variable_kind
kind_of Blank = blank_kind
kind_of Equals = equals_kind
kind_of Colon = colon_kind
kind_of SingleQuote = single_quote_kind
kind_of DoubleQuote = double_quote_kind
kind_of Backslash = backslash_kind
kind_of NewLine = new_line_kind

-- the lexeme that four numbers show, where it starts at place i: its text is the `len` bytes from `from` on, and the next starts at `next`
unfoldable pub shown : List ℕ → ℕ → ℕ → ℕ → ℕ → ℕ → Lexeme
shown text i kind from len next =
    pick (eqb kind text_kind) (chars (take len (drop from text)) (next - (i + 1)))
    (pick (eqb kind variable_kind) (reference (take len (drop from text)) (next - (i + 1)))
    (mark kind (next - (i + 1))))

-- the numbers show the lexeme x, and stay within the text
pub record Shows (text : List ℕ) (i : ℕ) (x : Lexeme) (kind from len next : ℕ) : Type 0 where
  pub is_lexeme : x ≡ shown text i kind from len next
  pub on : i < next
  pub inside : next ≤ length text
  pub after : i ≤ from
  pub part : from + len ≤ next

-- the error stands at place p: there a reference that isn't closed comes to the end of the text, or there is the bad character
abbrev pub Stands : List ℕ → ℕ → LexError → Type 0
Stands text p MissingCloseVariable = p ≡ length text
Stands text p (InvalidVariableChar c) = (p < length text) × (c ≡ code_point (get_or text p 0) (drop (p + 1) text))

-- the lexeme x is a reference that can't be lexed, with this error, at this place of the text
pub record Refuses (text : List ℕ) (i : ℕ) (x : Lexeme) (r : BadReference) : Type 0 where
  pub is_bad : x ≡ bad (error_of r.error)
  pub on : i < r.at
  pub inside : r.at ≤ length text
  pub stands : Stands text r.at r.error

-- what reading the lexeme x answers: the piece that shows it, or a reference that can't be lexed
abbrev pub Answers : List ℕ → ℕ → Lexeme → Result (Piece TokenKind) BadReference → Type 0
Answers text i x (Ok p) = Shows text i x (kind_of p.kind) p.from p.len p.next
Answers text i x (Err r) = Refuses text i x r

-- identifier and other bytes, which are text by themselves: their classes are below those of tokens
unfoldable pub is_plain : ℕ → Bool
is_plain b = ltb (class_number (class b)) 3

-- the numbers show all the bytes from place i on that are text by themselves
pub record Plain (text : List ℕ) (i kind from len : ℕ) : Type 0 where
  pub is_text : kind ≡ text_kind
  pub is_from : from ≡ i
  pub is_len : len ≡ run is_plain (drop i text)

-- the numbers show such a run, or else one lexeme, and stay within the text
pub record Reads (text : List ℕ) (i kind from len next : ℕ) : Type 0 where
  pub is_piece : (Plain text i kind from len × (next ≡ i + len)) ⊎ (lexeme_at text i ≡ shown text i kind from len next)
  pub on : i < next
  pub inside : next ≤ length text
  pub after : i ≤ from
  pub part : from + len ≤ next
