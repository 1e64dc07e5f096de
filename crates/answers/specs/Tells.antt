-- Which answer of the definitions an answer of the code tells: its number and its detail. Assumes nothing.
use Rattle.std.specs.Prelude.{ℕ, ◌≡◌, length}
use Rattle.rules.specs.Tokens.{Token}
use Rattle.rules.specs.Numbers as Rules
use Rattle.answers.specs.declared.Number.{Number}
use Rattle.answers.specs.declared.Number.TheVariants.{Accepted, TooLong, WorkspaceShort, PoolShort, NotUtf8, MissingCloseVariable, InvalidVariableChar, UnexpectedAtStart, UnexpectedAfterKey, EndedAfterKey, InvalidVariableName, DuplicateVariable, UnknownField, DuplicateField, UnterminatedQuote, UndefinedVariable, ContentTooLarge, OutputShort, NotRecords, DetailShort}
use Rattle.answers.specs.declared.Name.{Name}
use Rattle.answers.specs.declared.Answer.{Answer}

-- document 01's number for each case
abbrev pub number_of : Number → ℕ
number_of Accepted = 0
number_of TooLong = 1
number_of WorkspaceShort = 2
number_of PoolShort = 3
number_of NotUtf8 = 4
number_of MissingCloseVariable = 5
number_of InvalidVariableChar = 6
number_of UnexpectedAtStart = 7
number_of UnexpectedAfterKey = 8
number_of EndedAfterKey = 9
number_of InvalidVariableName = 10
number_of DuplicateVariable = 11
number_of UnknownField = 12
number_of DuplicateField = 13
number_of UnterminatedQuote = 14
number_of UndefinedVariable = 15
number_of ContentTooLarge = 16
number_of OutputShort = 17
number_of NotRecords = 18
number_of DetailShort = 19

-- an answer whose detail has no names
abbrev pub plain_answer : Number → ℕ → Answer
plain_answer number value =
    record { number = number; detail = record { value = value; first = record { place = 0; length = 0 }; second = record { place = 0; length = 0 } } }

-- a name is answered by its place and length in the pool
pub record Names (n : Name) (t : Token) : Type 0 where
  pub is_place : n.place ≡ t.place
  pub is_length : n.length ≡ length t.text

pub record Tells (a : Answer) (b : Rules.Answer) : Type 0 where
  pub is_number : number_of a.number ≡ Rules.number b
  pub is_value : a.detail.value ≡ (Rules.detail b).value
  pub is_first : Names a.detail.first (Rules.detail b).first
  pub is_second : Names a.detail.second (Rules.detail b).second
