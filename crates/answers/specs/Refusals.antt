-- What a refusal tells: its number and its detail. Assumes nothing.
use Rattle.std.specs.Prelude.{ℕ, Result, Ok, Err}
use Rattle.rules.specs.Numbers as Rules
use Rattle.answers.specs.Tells.{Tells, plain_answer}
use Rattle.answers.specs.declared.Number.{Number}
use Rattle.answers.specs.declared.Number.TheVariants as N
use Rattle.answers.specs.declared.Name.{Name}
use Rattle.answers.specs.declared.Detail.{Detail}
use Rattle.answers.specs.declared.Answer.{Answer}
use Rattle.answers.specs.declared.Refusal.{Refusal}
use Rattle.answers.specs.declared.Refusal.TheVariants.{TooLong, WorkspaceShort, PoolShort, NotUtf8, MissingCloseVariable, InvalidVariableChar, UnexpectedAtStart, UnexpectedAfterKey, EndedAfterKey, InvalidVariableName, DuplicateVariable, UnknownField, DuplicateField, UnterminatedQuote, UndefinedVariable, ContentTooLarge, OutputShort}

abbrev pub no_name : Name
no_name = record { place = 0; length = 0 }

abbrev pub details : ℕ → Name → Name → Detail
details value first second = record { value = value; first = first; second = second }

-- the number of a refusal
abbrev pub refusal_number : Refusal → Number
refusal_number TooLong = N.TooLong
refusal_number WorkspaceShort = N.WorkspaceShort
refusal_number PoolShort = N.PoolShort
refusal_number NotUtf8 = N.NotUtf8
refusal_number MissingCloseVariable = N.MissingCloseVariable
refusal_number (InvalidVariableChar c) = N.InvalidVariableChar
refusal_number (UnexpectedAtStart kind shown) = N.UnexpectedAtStart
refusal_number (UnexpectedAfterKey kind shown) = N.UnexpectedAfterKey
refusal_number EndedAfterKey = N.EndedAfterKey
refusal_number (InvalidVariableName key) = N.InvalidVariableName
refusal_number (DuplicateVariable key) = N.DuplicateVariable
refusal_number (UnknownField key) = N.UnknownField
refusal_number (DuplicateField key) = N.DuplicateField
refusal_number UnterminatedQuote = N.UnterminatedQuote
refusal_number (UndefinedVariable field reference variable) = N.UndefinedVariable
refusal_number (ContentTooLarge field variable) = N.ContentTooLarge
refusal_number (OutputShort need) = N.OutputShort

-- its detail
abbrev pub refusal_detail : Refusal → Detail
refusal_detail TooLong = details 0 no_name no_name
refusal_detail WorkspaceShort = details 0 no_name no_name
refusal_detail PoolShort = details 0 no_name no_name
refusal_detail NotUtf8 = details 0 no_name no_name
refusal_detail MissingCloseVariable = details 0 no_name no_name
refusal_detail (InvalidVariableChar c) = details c no_name no_name
refusal_detail (UnexpectedAtStart kind shown) = details kind shown no_name
refusal_detail (UnexpectedAfterKey kind shown) = details kind shown no_name
refusal_detail EndedAfterKey = details 0 no_name no_name
refusal_detail (InvalidVariableName key) = details 0 key no_name
refusal_detail (DuplicateVariable key) = details 0 key no_name
refusal_detail (UnknownField key) = details 0 key no_name
refusal_detail (DuplicateField key) = details 0 key no_name
refusal_detail UnterminatedQuote = details 0 no_name no_name
refusal_detail (UndefinedVariable field reference variable) = details field reference variable
refusal_detail (ContentTooLarge field variable) = details field no_name variable
refusal_detail (OutputShort need) = details need no_name no_name

abbrev pub refusal_answer : Refusal → Answer
refusal_answer r = record { number = refusal_number r; detail = refusal_detail r }

-- a refusal of the code is the document's: its number and its detail
abbrev pub Refuses : Refusal → Rules.Refusal → Type 0
Refuses e r = Tells (refusal_answer e) (Rules.refusal r)

-- what a call answers: the bytes written, or the refusal
abbrev pub answer_of : Result ℕ Refusal → Answer
answer_of (Ok written) = plain_answer N.Accepted written
answer_of (Err e) = refusal_answer e
