-- `lexer::lexeme::is_plain` meets its contract. Assumes nothing.
use Rattle.lexer.proofs.Lexemes.{plain-byte, other-byte}
use Rattle.lexer.proofs.lexeme.is_plain.Goals as goal

pub returns-in-Other : goal.returns-in-Other
returns-in-Other c = plain-byte _ _ c.class_of.ensures c.in-Other.is

pub returns-in_default : goal.returns-in_default
returns-in_default c = other-byte _ _ c.class_of.ensures c.in_default.not-Other c.in_default.not-Identifier
