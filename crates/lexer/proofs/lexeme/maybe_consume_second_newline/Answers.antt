-- `lexer::lexeme::maybe_consume_second_newline` meets its contract. Assumes nothing.
use Rattle.std.proofs.Common.{refl}
use Rattle.scan.proofs.Classes.{named}
use Rattle.scan.specs.declared.class.ByteClass.TheVariants.{LineEnd}
use Rattle.lexer.proofs.Lexemes.{second_in, second-same, second-other, second_none}
use Rattle.lexer.proofs.lexeme.maybe_consume_second_newline.Goals as goal

pub bounds-text-i-in-LineEnd : goal.bounds-text-i-in-LineEnd
bounds-text-i-in-LineEnd c = second_in _ _ 9 c.in-LineEnd.ensures refl

pub returns-then-text-i : goal.returns-then-text-i
returns-then-text-i c = second-same _ _ 9 c.in-LineEnd.ensures refl c.if-text-i.true

pub returns-else-text-i : goal.returns-else-text-i
returns-else-text-i c = second-other _ _ 9 c.in-LineEnd.ensures refl c.if-text-i.false

pub returns-in_default : goal.returns-in_default
returns-in_default c = second_none _ _ _ c.class_at.ensures (λ e. c.in_default.not-LineEnd (named _ LineEnd e))
