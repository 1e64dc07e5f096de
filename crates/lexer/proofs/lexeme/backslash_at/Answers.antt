-- `lexer::lexeme::backslash_at` meets its contract. Assumes nothing.
use Rattle.std.proofs.Common.{refl, arith}
use Rattle.scan.proofs.Classes.{named}
use Rattle.scan.specs.declared.class.ByteClass.TheVariants.{Hash, LineEnd}
use Rattle.lexer.proofs.Lexemes.{join-in, backslash-hash, backslash-join, backslash-alone}
use Rattle.lexer.proofs.lexeme.backslash_at.Goals as goal

pub returns-in-Hash : goal.returns-in-Hash
returns-in-Hash c = rw c.new.ensures (backslash-hash _ _ 11 c.requires c.in-Hash.ensures refl)

pub maybe_consume_second_newline-next-requires : goal.maybe_consume_second_newline-next-requires
maybe_consume_second_newline-next-requires c = join-in _ _ 9 c.requires c.in-LineEnd.ensures refl

pub returns-in-LineEnd : goal.returns-in-LineEnd
returns-in-LineEnd c = rw c.new-in-LineEnd.ensures (backslash-join _ _ 9 c.requires c.in-LineEnd.ensures _ (λ e. omega arith) refl c.maybe_consume_second_newline-next.ensures)

pub returns-in_default : goal.returns-in_default
returns-in_default c = rw c.new-in_default.ensures (backslash-alone _ _ _ c.requires c.class_at.ensures (λ e. c.in_default.not-Hash (named _ Hash e)) (λ e. c.in_default.not-LineEnd (named _ LineEnd e)))
