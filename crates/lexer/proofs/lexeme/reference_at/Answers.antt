-- `lexer::lexeme::reference_at` meets its contract. Assumes nothing.
use Rattle.std.proofs.Common.{length, ◌≤◌, arith, refl}
use Rattle.scan.proofs.Classes.{named}
use Rattle.scan.specs.declared.class.ByteClass.TheVariants.{CloseBrace, Past}
use Rattle.lexer.proofs.Lexemes.{name-inside, reference-closed, reference-open, reference-bad}
use Rattle.lexer.proofs.lexeme.reference_at.Goals as goal

pub overflow_add-end : goal.overflow_add-end
overflow_add-end c = let h : c.name_end-end.result ≤ length c.args.text.now = name-inside _ _ _ 13 c.requires c.name_end-end.ensures c.in-CloseBrace.ensures in omega arith

pub returns-in-CloseBrace : goal.returns-in-CloseBrace
returns-in-CloseBrace c = rw c.new.ensures (reference-closed _ _ _ 13 c.requires c.name_end-end.ensures c.in-CloseBrace.ensures refl)

pub returns-in-Past : goal.returns-in-Past
returns-in-Past c = reference-open _ _ _ 15 c.requires c.name_end-end.ensures c.in-Past.ensures refl

pub returns-in_default : goal.returns-in_default
returns-in_default c =
    reference-bad _ _ _ _ c.requires c.name_end-end.ensures c.class_at.ensures _ (λ e. c.in_default.not-CloseBrace (named _ CloseBrace e)) (λ e. c.in_default.not-Past (named _ Past e)) c.bad_character.ensures
