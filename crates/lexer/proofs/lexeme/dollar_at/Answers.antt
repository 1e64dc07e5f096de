-- `lexer::lexeme::dollar_at` meets its contract. Assumes nothing.
use Rattle.std.proofs.Common.{refl}
use Rattle.scan.proofs.Classes.{named}
use Rattle.scan.specs.declared.class.ByteClass.TheVariants.{OpenBrace, Dollar, Past}
use Rattle.lexer.proofs.Lexemes.{brace-in, dollar-brace, dollar-two, dollar-end, dollar-other}
use Rattle.lexer.proofs.lexeme.dollar_at.Goals as goal

pub reference_at-requires : goal.reference_at-requires
reference_at-requires c = brace-in _ _ 12 c.requires c.in-OpenBrace.ensures refl

pub returns-in-OpenBrace : goal.returns-in-OpenBrace
returns-in-OpenBrace c = rw (dollar-brace _ _ 12 c.requires c.in-OpenBrace.ensures refl) c.reference_at.ensures

pub returns-in-Dollar : goal.returns-in-Dollar
returns-in-Dollar c = rw c.new.ensures (dollar-two _ _ 10 c.requires c.in-Dollar.ensures refl)

pub returns-in-Past : goal.returns-in-Past
returns-in-Past c = rw c.new-in-Past.ensures (dollar-end _ _ 15 c.requires c.in-Past.ensures refl)

pub returns-in_default : goal.returns-in_default
returns-in_default c =
    rw c.new-in_default.ensures (dollar-other _ _ _ c.requires c.class_at.ensures (λ e. c.in_default.not-OpenBrace (named _ OpenBrace e)) (λ e. c.in_default.not-Dollar (named _ Dollar e)) (λ e. c.in_default.not-Past (named _ Past e)))
