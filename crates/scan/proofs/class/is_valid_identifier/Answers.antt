-- `scan::class::is_valid_identifier` meets its contract. Assumes nothing.
use Rattle.std.proofs.Common.{sym, ◌∙◌}
use Rattle.rules.specs.Lexing.{identifier}
use Rattle.scan.proofs.Classes.{named, test-true, test-false}
use Rattle.scan.specs.Classes.{class_number}
use Rattle.scan.specs.declared.class.ByteClass.TheVariants.{Identifier}
use Rattle.scan.proofs.class.is_valid_identifier.Goals as goal

pub returns-in-Identifier : goal.returns-in-Identifier
unfolding class_number
returns-in-Identifier c = sym (test-true identifier _ (sym c.in-Identifier.ensures))

pub returns-in_default : goal.returns-in_default
unfolding class_number
returns-in_default c = sym (test-false identifier _ (λ e. c.in_default.not-Identifier (named _ Identifier (c.class_of.ensures ∙ e))))
