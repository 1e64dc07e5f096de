-- `parser::keep_field` meets its contract. Assumes nothing.
use Rattle.std.proofs.Common.{◌∙◌, sym}
use Rattle.parser.proofs.Answering.{kept-refuses}
use Rattle.parser.proofs.keep_field.Goals as goal

pub returns-then-has-clause-keeps : goal.returns-then-has-clause-keeps
returns-then-has-clause-keeps c = (sym c.has.ensures ∙ c.if-has.true, kept-refuses _ _ (rw c.new-tokens.ensures at c.name_at.ensures))
