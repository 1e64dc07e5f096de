-- `lexer::lexeme::name_end` meets its contract. Assumes nothing.
use Rattle.std.proofs.Common.{rules}
use Rattle.rules.specs.Lexing.{is_identifier}
use Rattle.lexer.proofs.lexeme.name_end.Goals as goal

pub returns : goal.returns
returns c = c.run_end.ensures is_identifier (λ b r q. search rules)
