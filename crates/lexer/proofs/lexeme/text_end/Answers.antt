-- `lexer::lexeme::text_end` meets its contract. Assumes nothing.
use Rattle.std.proofs.Common.{rules}
use Rattle.rules.specs.Bytes.{is}
use Rattle.lexer.specs.Marks.{text_stop}
use Rattle.lexer.proofs.lexeme.text_end.Goals as goal

pub returns : goal.returns
unfolding text_stop is
returns c = c.next_stop.ensures text_stop (λ b r q. search rules)
