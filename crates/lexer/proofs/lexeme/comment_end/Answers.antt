-- `lexer::lexeme::comment_end` meets its contract. Assumes nothing.
use Rattle.std.proofs.Common.{rules}
use Rattle.rules.specs.Bytes.{is}
use Rattle.rules.specs.Lexing.{comment, is_line_end}
use Rattle.lexer.proofs.lexeme.comment_end.Goals as goal

pub returns : goal.returns
unfolding comment is_line_end is
returns c = c.next_stop.ensures is_line_end (λ b r q. search rules)
