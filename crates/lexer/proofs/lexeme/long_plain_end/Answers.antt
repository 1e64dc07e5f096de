-- `lexer::lexeme::long_plain_end` meets its contract. Assumes nothing.
use Rattle.std.proofs.Common.{rules}
use Rattle.lexer.specs.Pieces.{is_plain}
use Rattle.lexer.proofs.Marks.{text-over, text-inside}
use Rattle.lexer.proofs.lexeme.long_plain_end.Goals as goal

pub run_end-requires-clause-inside : goal.run_end-requires-clause-inside
run_end-requires-clause-inside c = search text-inside

pub returns : goal.returns
returns c = text-over _ _ _ c.text_end.ensures _ (c.run_end.ensures is_plain (λ b r q. search rules))
