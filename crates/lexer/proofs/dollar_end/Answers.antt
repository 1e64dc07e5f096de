-- `lexer::dollar_end` meets its contract. Assumes nothing.
use Rattle.std.proofs.Common.{rules}
use Rattle.rules.specs.Bytes.{is}
use Rattle.lexer.specs.Marks.{dollar_stop}
use Rattle.lexer.proofs.dollar_end.Goals as goal

pub returns : goal.returns
unfolding dollar_stop is
returns c = c.next_stop.ensures dollar_stop (λ b r q. search rules)
