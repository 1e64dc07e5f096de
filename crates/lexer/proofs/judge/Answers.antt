-- `lexer::judge` meets its contract. Assumes nothing.
use Rattle.std.proofs.Common.{◌∙◌, sym, rules, eqb}
use Rattle.lexer.proofs.Fates.{no-dollar}
use Rattle.lexer.proofs.Marks.{none_in}
use Rattle.lexer.proofs.judge.Goals as goal

pub returns : goal.returns
returns c = no-dollar _ (none_in (λ b. eqb b 36) _ (sym (c.any_in.ensures (λ b. eqb b 36) (λ b r q. search rules)) ∙ c.if-any_in.false))
