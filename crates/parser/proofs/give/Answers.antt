-- `parser::give` meets its contract. Assumes nothing.
use Rattle.std.proofs.Common.{List, ap, ◌∙◌}
use Rattle.rules.specs.Tokens.{Token}
use Rattle.tokens.specs.Entries.{token_at, pool_text}
use Rattle.parser.proofs.Giving.{give-unknown, give-known}
use Rattle.parser.proofs.give.Goals as goal

pub returns-in_default-clause-takes : goal.returns-in_default-clause-takes
returns-in_default-clause-takes c = give-unknown _ _ _ _ _ _ _ _ c.requires _ (c.text.ensures ∙ ap (λ (ts : List Token). pool_text (token_at ts c.args.line.key)) c.new-tokens.ensures) _ c.args.ws.now c.in_default.ensures (rw c.new-tokens.ensures at c.name_at.ensures)

pub give_known-requires-clause-known : goal.give_known-requires-clause-known
give_known-requires-clause-known c = give-known _ _ _ _ _ _ _ _ c.requires _ (c.text.ensures ∙ ap (λ (ts : List Token). pool_text (token_at ts c.args.line.key)) c.new-tokens.ensures) _ c.in-Some.ensures
