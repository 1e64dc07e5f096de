-- `parser::give_known` meets its contract. Assumes nothing.
use Rattle.std.proofs.Common.{arith, ◌∙◌, sym}
use Rattle.parser.proofs.Giving.{give-string, list-fresh, give-open, give-list, keeps-beyond}
use Rattle.parser.proofs.give_known.Goals as goal

pub returns-then-is_string-clause-takes : goal.returns-then-is_string-clause-takes
returns-then-is_string-clause-takes c =
    give-string _ _ _ _ _ _ _ _ c.requires.at _ c.requires.known (sym c.is_string.ensures ∙ c.if-is_string.true) _ c.new.ensures _ c.value_end-to.ensures.ends c.keep_field.new.ws c.keep_field.result c.keep_field.ensures.keeps

pub invariant_of-place : goal.invariant_of-place
invariant_of-place c = record { small = c.args.layout.small; on = c.requires.at.stands.inside; inside = omega (arith, c.requires.at.in_tokens, c.args.layout.tokens) }

pub list_value-requires-clause-none_dropped : goal.list_value-requires-clause-none_dropped
list_value-requires-clause-none_dropped c = list-fresh _ _ _ _ _ _ _ _ c.requires.at

pub returns-in_default-clause-takes : goal.returns-in_default-clause-takes
returns-in_default-clause-takes c = give-open _ _ _ _ _ _ _ _ c.requires.at _ c.requires.known (sym c.is_string.ensures ∙ c.if-is_string.false) c.list_value.new.ws _ c.in_default.ensures.lists

pub returns-in_default-clause-beyond : goal.returns-in_default-clause-beyond
returns-in_default-clause-beyond c = keeps-beyond _ _ _ _ _ (omega (arith, c.requires.at.in_tokens, c.requires.at.ready.tokens)) c.in_default.ensures.keeps

pub returns-clause-takes : goal.returns-clause-takes
returns-clause-takes c =
    give-list _ _ _ _ _ _ _ _ c.requires.at _ c.requires.known (sym c.is_string.ensures ∙ c.if-is_string.false) _ c.in-Ok.ensures.keeps _ c.in-Ok.ensures.lists c.keep_field-2.new.ws c.keep_field-2.result c.keep_field-2.ensures.keeps

pub returns-clause-beyond : goal.returns-clause-beyond
returns-clause-beyond c = c.keep_field-2.ensures.beyond ∙ keeps-beyond _ _ _ _ _ (omega (arith, c.requires.at.in_tokens, c.requires.at.ready.tokens)) c.in-Ok.ensures.keeps
