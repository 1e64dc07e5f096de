-- `parser::assign` meets its contract. Assumes nothing.
use Rattle.std.proofs.Common.{refl}
use Rattle.parser.proofs.Assigning.{insert-asks, assign-bad, assign-dup, assign-new, assign-beyond, dup-beyond}
use Rattle.parser.proofs.assign.Goals as goal

pub returns-then-not-is_variable_name-clause-takes : goal.returns-then-not-is_variable_name-clause-takes
returns-then-not-is_variable_name-clause-takes c = assign-bad _ _ _ _ _ _ _ _ c.requires _ _ c.new-tokens.ensures _ c.text.ensures c.is_variable_name.ensures _ c.args.ws.now c.if-not-is_variable_name.true (rw c.new-tokens.ensures at c.name_at.ensures)

pub insert-requires : goal.insert-requires
insert-requires c = insert-asks _ _ _ _ _ _ _ _ c.requires _ _ c.new-tokens.ensures _ c.text.ensures c.is_variable_name.ensures c.if-not-is_variable_name.false _ c.value_end-to.ensures.ends

pub returns-in_default-clause-takes : goal.returns-in_default-clause-takes
returns-in_default-clause-takes c = assign-dup _ _ _ _ _ _ _ _ c.requires _ _ c.new-tokens.ensures _ c.text.ensures c.is_variable_name.ensures c.if-not-is_variable_name.false _ c.value_end-to.ensures.ends _ _ c.insert.ensures _ c.in_default.is (rw c.new-again.ensures at c.name_at-in_default.ensures)

pub returns-in_default-clause-beyond : goal.returns-in_default-clause-beyond
returns-in_default-clause-beyond c = dup-beyond _ _ _ _ _ _ _ _ c.requires _ _ c.new-tokens.ensures _ c.text.ensures c.is_variable_name.ensures c.if-not-is_variable_name.false _ c.value_end-to.ensures.ends _ _ c.insert.ensures c.in_default.is

pub returns-clause-takes : goal.returns-clause-takes
returns-clause-takes c = assign-new _ _ _ _ _ _ _ _ c.requires _ _ c.new-tokens.ensures _ c.text.ensures c.is_variable_name.ensures c.if-not-is_variable_name.false _ c.value_end-to.ensures.ends _ _ c.insert.ensures _ c.in-Some.is _ refl refl refl c.past_line.ensures

pub returns-clause-beyond : goal.returns-clause-beyond
returns-clause-beyond c = assign-beyond _ _ _ _ _ _ _ _ c.requires _ _ c.new-tokens.ensures _ c.text.ensures c.is_variable_name.ensures c.if-not-is_variable_name.false _ c.value_end-to.ensures.ends _ _ c.insert.ensures _ c.in-Some.is
