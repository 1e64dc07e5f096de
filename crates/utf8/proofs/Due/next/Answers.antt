-- `utf8::Due::next` meets its contract. Assumes nothing.
use Rattle.std.proofs.Common.{sym, ◌∙◌}
use Rattle.utf8.proofs.Rows.{after_none, after-under, after-over, after-in}
use Rattle.utf8.specs.Dues.{due_of}
use Rattle.utf8.proofs.Due.next.Goals as goal

pub returns-then-self-eq0 : goal.returns-then-self-eq0
returns-then-self-eq0 c = c.row_of.ensures ∙ sym (after_none _ _ _ _ c.if-self-eq0.true)

pub returns-then-b-self : goal.returns-then-b-self
unfolding due_of
returns-then-b-self c = sym (after-under _ _ _ _ c.if-self-eq0.false c.if-b-self.true)

pub returns-then-self-b : goal.returns-then-self-b
unfolding due_of
returns-then-self-b c = sym (after-over _ _ _ _ c.if-self-eq0.false c.if-self-b.true)

pub returns : goal.returns
unfolding due_of
returns c = rw c.bytes.ensures (sym (after-in _ _ _ _ c.if-self-eq0.false c.if-b-self.false c.if-self-b.false))
