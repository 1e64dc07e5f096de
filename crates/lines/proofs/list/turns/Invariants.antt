-- `lines::list::turns` meets its contract. Assumes nothing.
use Rattle.std.proofs.Common.{◌≡◌, length}
use Rattle.lines.specs.Rows.{Fits, ReadAs}
use Rattle.lines.proofs.list.turns.Given as goal

abbrev pub invariant-loop-i : goal.invariant-loop-i
invariant-loop-i l = record { fits : Fits l.place l.i l.state l.ws; reads : ReadAs l.place l.initial.ws l.ws l.i l.state; long : length l.ws ≡ length l.initial.ws }
