-- `lexer::keep::keep_text` meets its contract. Assumes nothing.
use Rattle.std.proofs.Common.{arith, ◌≡◌, ◌+◌, ◌-◌}
use Rattle.lexer.proofs.keep.keep_text.Goals as goal

pub returns : goal.returns
returns c = let a = c.args in let e : a.from + a.len - a.from ≡ a.len = omega arith in rw e at c.copy.ensures
