use Rattle.std.proofs.Common.{sym}
use Rattle.rules.specs.Utf8.{well_formed}
use Rattle.utf8.proofs.Ascii.{ascii}
use Rattle.utf8.proofs.is_well_formed.Goals as goal

pub returns-then-is_ascii : goal.returns-then-is_ascii
unfolding well_formed
returns-then-is_ascii c = rw c.if-is_ascii.true (sym (ascii _ c.if-is_ascii.ensures.cases))
