use Rattle.passes.proofs.Turns.{left-none, left-some, some-lacks}
use Rattle.passes.proofs.visits.Progress.left.Goals as goal

pub lacking-requires : goal.lacking-requires
lacking-requires c = some-lacks c.requires.0 _ c.first_without.ensures _ c.in-Some.is c.requires.1

pub returns-in-None : goal.returns-in-None
returns-in-None c = left-none c.requires.0 _ c.first_without.ensures c.in-None.is

pub returns-in-Some : goal.returns-in-Some
returns-in-Some c = left-some c.requires.0 _ c.first_without.ensures _ _ c.in-Some.is c.lacking.ensures
