use Rattle.names.proofs.Places.{search-start, search-up, search-down, search-found, search-end}
use Rattle.names.proofs.columns.find_place.Goals as goal

pub loop-low-init : goal.loop-low-init
loop-low-init c = search search-start

pub loop-low-preserved-in-Less : goal.loop-low-preserved-in-Less
loop-low-preserved-in-Less c = search search-up

pub returns-in-Equal : goal.returns-in-Equal
returns-in-Equal c = search search-found

pub loop-low-preserved : goal.loop-low-preserved
loop-low-preserved c = search search-down

pub returns : goal.returns
returns c = search search-end
