use Rattle.scan.proofs.Lists.{part-some}
use Rattle.names.proofs.Naming.{search-names}
use Rattle.names.proofs.Storing.{insert-dup, insert-new, place-in}
use Rattle.names.proofs.insert.Goals as goal

pub find_place-requires : goal.find_place-requires
find_place-requires c = rw (c.new-tokens.ensures, part-some c.args.ws.now c.args.first c.args.v) (search-names _ _ _ _ _ _ c.requires.search)

pub put_key-begin-requires-clause-place : goal.put_key-begin-requires-clause-place
put_key-begin-requires-clause-place c = place-in _ _ _ _ _ _ _ _ _ c.requires _ c.new-tokens.ensures _ c.text.ensures _ c.find_place.ensures _ c.in-Err.is

pub returns-in_default : goal.returns-in_default
returns-in_default c = insert-dup _ _ _ _ _ _ _ _ _ c.requires _ c.new-tokens.ensures _ c.text.ensures _ c.find_place.ensures _ c.in_default.is

pub returns : goal.returns
returns c = insert-new _ _ _ _ _ _ _ _ _ c.requires _ c.new-tokens.ensures _ c.text.ensures _ c.find_place.ensures _ c.in-Err.is _ _ c.put_key-begin.ensures.begin c.put_key-begin.ensures.stored
