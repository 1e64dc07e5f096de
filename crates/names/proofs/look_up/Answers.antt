use Rattle.names.proofs.Fronts.{front-search, front-room, front-looked}
use Rattle.names.proofs.look_up.Goals as goal

pub look_up-requires-clause-search : goal.look_up-requires-clause-search
look_up-requires-clause-search c = front-search _ _ _ _ _ _ _ c.split_at_mut-front.ensures.front c.new-tokens.ensures c.requires

pub look_up-requires-clause-room : goal.look_up-requires-clause-room
look_up-requires-clause-room c = front-room _ _ _ _ _ _ _ c.split_at_mut-front.ensures.front c.new-tokens.ensures c.requires _ c.split_at_mut-front.ensures.back_len

pub returns : goal.returns
returns c = front-looked _ _ _ _ _ _ _ c.split_at_mut-front.ensures.front c.new-tokens.ensures c.requires _ _ c.split_at_mut-front.ensures.back c.look_up.ensures
