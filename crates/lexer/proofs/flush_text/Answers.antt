-- `lexer::flush_text` meets its contract. Assumes nothing.
use Rattle.lexer.proofs.Writes.{flush-room, flush-one, flush-put, flush-none, flush-same}
use Rattle.lexer.proofs.flush_text.Goals as goal

pub put4-requires : goal.put4-requires
put4-requires c = search flush-room

pub returns-then-text : goal.returns-then-text
returns-then-text c = (search flush-one, search flush-put)

pub returns : goal.returns
returns c = (search flush-none, search flush-same)
