-- `tokens::length_at` meets its contract. Assumes nothing.
use Rattle.tokens.proofs.TokenLaws.{reads-length}
use Rattle.tokens.proofs.length_at.Goals as goal

pub returns-then-entry_at : goal.returns-then-entry_at
returns-then-entry_at c = search reads-length
