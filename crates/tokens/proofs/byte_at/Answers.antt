-- `tokens::byte_at` meets its contract. Assumes nothing.
use Rattle.tokens.proofs.TokenLaws.{reads_byte}
use Rattle.tokens.proofs.byte_at.Goals as goal

pub returns-else-entry_at : goal.returns-else-entry_at
returns-else-entry_at c = search reads_byte
