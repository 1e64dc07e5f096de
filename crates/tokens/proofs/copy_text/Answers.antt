-- `tokens::copy_text` meets its contract. Assumes nothing.
use Rattle.tokens.proofs.TokenLaws.{copy-fits, copied-to, copied, byte_fits, byte-to, byte-stored}
use Rattle.tokens.proofs.copy_text.Goals as goal

pub copy-requires : goal.copy-requires
copy-requires c = search copy-fits

pub returns-then-entry_at : goal.returns-then-entry_at
returns-then-entry_at c = (search copied-to, search copied)

pub bounds-out-to : goal.bounds-out-to
bounds-out-to c = search byte_fits

pub returns : goal.returns
returns c = (search byte-to, search byte-stored)
