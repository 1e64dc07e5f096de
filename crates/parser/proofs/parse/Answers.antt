-- `parser::parse` meets its contract. Assumes nothing.
use Rattle.std.proofs.Common.{◌∙◌}
use Rattle.parser.proofs.Lines.{cleared-asks, cleared-fields, cleared-parses, cleared-beyond}
use Rattle.parser.proofs.parse.Goals as goal

pub read_lines-requires-clause-parsable : goal.read_lines-requires-clause-parsable
read_lines-requires-clause-parsable c = rw c.zero_from.ensures (cleared-asks _ _ _ c.requires)

pub read_lines-requires-clause-none : goal.read_lines-requires-clause-none
read_lines-requires-clause-none c = rw c.zero_from.ensures (cleared-fields _ _ _ c.requires)

pub returns : goal.returns
returns c = (cleared-parses _ _ _ c.requires _ _ c.read_lines.result (rw c.zero_from.ensures at c.read_lines.ensures.parses), c.read_lines.ensures.beyond ∙ rw c.zero_from.ensures (cleared-beyond _ _ _ c.requires))
