use Rattle.workspace.specs.Map.{rules_in}
use Rattle.writer.proofs.columns.Columns.new.Goals as goal

pub returns : goal.returns
unfolding rules_in
returns c = rw (c.new-tokens.ensures, c.column.ensures, c.column-2.ensures, c.column-3.ensures, c.column-4.ensures, c.column-5.ensures)
