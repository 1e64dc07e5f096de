-- `pkg_config::file::refusal_in` meets its contract. Assumes nothing.
use Rattle.pkg_config.proofs.Stages.{told-in}
use Rattle.pkg_config.proofs.file.refusal_in.Goals as goal

pub returns : goal.returns
returns c = told-in _ _ _ _ _ c.args.why c.new.ensures c.column.ensures c.variable_refusal.ensures
