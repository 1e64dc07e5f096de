-- `pkg_config::file::variable_refusal` meets its contract. Assumes nothing.
use Rattle.pkg_config.proofs.Stages.{told-large, told-lacks}
use Rattle.pkg_config.proofs.file.variable_refusal.Goals as goal

pub returns-in-TooLarge : goal.returns-in-TooLarge
returns-in-TooLarge c = told-large _ _ _ _ _ c.in-TooLarge.is c.key_name.ensures

pub returns-in-Lacks : goal.returns-in-Lacks
returns-in-Lacks c = told-lacks _ _ _ _ _ _ _ c.in-Lacks.is c.name.ensures c.key_name-in-Lacks.ensures
