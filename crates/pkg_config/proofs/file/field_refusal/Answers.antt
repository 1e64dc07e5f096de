-- `pkg_config::file::field_refusal` meets its contract. Assumes nothing.
use Rattle.pkg_config.proofs.Stages.{told-undefined, told-too-large}
use Rattle.pkg_config.proofs.file.field_refusal.Goals as goal

pub returns-in-Undefined : goal.returns-in-Undefined
returns-in-Undefined c = told-undefined _ _ _ _ _ c.in-Undefined.is c.name.ensures

pub returns-in-TooLarge : goal.returns-in-TooLarge
returns-in-TooLarge c = told-too-large _ _ _ c.in-TooLarge.is
