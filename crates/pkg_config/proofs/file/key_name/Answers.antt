-- `pkg_config::file::key_name` meets its contract. Assumes nothing.
use Rattle.pkg_config.proofs.Stages.{key-names, no_key}
use Rattle.pkg_config.proofs.file.key_name.Goals as goal

pub returns-then-keys-i : goal.returns-then-keys-i
returns-then-keys-i c = search no_key

pub returns : goal.returns
returns c = search key-names
