-- `pkg_config::file::resolve_file` meets its contract. Assumes nothing.
use Rattle.pkg_config.proofs.Stages.{lookable, room_settled, is-solved, ends-unresolved, ends-resolved}
use Rattle.pkg_config.proofs.file.resolve_file.Goals as goal

pub look_up-requires : goal.look_up-requires
look_up-requires c = search lookable

pub resolve_fields-requires : goal.resolve_fields-requires
resolve_fields-requires c = is-solved _ _ _ _ _ c.requires _ c.look_up.ensures _ _ _ c.resolve_variables.ensures c.in-Ok.is

pub returns-in-Ok : goal.returns-in-Ok
returns-in-Ok c = ends-resolved _ _ _ _ _ c.requires _ c.look_up.ensures _ _ _ c.resolve_variables.ensures c.in-Ok.is _ _ _ _ c.resolve_fields.ensures

pub returns-in-Err : goal.returns-in-Err
returns-in-Err c = ends-unresolved _ _ _ _ _ c.requires _ c.look_up.ensures _ _ _ c.resolve_variables.ensures _ c.in-Err.why _ c.in-Err.is c.refusal_in.ensures

pub refusal_in-requires : goal.refusal_in-requires
refusal_in-requires c = room_settled _ _ _ _ _ c.requires _ c.look_up.ensures _ _ _ c.resolve_variables.ensures
