use Rattle.std.proofs.Common.{refl}
use Rattle.passes.proofs.RunLaws.{resolves}
use Rattle.passes.proofs.resolve_variables.Goals as goal

pub returns : goal.returns
returns c =
    let F = c.split_at_mut-map.ensures in
    let C = c.split_at_mut-columns.ensures in
    resolves c.requires _ _ _ _ _ _ F.front F.back C.front C.back c.resolve_in.auto.columns refl _ _ c.resolve_in.ensures
