use Rattle.std.proofs.Common.{◌∙◌}
use Rattle.passes.proofs.RunLaws.{map-clear, map-resolved}
use Rattle.passes.proofs.resolve_in.Goals as goal

pub run_in-outcome-requires : goal.run_in-outcome-requires
run_in-outcome-requires c =
    map-clear c.requires c.args.pool.now _ c.new-tokens.ensures c.column.ensures c.column-2.ensures c.column-3.ensures c.column-4.ensures _ c.zero_from.ensures

pub returns : goal.returns
returns c =
    map-resolved c.requires c.args.pool.now _ c.new-tokens.ensures c.column.ensures c.column-2.ensures c.column-3.ensures c.column-4.ensures _ (c.run_in-outcome.auto.columns ∙ c.zero_from.auto.ws) _ _ c.run_in-outcome.ensures _ c.kept-stay.ensures _ c.zero_from-2.ensures
