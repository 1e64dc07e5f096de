use Rattle.std.proofs.Common.{refl, ◌∙◌}
use lib.Seq.{take_at}
use Rattle.passes.proofs.RunLaws.{clear-ready}
use Rattle.passes.proofs.run_in.Goals as goal

pub run_by-requires : goal.run_by-requires
run_by-requires c =
    let F = c.split_at_mut-lengths.ensures in
    let T = c.split_at_mut-stops.ensures in
    let U = c.split_at_mut-sums.ensures in
    clear-ready c.requires _ _ _ _ _ _ F.front F.back T.front T.back U.front U.back _ refl

pub returns : goal.returns
returns c = rw (take_at c.run_by.new.lengths _ c.args.v (c.run_by.auto.lengths ∙ c.split_at_mut-lengths.ensures.front_len)) c.run_by.ensures
