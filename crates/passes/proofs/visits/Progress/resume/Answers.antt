use Rattle.passes.specs.Visits.{reads}
use Rattle.passes.proofs.States.{sum_fits, goes_on}
use Rattle.passes.proofs.visits.Progress.resume.Goals as goal

pub sum_on-requires : goal.sum_on-requires
sum_on-requires c = sum_fits c.requires.0 c.args.i c.requires.1 _ c.entry-3.ensures.value

pub returns : goal.returns
returns c =
    let g = c.args in goes_on (reads g.rules) g.self.now.lengths.now g.self.now.stops.now g.self.now.sums.now g.i _ _ _ _ _ _ _ c.entry-key.ensures.value c.entry.ensures.value c.entry-start.ensures.value c.checked_sub.ensures c.unwrap_or-from.ensures c.entry-2.ensures.value c.entry-3.ensures.value _ c.sum_on.ensures
