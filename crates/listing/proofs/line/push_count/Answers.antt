-- `listing::line::push_count` meets its contract: the pieces of the line, one after another. Assumes nothing.
use Rattle.listing.proofs.LineLengths.{count_line}
use Rattle.listing.proofs.line.push_count.Goals as goal

pub returns-clause-taken : goal.returns-clause-taken
returns-clause-taken g c =
    let s = g.met.S.Sink in let p = c in
    rw count_line (s.then _ _ _ _ _ p.push_number.ensures.taken (s.then _ _ _ _ _ p.push_number-2.ensures.taken (s.then _ _ _ _ _ p.push_decimal.ensures.taken c.push.ensures.taken)))
