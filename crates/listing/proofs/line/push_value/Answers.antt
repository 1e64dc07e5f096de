-- `listing::line::push_value` meets its contract: the pieces of the line, one after another. Assumes nothing.
use Rattle.listing.proofs.LineLengths.{value_line}
use Rattle.listing.proofs.line.push_value.Goals as goal

pub returns-clause-taken : goal.returns-clause-taken
returns-clause-taken g c =
    let s = g.met.S.Sink in let p = c in
    rw value_line (s.then _ _ _ _ _ p.push_number.ensures.taken (s.then _ _ _ _ _ p.push_number-2.ensures.taken (s.then _ _ _ _ _ p.push_bytes.ensures.taken c.push.ensures.taken)))
