-- `listing::listing` meets its contract: each answer by the form of the records and the room for their lines. Assumes nothing.
use Rattle.listing.proofs.Answers.{says-broken, says-short, says-written}
use Rattle.listing.proofs.listing.Goals as goal

pub returns-in_default : goal.returns-in_default
returns-in_default c = let p = c in let a = p.args in let s = says-broken a.records.now a.output.now p.in_default.ensures in rw c.plain.ensures (record { answer = s.answer; written = s.written })

pub returns-then-output-need : goal.returns-then-output-need
returns-then-output-need c =
    let p = c in let a = p.args in let m = p.in-Ok.ensures in let s = says-short a.records.now a.output.now m.0 (rw m.1 at p.if-output-need.true) in
    rw (c.plain-then-output-need.ensures, m.1) (record { answer = s.answer; written = s.written })

pub returns : goal.returns
returns c =
    let p = c in let a = p.args in let m = p.in-Ok.ensures in let s = says-written a.records.now a.output.now m.0 (rw m.1 at p.if-output-need.false) in
    rw (c.plain-2.ensures, m.1, p.write_lines.ensures) (record { answer = s.answer; written = s.written })
