-- `parser::read_line` meets its contract. Assumes nothing.
use Rattle.std.proofs.Common.{arith, refl, ap, length}
use Rattle.std.specs.Prelude.{Ok, Err}
use Rattle.rules.specs.Tokens.{Token}
use Rattle.answers.specs.declared.Refusal.TheVariants as Told
use Rattle.tokens.proofs.TokenLaws.{length-decode}
use Rattle.parser.proofs.Answering.{refuses-start, refuses-after, refuses-ended}
use Rattle.parser.proofs.Lines.{steps, takes-empty, takes-refused, takes-item}
use Rattle.parser.proofs.read_line.Goals as goal

pub line_end-end-requires : goal.line_end-end-requires
line_end-end-requires c = omega (arith, ap (length {A = Token}) c.new-tokens.ensures, length-decode c.args.layout.count c.args.ws.now c.args.pool.now)

pub assign-requires : goal.assign-requires
assign-requires c =
    let E = rw c.new-tokens.ensures at c.line_end-end.ensures in
    let x = rw c.new-tokens.ensures at c.in-Assigns.ensures.starts in
    record { ready = c.requires.ready; ends = E; in_tokens = omega (arith, E.inside, length-decode c.args.layout.count c.args.ws.now c.args.pool.now); stands = x.0 }

pub give-requires : goal.give-requires
give-requires c =
    let E = rw c.new-tokens.ensures at c.line_end-end.ensures in
    let x = rw c.new-tokens.ensures at c.in-Gives.ensures.starts in
    record { ready = c.requires.ready; ends = E; in_tokens = omega (arith, E.inside, length-decode c.args.layout.count c.args.ws.now c.args.pool.now); stands = x.0 }

pub returns-in-Empty-clause-steps : goal.returns-in-Empty-clause-steps
returns-in-Empty-clause-steps c =
    let E = rw c.new-tokens.ensures at c.line_end-end.ensures in
    let x = rw c.new-tokens.ensures at c.in-Empty.ensures.starts in
    steps _ _ _ _ _ _ c.args.progress E c.requires.left (Ok (record { variables = c.args.progress.variables; first = c.args.progress.first; seen = c.args.progress.seen; next = c.past_line.result }))
    (takes-empty _ _ _ _ _ c.args.progress _ c.requires.ready c.requires.left E x (record { variables = c.args.progress.variables; first = c.args.progress.first; seen = c.args.progress.seen; next = c.past_line.result }) refl refl refl c.past_line.ensures)

pub returns-in-WrongStart-clause-steps : goal.returns-in-WrongStart-clause-steps
returns-in-WrongStart-clause-steps c =
    let E = rw c.new-tokens.ensures at c.line_end-end.ensures in
    let x = rw c.new-tokens.ensures at c.in-WrongStart.ensures.starts in
    let k = rw c.new-tokens.ensures at c.kind.ensures in
    steps _ _ _ _ c.args.ws.now _ c.args.progress E c.requires.left (Err (Told.UnexpectedAtStart c.kind.result c.name_at.result))
    (takes-refused _ _ c.line_end-end.result _ c.args.ws.now _ c.args.progress _ _ (Told.UnexpectedAtStart c.kind.result c.name_at.result) x.1 (refuses-start _ _ _ k (rw c.new-tokens.ensures at c.name_at.ensures)))

pub returns-in-WrongAfter-clause-steps : goal.returns-in-WrongAfter-clause-steps
returns-in-WrongAfter-clause-steps c =
    let E = rw c.new-tokens.ensures at c.line_end-end.ensures in
    let x = rw c.new-tokens.ensures at c.in-WrongAfter.ensures.starts in
    let k = rw c.new-tokens.ensures at c.kind-in-WrongAfter.ensures in
    steps _ _ _ _ c.args.ws.now _ c.args.progress E c.requires.left (Err (Told.UnexpectedAfterKey c.kind-in-WrongAfter.result c.name_at-in-WrongAfter.result))
    (takes-refused _ _ c.line_end-end.result _ c.args.ws.now _ c.args.progress _ _ (Told.UnexpectedAfterKey c.kind-in-WrongAfter.result c.name_at-in-WrongAfter.result) x.1 (refuses-after _ _ _ k (rw c.new-tokens.ensures at c.name_at-in-WrongAfter.ensures)))

pub returns-in-Ended-clause-steps : goal.returns-in-Ended-clause-steps
returns-in-Ended-clause-steps c =
    let E = rw c.new-tokens.ensures at c.line_end-end.ensures in
    let x = rw c.new-tokens.ensures at c.in-Ended.ensures.starts in
    steps _ _ _ _ c.args.ws.now _ c.args.progress E c.requires.left (Err Told.EndedAfterKey) (takes-refused _ _ c.line_end-end.result _ c.args.ws.now _ c.args.progress _ _ Told.EndedAfterKey x refuses-ended)

pub returns-in-Assigns-clause-steps : goal.returns-in-Assigns-clause-steps
returns-in-Assigns-clause-steps c =
    let E = rw c.new-tokens.ensures at c.line_end-end.ensures in
    let x = rw c.new-tokens.ensures at c.in-Assigns.ensures.starts in
    steps _ _ _ _ _ _ c.args.progress E c.requires.left c.assign.result (takes-item _ _ _ _ _ _ c.args.progress _ _ c.assign.result x.1 c.assign.ensures.takes)

pub returns-in-Gives-clause-steps : goal.returns-in-Gives-clause-steps
returns-in-Gives-clause-steps c =
    let E = rw c.new-tokens.ensures at c.line_end-end.ensures in
    let x = rw c.new-tokens.ensures at c.in-Gives.ensures.starts in
    steps _ _ _ _ _ _ c.args.progress E c.requires.left c.give.result (takes-item _ _ _ _ _ _ c.args.progress _ _ c.give.result x.1 c.give.ensures.takes)
