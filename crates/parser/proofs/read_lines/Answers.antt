-- `parser::read_lines` meets its contract. Assumes nothing.
use Rattle.std.proofs.Common.{rules, ◌∙◌, refl}
use Rattle.std.proofs.lemmas.Result.{err_from_is_err_and}
use Rattle.parser.proofs.Lines.{parse-begin, parse-more, parse-refused, settle-asks, parse-done, done-beyond}
use Rattle.parser.proofs.read_lines.Goals as goal

pub loop-progress-init : goal.loop-progress-init
loop-progress-init c = (parse-begin _ _ _ _ _ refl refl refl refl c.requires.parsable c.requires.none, refl)

pub loop-progress-preserved : goal.loop-progress-preserved
loop-progress-preserved c = search (rules, parse-more)

pub returns-in_err-progress : goal.returns-in_err-progress
returns-in_err-progress c =
    let p = err_from_is_err_and c.from_residual.result c.from_residual.ensures.1 in
    rw (p.1, p.2) (record { parses = parse-refused _ _ _ _ _ _ _ c.loop-progress.invariant.0 c.read_line.ensures.beyond _ c.in_err-progress.ensures.steps; beyond = c.read_line.ensures.beyond ∙ c.loop-progress.invariant.0.beyond })

pub settle-requires : goal.settle-requires
settle-requires c = settle-asks _ _ _ _ _ _ c.loop-progress.invariant.0 c.loop-progress-test.false

pub returns : goal.returns
returns c = record { parses = parse-done _ _ _ _ _ _ c.loop-progress.invariant.0 c.loop-progress-test.false _ c.settle.ensures; beyond = done-beyond _ _ _ _ _ _ c.loop-progress.invariant.0 c.loop-progress-test.false _ c.settle.ensures }
