-- `lines::line::line_start` meets its contract. Assumes nothing.
use Rattle.std.proofs.Common.{refl, sym, ◌∙◌, arith}
use Rattle.lines.proofs.Starts.{inside-alike, skips-alike, kind-alike, other-alike, starts-empty, starts-wrong, starts_key}
use Rattle.lines.proofs.line.line_start.Goals as goal

pub returns-then-end-key-clause-by_kinds : goal.returns-then-end-key-clause-by_kinds
returns-then-end-key-clause-by_kinds c = λ us A.
    let l = c.until-line.ensures in
    let i = inside-alike _ _ _ l c.requires.inside us A in
    let S = skips-alike _ _ _ l c.requires.inside us A _ _ c.skip_blanks-key.ensures in
    starts-empty us _ _ refl i _ _ S c.if-end-key.true

pub returns-then-kind-clause-by_kinds : goal.returns-then-kind-clause-by_kinds
returns-then-kind-clause-by_kinds c = λ us A.
    let l = c.until-line.ensures in
    let i = inside-alike _ _ _ l c.requires.inside us A in
    let S = skips-alike _ _ _ l c.requires.inside us A _ _ c.skip_blanks-key.ensures in
    let t = kind-alike _ _ _ l c.requires.inside us A _ _ (sym c.kind.ensures ∙ c.if-kind.true) in
    starts_key us _ _ refl i _ _ S c.if-end-key.false t _ (c.after_key.ensures us A)

pub returns-else-kind-clause-by_kinds : goal.returns-else-kind-clause-by_kinds
returns-else-kind-clause-by_kinds c = λ us A.
    let l = c.until-line.ensures in
    let i = inside-alike _ _ _ l c.requires.inside us A in
    let S = skips-alike _ _ _ l c.requires.inside us A _ _ c.skip_blanks-key.ensures in
    let h = c.if-end-key.false in
    (omega (arith, h, i), starts-wrong us _ _ refl i _ _ S h (other-alike _ _ _ l c.requires.inside us A _ _ (λ e. c.if-kind.false (c.kind.ensures ∙ e))))
