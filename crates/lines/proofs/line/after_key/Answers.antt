-- `lines::line::after_key` meets its contract. Assumes nothing.
use Rattle.std.proofs.Common.{sym, ◌∙◌, arith}
use Rattle.lines.proofs.Starts.{newline-alike, end-alike, wrong-alike, colon-alike, equals-alike}
use Rattle.lines.proofs.line.after_key.Goals as goal

pub returns-then-end-len : goal.returns-then-end-len
returns-then-end-len c = λ us A.
    let k = c.requires in
    newline-alike _ _ _ c.until-line.ensures k.inside _ k.at_key k.is_text _ c.skip_blanks-mark.ensures us A c.if-end-mark.true (omega (arith, c.if-end-len.true, c.len.ensures))

pub returns-else-end-len : goal.returns-else-end-len
returns-else-end-len c = λ us A.
    let k = c.requires in
    end-alike _ _ _ c.until-line.ensures k.inside _ k.at_key k.is_text _ c.skip_blanks-mark.ensures us A c.if-end-mark.true (omega (arith, c.if-end-len.false, c.len.ensures))

pub returns-then-kind : goal.returns-then-kind
returns-then-kind c = λ us A.
    let k = c.requires in
    colon-alike _ _ _ c.until-line.ensures k.inside _ k.at_key k.is_text _ c.skip_blanks-mark.ensures us A c.if-end-mark.false _ c.skip_blanks.ensures (sym c.kind-kind.ensures ∙ c.if-kind.true)

pub returns-then-kind-2 : goal.returns-then-kind-2
returns-then-kind-2 c = λ us A.
    let k = c.requires in
    equals-alike _ _ _ c.until-line.ensures k.inside _ k.at_key k.is_text _ c.skip_blanks-mark.ensures us A c.if-end-mark.false _ c.skip_blanks-then-kind-2.ensures (sym c.kind-kind.ensures ∙ c.if-kind-2.true)

pub returns-else-kind-2 : goal.returns-else-kind-2
returns-else-kind-2 c = λ us A.
    let k = c.requires in
    wrong-alike _ _ _ c.until-line.ensures k.inside _ k.at_key k.is_text _ c.skip_blanks-mark.ensures us A c.if-end-mark.false (λ e. c.if-kind.false (c.kind-kind.ensures ∙ e)) (λ e. c.if-kind-2.false (c.kind-kind.ensures ∙ e))
