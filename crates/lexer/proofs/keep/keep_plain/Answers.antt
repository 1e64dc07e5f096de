use Rattle.std.proofs.Common.{◌≡◌, ◌+◌, ◌-◌, ◌∙◌, arith, sym}
use Rattle.lexer.proofs.Keeps.{keep-start, keep-more, keep-stop, keep_all, rest_part, rest-fits}
use Rattle.lexer.proofs.keep.keep_plain.Goals as goal

pub loop-j-init : goal.loop-j-init
loop-j-init c = let e : c.args.used + (c.args.i - c.args.i) ≡ c.args.used = omega arith in rw e (keep-start _ _ _ _ _ c.requires c.near_end-stop.ensures.1)

pub returns-then-not-is_plain : goal.returns-then-not-is_plain
returns-then-not-is_plain c = let t = sym c.is_plain.ensures ∙ c.if-not-is_plain.true in let k = c.loop-j in (keep-stop _ _ _ _ _ _ _ _ k.invariant (omega arith) t, keep_all _ _ _ _ _ _ _ _ k.invariant (omega arith) t)

pub loop-j-preserved : goal.loop-j-preserved
loop-j-preserved c =
    let e : c.args.used + (c.loop-j.j + 1 - c.args.i) ≡ c.args.used + (c.loop-j.j - c.args.i) + 1 = omega arith in
    rw e (keep-more _ _ _ _ _ _ _ _ c.loop-j.invariant (omega arith) (sym c.is_plain.ensures ∙ c.if-not-is_plain.false))

pub keep_text-requires : goal.keep_text-requires
keep_text-requires c =
    let e : c.loop-j.j ≡ c.near_end-stop.result = omega arith in
    let k = rw e at c.loop-j.invariant in
    (rest_part _ _ _ _ _ _ _ _ k _ c.long_plain_end-end.ensures, rest-fits _ _ _ _ _ _ _ _ k _ c.long_plain_end-end.ensures)
