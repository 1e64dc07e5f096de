use Rattle.std.proofs.Common.{◌≡◌, ◌∙◌, arith, length, sym, rules}
use Rattle.lexer.proofs.Lexemes.{on-run, on-more, on-stop}
use Rattle.lexer.proofs.blocks.run_end.Goals as goal

pub loop-j-init : goal.loop-j-init
loop-j-init g c = (search rules, λ p q. on-run p _ _ c.requires.inside)

pub returns-then-not-passes : goal.returns-then-not-passes
returns-then-not-passes g c = λ p q. on-stop p _ _ c.loop-j.j (c.loop-j.invariant.1 p q) (λ h. sym (q _ _ c.passes.ensures) ∙ c.if-not-passes.true)

pub loop-j-preserved : goal.loop-j-preserved
loop-j-preserved g c = let v = c.loop-j.invariant in (v.0, λ p q. on-more p _ _ c.loop-j.j (v.1 p q) (omega arith) (sym (q _ _ c.passes.ensures) ∙ c.if-not-passes.false))

pub returns : goal.returns
returns g c = λ p q. let e : c.loop-j.j ≡ length c.args.text.now = omega arith in sym e ∙ on-stop p _ _ c.loop-j.j (c.loop-j.invariant.1 p q) (λ h. absurd (omega arith))
