use Rattle.std.proofs.Common.{◌≡◌, ◌∙◌, arith, length, sym, ap, not}
use Rattle.lexer.specs.Marks.{free}
use Rattle.lexer.proofs.Lexemes.{on-more, on-stop}
use Rattle.lexer.proofs.Marks.{on_block}
use Rattle.lexer.proofs.blocks.next_stop.Goals as goal

pub loop-j-preserved : goal.loop-j-preserved
loop-j-preserved g c = let v = c.loop-j.invariant in (v.0, omega arith, λ p q. on_block p _ _ c.loop-j.j (omega arith) (sym (c.any_in.ensures p q) ∙ c.if-any_in.false) (v.2 p q))

pub loop-k-init : goal.loop-k-init
loop-k-init g c = let v = c.loop-j.invariant in (v.0, v.2)

pub returns-then-stops : goal.returns-then-stops
returns-then-stops g c = λ p q. on-stop (free p) _ _ c.loop-k.k (c.loop-k.invariant.1 p q) (λ h. ap not (sym (q _ _ c.stops.ensures) ∙ c.if-stops.true))

pub loop-k-preserved : goal.loop-k-preserved
loop-k-preserved g c = let v = c.loop-k.invariant in (v.0, λ p q. on-more (free p) _ _ c.loop-k.k (v.1 p q) (omega arith) (ap not (sym (q _ _ c.stops.ensures) ∙ c.if-stops.false)))

pub returns : goal.returns
returns g c = λ p q. let e : c.loop-k.k ≡ length c.args.text.now = omega arith in sym e ∙ on-stop (free p) _ _ c.loop-k.k (c.loop-k.invariant.1 p q) (λ h. absurd (omega arith))
