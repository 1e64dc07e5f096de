use Rattle.std.proofs.Common.{sym, arith, below_more, get_or, length, true, false}
use lib.ListN.{drop_of_length-le}
use lib.Seq.{take_all}
use Rattle.versions.proofs.Prefixes.{run_is, run_cut}
use Rattle.versions.proofs.prefix.split_while.Goals as goal

pub returns-then-not-passes : goal.returns-then-not-passes
returns-then-not-passes g c = λ p h. let l = c in let t = l.args.text.now in
    let e = run_is p t l.loop-i.i (omega arith) (λ k b. sym (h (get_or t k 0) true (omega (arith, l.type_inv.text k)) (l.loop-i.invariant k b))) (λ b. sym (h (get_or t l.loop-i.i 0) false (omega (arith, l.type_inv.text l.loop-i.i)) c.if-not-passes.ensures)) in
    run_cut p t _ _ _ e c.split_at.ensures.front c.split_at.ensures.back

pub loop-i-preserved : goal.loop-i-preserved
loop-i-preserved g c = below_more _ _ c.loop-i.invariant c.if-not-passes.ensures

pub returns : goal.returns
returns g c = λ p h. let l = c in let t = l.args.text.now in
    let e = run_is p t (length t) (omega arith) (λ k b. sym (h (get_or t k 0) true (omega (arith, l.type_inv.text k)) (l.loop-i.invariant k (omega arith)))) (λ b. absurd (omega arith)) in
    run_cut p t t _ _ e (sym (take_all (length t) t (omega arith))) (sym (drop_of_length-le t (omega arith)))
