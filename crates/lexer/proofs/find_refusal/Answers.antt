use Rattle.std.proofs.Common.{refl, rules}
use Rattle.scan.proofs.Classes.{named}
use Rattle.scan.specs.declared.class.ByteClass.TheVariants.{Backslash, Dollar, Hash}
use Rattle.lexer.proofs.Fates.{fated-start, fated-quiet, fated-dollar, dollar-bad, fated-comment, fated-backslash, fated-end}
use Rattle.lexer.proofs.find_refusal.Goals as goal

pub loop-i-init : goal.loop-i-init
loop-i-init c = search fated-start

pub returns-in-Err : goal.returns-in-Err
returns-in-Err c = dollar-bad _ _ c.loop-i.invariant 10 c.loop-i-test.true c.in-Dollar.ensures _ refl c.in-Err.ensures.is_bad

pub loop-i-preserved-in-Ok : goal.loop-i-preserved-in-Ok
loop-i-preserved-in-Ok c = fated-dollar _ _ c.loop-i.invariant 10 c.loop-i-test.true c.in-Dollar.ensures _ _ _ _ refl c.in-Ok.ensures

pub loop-i-preserved-in-Hash : goal.loop-i-preserved-in-Hash
loop-i-preserved-in-Hash c = fated-comment _ _ c.loop-i.invariant 11 c.loop-i-test.true c.in-Hash.ensures _ refl (search rules)

pub loop-i-preserved-in-Backslash : goal.loop-i-preserved-in-Backslash
loop-i-preserved-in-Backslash c = fated-backslash _ _ c.loop-i.invariant 8 c.loop-i-test.true c.in-Backslash.ensures _ _ _ _ refl c.backslash_at.ensures

pub loop-i-preserved : goal.loop-i-preserved
loop-i-preserved c =
    let n = c.in_default in
    fated-quiet _ _ c.loop-i.invariant _ _ c.loop-i-test.true c.class_of.ensures (λ e. n.not-Dollar (named _ Dollar e)) (λ e. n.not-Hash (named _ Hash e)) (λ e. n.not-Backslash (named _ Backslash e)) c.dollar_end-i.ensures

pub returns : goal.returns
returns c = search fated-end
