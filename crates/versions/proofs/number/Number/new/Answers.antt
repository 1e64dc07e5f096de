use Rattle.std.proofs.Common.{rules, refl, sym}
use Rattle.rules.specs.Bytes.{is}
use Rattle.rules.proofs.DigitsLaws.{bare-value, bare-digits}
use Rattle.versions.proofs.Fronts.{run-past}
use Rattle.versions.proofs.number.Number.new.Goals as goal

pub invariant_of-result : goal.invariant_of-result
unfolding is
invariant_of-result c = let x = c.args.digits.now in let e = (c.split_while.ensures (is "0") (λ b r q e. search rules)).1 in
    record { counted = refl; plain = rw e (bare-digits x c.requires); bare = rw e (run-past (is "0") x) }

pub returns : goal.returns
unfolding is
returns c = let x = c.args.digits.now in let e = (c.split_while.ensures (is "0") (λ b r q e. search rules)).1 in
    rw e (sym (bare-value x))
