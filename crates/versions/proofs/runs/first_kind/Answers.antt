use Rattle.std.proofs.Common.{ℕ, List, ◌∷◌, sym, ap, ◌∙◌, length, drop, ◌-◌, arith, length-drop}
use Rattle.rules.specs.Versions.{runs}
use Rattle.versions.specs.Kinds.{run_of, after}
use lib.Seq.{take_all}
use Rattle.versions.proofs.Fronts.{begins_at, separates_at, none_from}
use Rattle.versions.proofs.runs.first_kind.Goals as goal

pub returns-in-Some : goal.returns-in-Some
returns-in-Some c =
    let t = c.args.text.now in
    let i = c.loop-i.i in
    sym c.loop-i.invariant ∙ begins_at t i c.in-Some.kind (omega arith) c.in-Some.ensures
    ∙ ap (λ (x : List ℕ). run_of c.in-Some.kind x ∷ runs (after c.in-Some.kind x)) (sym (take_all (length t - i) (drop i t) (omega (arith, length-drop i t))))

pub loop-i-preserved : goal.loop-i-preserved
loop-i-preserved c = separates_at c.args.text.now c.loop-i.i (omega arith) c.in_default.ensures ∙ c.loop-i.invariant

pub returns : goal.returns
returns c = sym c.loop-i.invariant ∙ none_from c.args.text.now c.loop-i.i (omega arith)
