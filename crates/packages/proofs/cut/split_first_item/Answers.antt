-- `packages::cut::split_first_item` meets its contract: each answer is what the value begins with. Assumes nothing.
use Rattle.std.proofs.Common.{sym}
use Rattle.std.proofs.lemmas.Bool.{eqb-true, eqb-false}
use Rattle.std.proofs.lemmas.Result.{err_from_is_err_and}
use Rattle.rules.specs.Packages.{is_blank, is_separator, is_word}
use Rattle.packages.proofs.Cutting.{first_none, first_nameless, first_alone, first_plain, first_versionless, first_versioned}
use Rattle.packages.proofs.cut.split_first_item.Goals as goal

pub returns-then-is_empty : goal.returns-then-is_empty
returns-then-is_empty c = let p = c in first_none _ _ (p.split_while.ensures is_separator (λ b r q e. e)).1 (eqb-true _ _ (sym p.if-is_empty.ensures))

pub returns-then-is_empty-2 : goal.returns-then-is_empty-2
returns-then-is_empty-2 c =
    let p = c in
    first_nameless _ _ (p.split_while.ensures is_separator (λ b r q e. e)).1 (eqb-false _ _ (sym p.if-is_empty.ensures)) _ _ (p.split_while-2.ensures is_word (λ b r q e. e)) (eqb-true _ _ (sym p.if-is_empty-2.ensures))

pub returns-in_err-operator : goal.returns-in_err-operator
returns-in_err-operator c =
    let p = c in
    let k = err_from_is_err_and c.from_residual.result c.from_residual.ensures.1 in
    rw k.1
    (first_alone _ _ (p.split_while.ensures is_separator (λ b r q e. e)).1 (eqb-false _ _ (sym p.if-is_empty.ensures)) _ _ (p.split_while-2.ensures is_word (λ b r q e. e)) (eqb-false _ _ (sym p.if-is_empty-2.ensures))
    _ (p.split_while-3.ensures is_blank (λ b r q e. e)).1 p.in_err-operator.ensures)

pub returns-in_default : goal.returns-in_default
returns-in_default c =
    let p = c in
    first_plain _ _ (p.split_while.ensures is_separator (λ b r q e. e)).1 (eqb-false _ _ (sym p.if-is_empty.ensures)) _ _ (p.split_while-2.ensures is_word (λ b r q e. e)) (eqb-false _ _ (sym p.if-is_empty-2.ensures))
    _ (p.split_while-3.ensures is_blank (λ b r q e. e)).1 (rw p.in_default.is at p.in_ok-operator.ensures)

pub returns-then-is_empty-3 : goal.returns-then-is_empty-3
returns-then-is_empty-3 c =
    let p = c in
    let o = rw p.in-Some.is at p.in_ok-operator.ensures in
    first_versionless _ _ (p.split_while.ensures is_separator (λ b r q e. e)).1 (eqb-false _ _ (sym p.if-is_empty.ensures)) _ _ (p.split_while-2.ensures is_word (λ b r q e. e)) (eqb-false _ _ (sym p.if-is_empty-2.ensures))
    _ (p.split_while-3.ensures is_blank (λ b r q e. e)).1 _ o.0 o.1 o.2 _ _ o.3 (p.split_while-4.ensures is_blank (λ b r q e. e)).1 _ _ (p.split_while-5.ensures is_word (λ b r q e. e)) (eqb-true _ _ (sym p.if-is_empty-3.ensures))

pub returns : goal.returns
returns c =
    let p = c in
    let o = rw p.in-Some.is at p.in_ok-operator.ensures in
    first_versioned _ _ (p.split_while.ensures is_separator (λ b r q e. e)).1 (eqb-false _ _ (sym p.if-is_empty.ensures)) _ _ (p.split_while-2.ensures is_word (λ b r q e. e)) (eqb-false _ _ (sym p.if-is_empty-2.ensures))
    _ (p.split_while-3.ensures is_blank (λ b r q e. e)).1 _ o.0 o.1 o.2 _ _ o.3 (p.split_while-4.ensures is_blank (λ b r q e. e)).1 _ _ (p.split_while-5.ensures is_word (λ b r q e. e)) (eqb-false _ _ (sym p.if-is_empty-3.ensures))
