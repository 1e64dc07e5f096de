-- `walker::form::Walk::first` meets its contract: what `read` tells of the record at the front. Assumes nothing.
use Rattle.std.proofs.Common.{◌∙◌}
use Rattle.std.proofs.lemmas.Result.{err_from_is_err_and}
use Rattle.walker.proofs.Items.{first-none, first-some}
use Rattle.walker.proofs.form.Walk.first.Goals as goal

pub returns-in_default : goal.returns-in_default
returns-in_default c = first-none _ _ _ c.in_default.ensures

pub returns-in_err-content : goal.returns-in_err-content
returns-in_err-content c = let p = c in let e = err_from_is_err_and c.from_residual.result c.from_residual.ensures.1 in rw e.1 (first-some _ _ _ _ p.in-Some.ensures ∙ p.in_err-content.ensures _)

pub returns : goal.returns
returns c = let p = c in first-some _ _ _ _ p.in-Some.ensures ∙ c.in_ok-content.ensures _
