use Rattle.std.proofs.Common.{◌∙◌, ap, length, Result, ℕ}
use Rattle.std.specs.Result.{result_unwrap_or}
use Rattle.names.proofs.Places.{rank-or, names_length}
use Rattle.names.proofs.columns.rank.Goals as goal

pub returns : goal.returns
returns c =
    c.unwrap_or.ensures ∙ ap (λ (r : Result ℕ ℕ). result_unwrap_or r (length c.args.keys.now)) c.find_place.ensures ∙ rank-or _ _ _ (names_length _ _ c.requires)
