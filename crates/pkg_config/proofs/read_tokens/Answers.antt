use Rattle.std.proofs.lemmas.Result.{err_from_is_err_and}
use Rattle.pkg_config.proofs.Readings.{lines-filed, lines_end, lines-stop}
use Rattle.pkg_config.proofs.read_tokens.Goals as goal

pub resolve_file-requires : goal.resolve_file-requires
resolve_file-requires c = lines-filed _ _ _ _ _ _ c.parse.ensures _ (c.in_ok-v.was)

pub returns-in_err-v : goal.returns-in_err-v
returns-in_err-v c = let p = err_from_is_err_and c.from_residual.result c.from_residual.ensures.1 in rw (p.1, p.2) (lines-stop _ _ _ _ _ _ c.parse.ensures _ _ c.in_err-v.was)

pub returns : goal.returns
returns c = lines_end _ _ _ _ _ _ c.parse.ensures _ _ _ _ _ c.in_ok-v.was c.resolve_file.ensures
