use Rattle.std.proofs.Common.{refl}
use Rattle.std.proofs.lemmas.Result.{err_from_is_err_and}
use Rattle.pkg_config.proofs.Readings.{tokens-parsable, tokens-end, lexing-stop}
use Rattle.pkg_config.proofs.read_text.Goals as goal

pub read_tokens-requires : goal.read_tokens-requires
read_tokens-requires c = tokens-parsable _ _ _ _ _ _ c.lex.ensures c.requires _ _ refl c.in_ok-lexed.was

pub returns-in_err-lexed : goal.returns-in_err-lexed
returns-in_err-lexed c = let p = err_from_is_err_and c.from_residual.result c.from_residual.ensures.1 in rw (p.1, p.2) (lexing-stop _ _ _ _ _ _ c.lex.ensures c.requires _ _ c.in_err-lexed.was)

pub returns : goal.returns
returns c = tokens-end _ _ _ _ _ _ c.lex.ensures c.requires _ _ _ _ _ _ refl c.in_ok-lexed.was c.read_tokens.ensures
