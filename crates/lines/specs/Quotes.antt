-- The kinds of tokens that are quotes. Assumes nothing.
use Rattle.std.specs.Prelude.{ℕ, Bool, ◌||◌, eqb}
use Rattle.rules.specs.Tokens.{single_quote_kind, double_quote_kind}

abbrev pub is_quote_kind : ℕ → Bool
is_quote_kind kind = eqb kind single_quote_kind || eqb kind double_quote_kind
