-- `lines::line::skip_blanks` meets its contract. Assumes nothing.
use Rattle.std.proofs.Common.{◌≡◌, arith, rules, tests}
use Rattle.std.proofs.lemmas.Iterator.{first_from_Range}
use Rattle.rules.specs.Tokens.{blank_kind}
use Rattle.tokens.specs.Entries.{token_at}
use Rattle.lines.proofs.Starts.{skipped}
use Rattle.lines.proofs.line.skip_blanks.Goals as goal

pub returns : goal.returns
returns c =
    let ts = c.args.tokens.now in
    rw (c.unwrap_or.ensures, c.len-2.ensures, ← c.len.ensures)
    (skipped ts c.args.from c.len.result c.find.result c.len.ensures (omega arith)
    (first_from_Range _ _ _ _ (λ i. (token_at ts i).kind ≡ blank_kind → ⊥) (λ i. (token_at ts i).kind ≡ blank_kind) c.find.ensures.ran (λ x q k. grind (arith, tests)) (λ x q k. (search rules, grind (arith, tests)))))
