-- `lexer::put_token` meets its contract. Assumes nothing.
use Rattle.std.proofs.Common.{◌≡◌, refl, ap}
use Rattle.tokens.specs.declared.TokenKind.TheVariants.{Variable}
use Rattle.lexer.specs.Pieces.{kind_of}
use Rattle.lexer.proofs.Writes.{kind_named, name-end, name-entry, name-put, mark-end, mark-entry, mark-put}
use Rattle.lexer.proofs.put_token.Goals as goal

pub returns-in-Variable : goal.returns-in-Variable
returns-in-Variable c =
    let q : kind_of c.args.piece.kind ≡ 2 = ap kind_of c.in-Variable.is in
    let e = rw c.kind_number-kind.ensures at c.put4.ensures in
    (search name-end, name-entry _ _ _ _ _ _ _ _ _ c.requires _ q e, search name-put)

pub returns-in_default : goal.returns-in_default
returns-in_default c =
    let n : kind_of c.args.piece.kind ≡ 2 → ⊥ = λ e. c.in_default.not-Variable (kind_named c.args.piece.kind Variable e) in
    let e = rw c.kind_number-kind.ensures at c.put4-in_default.ensures in
    (search mark-end, mark-entry _ _ _ _ _ _ _ _ _ c.requires _ _ n refl e, search mark-put)
