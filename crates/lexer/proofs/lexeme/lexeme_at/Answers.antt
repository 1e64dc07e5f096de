-- `lexer::lexeme::lexeme_at` meets its contract. Assumes nothing.
use Rattle.std.proofs.Common.{refl, arith}
use Rattle.lexer.proofs.Lexemes.{lexeme-sign, lexeme-backslash, lexeme-newline, lexeme-dollar, lexeme-comment, plain-shows, quiet}
use Rattle.lexer.proofs.lexeme.lexeme_at.Goals as goal

pub returns-in-Blank : goal.returns-in-Blank
returns-in-Blank c = rw c.byte_token.ensures (lexeme-sign _ _ 3 c.requires c.in-Blank.ensures (omega arith) (omega arith))

pub returns-in-Equals : goal.returns-in-Equals
returns-in-Equals c = rw c.byte_token-in-Equals.ensures (lexeme-sign _ _ 4 c.requires c.in-Equals.ensures (omega arith) (omega arith))

pub returns-in-Colon : goal.returns-in-Colon
returns-in-Colon c = rw c.byte_token-in-Colon.ensures (lexeme-sign _ _ 5 c.requires c.in-Colon.ensures (omega arith) (omega arith))

pub returns-in-Single : goal.returns-in-Single
returns-in-Single c = rw c.byte_token-in-Single.ensures (lexeme-sign _ _ 6 c.requires c.in-Single.ensures (omega arith) (omega arith))

pub returns-in-Double : goal.returns-in-Double
returns-in-Double c = rw c.byte_token-in-Double.ensures (lexeme-sign _ _ 7 c.requires c.in-Double.ensures (omega arith) (omega arith))

pub returns-in-Backslash : goal.returns-in-Backslash
returns-in-Backslash c = rw (lexeme-backslash _ _ 8 c.requires c.in-Backslash.ensures refl) c.backslash_at.ensures

pub returns-in-LineEnd : goal.returns-in-LineEnd
returns-in-LineEnd c = rw c.new.ensures (lexeme-newline _ _ 9 c.requires c.in-LineEnd.ensures _ refl c.maybe_consume_second_newline-next.ensures)

pub returns-in-Dollar : goal.returns-in-Dollar
returns-in-Dollar c = rw (lexeme-dollar _ _ 10 c.requires c.in-Dollar.ensures refl) c.dollar_at.ensures

pub returns-in-Hash : goal.returns-in-Hash
returns-in-Hash c = rw c.new-in-Hash.ensures (lexeme-comment _ _ 11 c.requires c.in-Hash.ensures _ refl c.comment_end-next.ensures)

pub returns-in_default : goal.returns-in_default
returns-in_default c =
    let n = c.in_default in
    rw c.byte_token-in_default.ensures (plain-shows _ _ _ c.requires c.class_of.ensures (quiet _ n.not-Blank n.not-Equals n.not-Colon n.not-Single n.not-Double n.not-Backslash n.not-LineEnd n.not-Dollar n.not-Hash))
