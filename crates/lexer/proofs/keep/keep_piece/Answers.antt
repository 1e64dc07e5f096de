-- `lexer::keep::keep_piece` meets its contract. Assumes nothing.
use Rattle.std.proofs.Common.{◌∙◌, sym, ap}
use Rattle.tokens.specs.declared.TokenKind.TheVariants.{Text}
use Rattle.lexer.specs.Pieces.{kind_of}
use Rattle.lexer.proofs.Keeps.{next-room, kept_run, kept-text, kept-none}
use Rattle.lexer.proofs.Lexemes.{reads-run, reads-one}
use Rattle.lexer.proofs.Writes.{kind_named}
use Rattle.lexer.proofs.keep.keep_piece.Goals as goal

pub keep_plain-end-requires : goal.keep_plain-end-requires
keep_plain-end-requires c = search next-room

pub returns-then-is_plain : goal.returns-then-is_plain
returns-then-is_plain c =
    let t = sym c.is_plain.ensures ∙ c.if-is_plain.true in
    let k = c.keep_plain-end.ensures in
    rw c.new.ensures (reads-run _ _ _ c.requires.0 t k.0, kept_run _ _ _ _ c.requires.0 c.requires.1 _ _ t k.0 k.1)

pub returns-in-Text : goal.returns-in-Text
returns-in-Text c = (reads-one _ _ _ _ _ _ c.in_ok-piece.ensures, kept-text _ _ _ _ _ _ _ (ap kind_of c.in-Text.is) c.keep_text.ensures)

pub returns-in_default : goal.returns-in_default
returns-in_default c = (reads-one _ _ _ _ _ _ c.in_ok-piece.ensures, kept-none _ _ _ _ _ _ (λ e. c.in_default.not-Text (kind_named _ Text e)))
