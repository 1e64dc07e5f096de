use Rattle.std.proofs.Common.{ap, refl}
use Rattle.tokens.specs.declared.TokenKind.TheVariants.{Text}
use Rattle.lexer.specs.Pieces.{kind_of}
use Rattle.lexer.proofs.Fills.{fill_start, flush-fits, fill_end, keep-room, sound, fill-text, put-fits, count_word, fill-token}
use Rattle.lexer.proofs.Lefts.{next-less}
use Rattle.lexer.proofs.Writes.{kind_named}
use Rattle.lexer.proofs.fill.Goals as goal

pub loop-i-init : goal.loop-i-init
loop-i-init c = rw c.none-gathered.ensures (search fill_start)

pub keep_piece-requires : goal.keep_piece-requires
keep_piece-requires c = (c.loop-i-test.true, search keep-room)

pub unreachable-requires : goal.unreachable-requires
unreachable-requires c = sound _ _ _ _ _ _ _ _ _ _ c.loop-i.invariant c.loop-i-test.true _ c.in_default.ensures.0.is_bad

pub put_token-end-requires : goal.put_token-end-requires
put_token-end-requires c =
    let k = c.in-Ok.ensures in
    put-fits _ _ _ _ _ _ _ _ _ _ c.loop-i.invariant _ _ _ _ c.loop-i-test.true k.0 _ _ _ (λ e. c.in_default-kind.not-Text (kind_named _ Text e)) k.1 c.flush_text-count.ensures.1 c.flush_text-count.ensures.0

pub loop-i-preserved-in-Text : goal.loop-i-preserved-in-Text
loop-i-preserved-in-Text c =
    let k = c.in-Ok.ensures in
    rw c.with-gathered.ensures (fill-text _ _ _ _ _ _ _ _ _ _ c.loop-i.invariant _ _ _ _ c.loop-i-test.true k.0 _ _ (ap kind_of c.in-Text.is) refl k.1)

pub loop-i-preserved : goal.loop-i-preserved
loop-i-preserved c =
    let k = c.in-Ok.ensures in
    let f = c.flush_text-count.ensures in
    let p = c.put_token-end.ensures in
    rw c.none-gathered-in_default-kind.ensures (fill-token _ _ _ _ _ _ _ _ _ _ c.loop-i.invariant _ _ _ _ c.loop-i-test.true k.0 _ _ _ _ _ _ (λ e. c.in_default-kind.not-Text (kind_named _ Text e)) k.1 f.0 f.1 p.0 p.1 p.2)

pub flush_text-count-requires : goal.flush_text-count-requires
flush_text-count-requires c = search flush-fits

pub overflow_add-count : goal.overflow_add-count
overflow_add-count c = record { fits = count_word _ _ _ _ _ _ _ _ _ _ c.loop-i.invariant _ _ _ _ c.loop-i-test.true c.in-Ok.ensures.0 _ c.flush_text-count.ensures.0 }

pub loop-i-smaller : goal.loop-i-smaller
loop-i-smaller c = next-less _ _ _ _ _ _ c.loop-i-test.true c.in-Ok.ensures.0

pub flush_text-count-requires-2 : goal.flush_text-count-requires-2
flush_text-count-requires-2 c = search flush-fits

pub returns : goal.returns
returns c = search fill_end
