-- `lines::list::turn` meets its contract. Assumes nothing.
use Rattle.std.proofs.Common.{arith, refl, sym, ◌∙◌, ap, ◌≡◌, ◌*◌, [], length, length-set}
use Rattle.rules.specs.Tokens.{Token}
use Rattle.rules.specs.Lines.{splits, opens, closes, escapes}
use Rattle.tokens.proofs.TokenLaws.{length-decode, kind-at}
use Rattle.lines.proofs.Roles.{role-any, opens-kind}
use Rattle.lines.proofs.Turns.{bounds-more, bounds-later, row_more, row_same, row-none, split-bound, flushed, turn-part, turn-splits, turn-opens, turn-closes, turn-escapes, start-later, spared, unescaped}
use Rattle.lines.proofs.list.turn.Goals as goal

pub role_at-requires : goal.role_at-requires
role_at-requires c =
    let p = c.args.place in
    let l : length c.new-tokens.result ≡ p.end = ap (length {A = Token}) c.new-tokens.ensures ∙ length-decode p.end c.args.ws.now [] in
    record { inside = omega (arith, c.requires.left); small = omega (arith, p.inside, p.small) }

pub invariant_of-result : goal.invariant_of-result
invariant_of-result c = record { quotes = opens-kind c.new-tokens.result c.args.i _ _ c.kind-kind.ensures (c.in-Opens.ensures.role (spared _ opens c.in-Opens.ensures.escaped refl)) }

pub returns-in-Part : goal.returns-in-Part
returns-in-Part c =
    let B = c.requires.fits.0 in
    let h = c.requires.left in
    rw c.unwrap_or.ensures
    (record {
      fits = (bounds-more _ _ _ _ _ _ _ B h _ refl, row_more _ _ _ _ _ _ _ B h);
      reads = λ ws₀ R. turn-part _ _ _ _ _ _ _ B h R (λ y. role-any _ _ _ _ _ _ c.new-tokens.ensures (c.in-Part.ensures.role y));
    })

pub returns-in-Splits : goal.returns-in-Splits
returns-in-Splits c =
    let n = spared _ splits c.in-Splits.ensures.escaped refl in
    let B = c.requires.fits.0 in
    let w = c.requires.fits.1 in
    let h = c.requires.left in
    let l = c.flush.auto.ws in
    let b = split-bound _ _ _ _ _ _ w B.rows_before B.start_before c.flush.ensures.rows in
    record {
      fits = (record { small = B.small; room = omega (arith, B.room); inside = B.inside; on = omega arith; rows_before = omega arith; start_before = omega arith }, row-none _ _ _);
      reads = λ ws₀ R. unescaped n (turn-splits _ _ _ _ _ _ _ B h R n _ (role-any _ _ _ _ _ _ c.new-tokens.ensures (c.in-Splits.ensures.role n)) refl _ _ (flushed _ _ _ _ _ _ _ _ B w R.is_any R.within _ _ c.flush.ensures.rows c.flush.ensures.stored));
    }

pub returns-in-Opens : goal.returns-in-Opens
returns-in-Opens c =
    let n = spared _ opens c.in-Opens.ensures.escaped refl in
    let B = c.requires.fits.0 in
    let h = c.requires.left in
    let k = (rw c.new-tokens.ensures at c.kind-kind.ensures) ∙ sym (kind-at c.args.place.end c.args.ws.now [] c.args.i) in
    record {
      fits = (bounds-later _ _ _ _ _ c.args.state.start _ _ B h (length-set c.args.ws.now (4 * c.args.i) 0), row_same _ _ _ _ _ _ _ B h _ c.requires.fits.1);
      reads = λ ws₀ R. unescaped n (start-later _ _ _ _ _ c.args.state.start (turn-opens _ _ _ _ _ _ _ B h R n _ (role-any _ _ _ _ _ _ c.new-tokens.ensures (c.in-Opens.ensures.role n)) refl _ k));
    }

pub returns-in-Closes : goal.returns-in-Closes
returns-in-Closes c =
    let n = spared _ closes c.in-Closes.ensures.escaped refl in
    let B = c.requires.fits.0 in
    let h = c.requires.left in
    record {
      fits = (bounds-later _ _ _ _ _ c.args.state.start _ _ B h (length-set c.args.ws.now (4 * c.args.i) 0), row_same _ _ _ _ _ _ _ B h _ c.requires.fits.1);
      reads = λ ws₀ R. unescaped n (start-later _ _ _ _ _ c.args.state.start (turn-closes _ _ _ _ _ _ _ B h R n _ (role-any _ _ _ _ _ _ c.new-tokens.ensures (c.in-Closes.ensures.role n)) refl));
    }

pub returns-in-Escapes : goal.returns-in-Escapes
returns-in-Escapes c =
    let n = spared _ escapes c.in-Escapes.ensures.escaped refl in
    let B = c.requires.fits.0 in
    let h = c.requires.left in
    record {
      fits = (bounds-later _ _ _ _ _ c.args.state.start _ _ B h (length-set c.args.ws.now (4 * c.args.i) 0), row_same _ _ _ _ _ _ _ B h _ c.requires.fits.1);
      reads = λ ws₀ R. start-later _ _ _ _ _ c.args.state.start (turn-escapes _ _ _ _ _ _ _ B h R n _ (role-any _ _ _ _ _ _ c.new-tokens.ensures (c.in-Escapes.ensures.role n)) refl);
    }
