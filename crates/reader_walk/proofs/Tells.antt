-- Laws of what stands at a place. Assumes nothing.
use Prim.Native.Nat.{ℕ, ◌+◌, ◌-◌, ◌≤◌, ◌<◌}
use mathlib.Core.Path.{◌≡◌, ap, sym, ◌∙◌}
use mathlib.Core.List.{List}
use native.Mathlib.Omega.{arith}
use native.Mathlib.Decide.{ℕ_discrete}
use lib.ListN.{length}
use borrow.Author.Tests.{ne_eqb, lt-ltb, le-ltb}
use Rattle.rules.specs.Bytes.{pick}
use Rattle.rules.specs.Numbers.{LexError}
use Rattle.rules.specs.Lexing as L
use Rattle.lexer.specs.Pieces.{lexeme_at, shown, Shows}
use Rattle.reader_walk.specs.Steps.{told, step_at, end_of, end_at}
use Rattle.reader_walk.specs.declared.Step.{Step}
use Rattle.reader_walk.specs.declared.Step.TheVariants.{Lexeme, Bad, End}

pub step_end : (s : List ℕ) (at : ℕ) → length s ≤ at → End ≡ step_at s at
unfolding step_at pick
step_end s at h = rw (le-ltb at (length s) h)

module _ (s : List ℕ) (at : ℕ) (h : at < length s) where
  step_by : (x : L.Lexeme) → lexeme_at s at ≡ x → step_at s at ≡ told at x
  unfolding step_at pick
  step_by x e = rw (lt-ltb at (length s) h) (ap (told at) e)

  pub step-bad : (e : LexError) → lexeme_at s at ≡ L.bad e → Bad ≡ step_at s at
  unfolding told
  step-bad e x = sym (step_by (L.bad e) x)

  pub step-lexeme : (kind from len next : ℕ) → Shows s at (lexeme_at s at) kind from len next → Lexeme kind next ≡ step_at s at
  unfolding shown told pick
  step-lexeme kind from len next x = sym (step_by (shown s at kind from len next) x.is_lexeme ∙ go (ℕ_discrete kind 1) (ℕ_discrete kind 2))
    where
      m : at + 1 + (next - (at + 1)) ≡ next
      m = omega (arith, x.on)

      go : Dec (kind ≡ 1) → Dec (kind ≡ 2) → told at (shown s at kind from len next) ≡ Lexeme kind next
      go (yes p) q = rw p (ap (Lexeme 1) m)
      go (no p) (yes q) = rw q (ap (Lexeme 2) m)
      go (no p) (no q) = rw (ne_eqb kind 1 p, ne_eqb kind 2 q) (ap (Lexeme kind) m)

-- the place past it
module _ (s : List ℕ) (at : ℕ) (p : Step) (e : p ≡ step_at s at) where
  pub end-lexeme : (kind next : ℕ) → p ≡ Lexeme kind next → next ≡ end_at s at
  unfolding end_at end_of
  end-lexeme kind next q = sym (ap (end_of at) (sym e ∙ q))

  pub end-bad : p ≡ Bad → at ≡ end_at s at
  unfolding end_at end_of
  end-bad q = sym (ap (end_of at) (sym e ∙ q))

  pub end-end : p ≡ End → at ≡ end_at s at
  unfolding end_at end_of
  end-end q = sym (ap (end_of at) (sym e ∙ q))
