-- The bits of a number are membership of the fields that were put into it. Assumes nothing.
use Prim.Native.Nat.{ℕ, ◌^◌, ◌≤◌}
use mathlib.Core.Path.{◌≡◌, refl, sym, ◌∙◌, ap}
use mathlib.Core.Bool.{Bool, true, false, ◌||◌}
use mathlib.Core.List.{List, [], ◌∷◌, ◌++◌}
use mathlib.Core.Option.{Option, none, some}
use native.Mathlib.Omega.{arith}
use lib.Dec.{eqb}
use lib.Bits.{bit_or}
use Rattle.rules.specs.Lines.{Field, field_at}
use Rattle.scan.proofs.Bits.{or-bit, power-bit, no-bit}
use Rattle.fields.specs.Seen.{bit_at, is_some, Marks}

-- one field more at the end
given-more : (f : ℕ) (fields : List Field) (g : Field) → is_some (field_at f (fields ++ g ∷ [])) ≡ (is_some (field_at f fields) || eqb f g.number)
unfolding field_at is_some
given-more f [] g = go (eqb f g.number) refl
  where
    go : (b : Bool) → eqb f g.number ≡ b → is_some (field_at f (g ∷ [])) ≡ eqb f g.number
    go true q = rw (q, field_at, is_some) refl
    go false q = rw (q, field_at, is_some) refl
given-more f (h ∷ fields) g = go (eqb f h.number) refl (given-more f fields g)
  where
    go : (b : Bool) → eqb f h.number ≡ b → is_some (field_at f (fields ++ g ∷ [])) ≡ (is_some (field_at f fields) || eqb f g.number)
        → is_some (field_at f (h ∷ fields ++ g ∷ [])) ≡ (is_some (field_at f (h ∷ fields)) || eqb f g.number)
    go true q ih = rw (q, field_at, is_some) refl
    go false q ih = rw (q, field_at) ih

-- THE LAWS of the ten bits: none, and one more
pub marks-none : Marks 0 []
unfolding field_at is_some
marks-none f h = no-bit f

pub marks-more : (m : ℕ) (fields : List Field) (g : Field) → Marks m fields → g.number ≤ 10 → Marks (bit_or m (2 ^ g.number)) (fields ++ g ∷ [])
marks-more m fields g s l f h = or-bit m (2 ^ g.number) f ∙ rw (s f h, power-bit g.number f (omega arith) (omega arith)) (sym (given-more f fields g))

-- a bit says whether the field was given
pub given_by : (m : ℕ) (fields : List Field) (f : ℕ) (b : Bool) → Marks m fields → f ≤ 10 → b ≡ bit_at m f → b ≡ true → (g : Field) × (field_at f fields ≡ some g)
unfolding is_some
given_by m fields f b s h e t = go (field_at f fields) refl
  where
    go : (o : Option Field) → field_at f fields ≡ o → (g : Field) × (field_at f fields ≡ some g)
    go none q = let z : true ≡ false = sym t ∙ e ∙ s f h ∙ ap is_some q in let y : ◌≡◌ {A = ℕ} 0 1 = cc in absurd (omega arith)
    go (some g) q = (g, q)

pub absent_by : (m : ℕ) (fields : List Field) (f : ℕ) (b : Bool) → Marks m fields → f ≤ 10 → b ≡ bit_at m f → b ≡ false → field_at f fields ≡ none
unfolding is_some
absent_by m fields f b s h e t = go (field_at f fields) refl
  where
    go : (o : Option Field) → field_at f fields ≡ o → field_at f fields ≡ none
    go none q = q
    go (some g) q = let z : true ≡ false = sym (ap is_some q) ∙ sym (s f h) ∙ sym e ∙ t in let y : ◌≡◌ {A = ℕ} 0 1 = cc in absurd (omega arith)
