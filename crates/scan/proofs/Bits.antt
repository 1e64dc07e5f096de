-- Laws of the bits of a number, and of `|` and `<<` on them. Assumes nothing.
use Prim.Native.Nat.{ℕ, ◌*◌, ◌/◌, ◌%◌, ◌^◌, ◌<◌}
use mathlib.Core.Path.{◌≡◌, refl, sym, ◌∙◌}
use mathlib.Core.Bool.{Bool, true, false, ◌||◌}
use native.Mathlib.Nat.{zero-div, mod-lt, one-mul}
use native.Mathlib.Omega.{arith}
use lib.Dec.{eqb, lit<}
use lib.Bits.{bit_or, or_shr, or_mod}
use lib.Pow.{shl_exact}
use borrow.Author.Tests.{eq-eqb}
use Rattle.scan.specs.Bits.{bit_at}
use Rattle.scan.proofs.Table.{same, same-eq, up_to-at, pairs}

-- of two digits, by one computed test
digit_or : (x y : ℕ) → x < 2 → y < 2 → eqb (bit_or x y) 1 ≡ (eqb x 1 || eqb y 1)
digit_or x y p q = same-eq _ _ (pairs 2 2 (λ x y. same (eqb (bit_or x y) 1) (eqb x 1 || eqb y 1)) tt x y p q)

pub or-bit : (a b f : ℕ) → bit_at (bit_or a b) f ≡ (bit_at a f || bit_at b f)
or-bit a b f = rw (or_shr, or_mod _ _ 1) (digit_or (a / 2 ^ f % 2) (b / 2 ^ f % 2) (mod-lt _ (lit< tt)) (mod-lt _ (lit< tt)))

or-none : (a b : Bool) → (a || b) ≡ false → (a ≡ false) × (b ≡ false)
or-none true b e = absurd (let z : ◌≡◌ {A = ℕ} 0 1 = cc in omega arith)
or-none false b e = (refl, e)

-- a bit that neither has
pub or_off : (a b f : ℕ) → bit_at (bit_or a b) f ≡ false → (bit_at a f ≡ false) × (bit_at b f ≡ false)
or_off a b f e = or-none (bit_at a f) (bit_at b f) (sym (or-bit a b f) ∙ e)

-- a bit that one has
pub or_left : (a b f : ℕ) → bit_at a f ≡ true → bit_at (bit_or a b) f ≡ true
or_left a b f e = or-bit a b f ∙ rw e

pub or_right : (a b f : ℕ) → bit_at b f ≡ true → bit_at (bit_or a b) f ≡ true
or_right a b f e = or-bit a b f ∙ go (bit_at a f)
  where
    go : (c : Bool) → (c || bit_at b f) ≡ true
    go true = refl
    go false = e

-- a power of two has its own bit alone
pub power-bit : (g f : ℕ) → g < 32 → f < 32 → bit_at (2 ^ g) f ≡ eqb f g
power-bit g f p q = same-eq _ _ (pairs 32 32 (λ g f. same (bit_at (2 ^ g) f) (eqb f g)) tt g f p q)

pub own-bit : (f : ℕ) → f < 32 → bit_at (2 ^ f) f ≡ true
own-bit f h = power-bit f f h h ∙ eq-eqb f f refl

pub all-bits : (f : ℕ) → f < 32 → bit_at 4294967295 f ≡ true
all-bits f h = same-eq _ _ (up_to-at 32 (λ g. same (bit_at 4294967295 g) true) tt f h)

pub no-bit : (f : ℕ) → bit_at 0 f ≡ false
no-bit f = rw zero-div

pub one_shl : (f : ℕ) → f < 32 → 1 * 2 ^ f % 4294967296 ≡ 2 ^ f
one_shl f h = shl_exact 1 f 32 (lit< tt) (omega arith) ∙ one-mul (2 ^ f)
