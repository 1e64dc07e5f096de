-- The order of two names, step by step, and names of other lengths. Assumes nothing.
use Prim.Native.Nat.{ℕ, ◌<◌, ◌≤◌}
use mathlib.Core.Path.{◌≡◌, refl, sym, ap}
use mathlib.Core.Bool.{Bool, true, false}
use mathlib.Core.List.{List, ◌∷◌}
use native.Mathlib.Omega.{arith}
use lib.ListN.{length}
use Rattle.std.specs.declared.cmp.Ordering.TheVariants.{Less, Greater}
use Rattle.std.proofs.lemmas.Bool.Decides.{nat_tests}
use Rattle.rules.specs.Bytes.{same}
use Rattle.rules.proofs.BytesLaws.{same-eq}
use Rattle.scan.specs.ByteOrder.{order_of}

-- by the first bytes
pub order-less : (x y : ℕ) (a b : List ℕ) → x < y → order_of (x ∷ a) (y ∷ b) ≡ Less
order-less x y a b h = grind (arith, nat_tests)

pub order-greater : (x y : ℕ) (a b : List ℕ) → y < x → order_of (x ∷ a) (y ∷ b) ≡ Greater
order-greater x y a b h = grind (arith, nat_tests)

pub order_same : (x y : ℕ) (a b : List ℕ) → y ≤ x → x ≤ y → order_of (x ∷ a) (y ∷ b) ≡ order_of a b
order_same x y a b h k = grind (arith, nat_tests)

-- bytes of other lengths are not the same
pub other_length : (a b : List ℕ) → (length a ≡ length b → ⊥) → false ≡ same a b
other_length a b n = go (same a b) refl
  where
    go : (t : Bool) → same a b ≡ t → false ≡ same a b
    go true e = absurd (n (ap length (same-eq a b e)))
    go false e = sym e
