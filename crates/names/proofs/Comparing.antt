-- Byte order where no byte differs: the lengths decide. Assumes nothing.
use Prim.Native.Nat.{ℕ, ◌<◌}
use mathlib.Core.Path.{◌≡◌}
use mathlib.Core.List.{List}
use native.Mathlib.Omega.{arith}
use native.Mathlib.Decide.{dec_lt}
use lib.ListN.{length, drop, drop_of_length-le}
use borrow.Author.Tests.{lt-ltb, le-ltb, eq-eqb, ne_eqb}
use Rattle.std.specs.Prelude.{min}
use Rattle.std.specs.Ordering.{nat_cmp}
use Rattle.scan.specs.ByteOrder.{order_of}
use Rattle.scan.proofs.Lists.{rest_at}

pub compare-end : (a b : List ℕ) (i : ℕ) → order_of (drop i a) (drop i b) ≡ order_of a b → i ≡ min (length a) (length b) → nat_cmp (length a) (length b) ≡ order_of a b
compare-end a b i s e = go (dec_lt (length a) (length b)) (dec_lt (length b) (length a))
  where
    go : Dec (length a < length b) → Dec (length b < length a) → nat_cmp (length a) (length b) ≡ order_of a b
    go (yes h) l = rw (lt-ltb (length a) (length b) h) (rw (drop_of_length-le a {i = i} (omega arith), rest_at b i (omega arith)) at s)
    go (no k) (yes h) = rw (le-ltb (length a) (length b) (omega arith), ne_eqb (length a) (length b) (λ z. omega arith)) (rw (rest_at a i (omega arith), drop_of_length-le b {i = i} (omega arith)) at s)
    go (no k) (no h) = rw (le-ltb (length a) (length b) (omega arith), eq-eqb (length a) (length b) (omega arith)) (rw (drop_of_length-le a {i = i} (omega arith), drop_of_length-le b {i = i} (omega arith)) at s)
