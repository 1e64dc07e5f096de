-- Laws of little-endian numbers. Assumes nothing.
use Prim.Native.Nat.{ℕ, zero, suc, ◌+◌, ◌*◌, ◌-◌, ◌/◌, ◌%◌, ◌<◌, ◌≤◌}
use mathlib.Core.Path.{◌≡◌, refl, ap, ◌∙◌}
use mathlib.Core.List.{List, [], ◌∷◌, ◌++◌, append-nil}
use native.Mathlib.Nat.{add_assoc, div-add-mod'}
use native.Mathlib.Omega.{arith}
use lib.ListN.{length, get_or, drop, set, replicate, drop_of_length-le, length-append, length-drop, length-replicate}
use lib.Seq.{get_or-drop}
use borrow.Rule.Slice.PartMut.{put_mid}
use Rattle.std.specs.Int.{w64, from_le_bytes}
use Rattle.std.proofs.lemmas.List.{drop-replicate}
use Rattle.rules.specs.Bytes.{to_little, from_little}
use Rattle.scan.specs.Stores.{puts}
use Rattle.scan.proofs.Lists.{rest_at}
use Rattle.scan.proofs.Stores.{puts-eq, put_mid-puts}

pub length-little : (k n : ℕ) → length (to_little k n) ≡ k
unfolding to_little
length-little zero n = refl
length-little (suc k) n = ap suc (length-little k (n / 256))

-- a turn of stores from place `at` on
pub little-more : (l : List ℕ) (at width i n : ℕ) → i < width
    → puts (set l (at + i) (n % 256)) (at + (i + 1)) (to_little (width - (i + 1)) (n / 256)) ≡ puts l (at + i) (to_little (width - i) n)
unfolding to_little
little-more l at width i n h = let e : width - i ≡ suc (width - (i + 1)) = omega arith in rw (e, ← add_assoc at i 1)

-- a turn of put_little, which stores from the front of its part on
pub little-turn : (l : List ℕ) (width i n : ℕ) → i < width → puts (set l i (n % 256)) (i + 1) (to_little (width - (i + 1)) (n / 256)) ≡ puts l i (to_little (width - i) n)
unfolding to_little
little-turn l width i n h = let e : width - i ≡ suc (width - (i + 1)) = omega arith in rw e

-- stores over the whole list
pub puts_all : (l vs : List ℕ) → length l ≡ length vs → puts l 0 vs ≡ vs
puts_all l vs e =
    let d : drop (0 + length vs) l ≡ [] = drop_of_length-le l (omega arith) in
    puts-eq l 0 vs (omega arith) ∙ rw (d, append-nil vs)

pub little-none : (n : ℕ) → to_little 0 n ≡ []
unfolding to_little
little-none n = refl

-- the numbers of so many bytes
unfoldable pub bound : ℕ → ℕ
bound zero = 1
bound (suc k) = 256 * bound k

bound-more : (k d : ℕ) → bound k ≤ bound (k + d)
unfolding bound
bound-more zero zero = omega arith
bound-more zero (suc d) = let e : 0 + suc d ≡ suc (0 + d) = omega arith in rw e (omega (arith, bound-more zero d))
bound-more (suc k) d = let e : suc k + d ≡ suc (k + d) = omega arith in rw e (omega (arith, bound-more k d))

pub little-below : (l : List ℕ) → ((k : ℕ) → get_or l k 0 < 256) → from_little l < bound (length l)
unfolding from_little bound
little-below [] b = omega arith
little-below (x ∷ l) b = omega (arith, b 0, little-below l (λ k. b (suc k)))

-- where seven bytes are left at most, one more fits 64 bits
pub little-room : (l : List ℕ) (i : ℕ) → length l ≤ 8 → 0 < i → ((k : ℕ) → get_or l k 0 < 256) → from_little (drop i l) < 72057594037927936
unfolding bound
little-room l i h p b =
    let d = length-drop i l in
    let n = length (drop i l) in
    let e : n + (7 - n) ≡ 7 = omega arith in
    let m : bound n ≤ bound 7 = rw e at (bound-more n (7 - n)) in
    omega (arith, little-below (drop i l) (λ k. rw (get_or-drop i l k 0) (b (i + k))))

-- a turn of little, from the end to the front
pub from-turn : (l : List ℕ) (i n : ℕ) → 0 < i → i ≤ length l → n ≡ from_little (drop i l) → get_or l (i - 1) 0 + 256 * n ≡ from_little (drop (i - 1) l)
unfolding from_little
from-turn l i n p h e =
    let q : i - 1 + 1 ≡ i = omega arith in
    rw (rest_at l (i - 1) (omega arith), q, e)

pub from-none : from_little [] ≡ 0
unfolding from_little
from-none = refl

-- zeros past the end count for nothing, and eight bytes are the number that std reads of them
from-zeros : (k : ℕ) → from_little (replicate k 0) ≡ 0
unfolding from_little
from-zeros zero = refl
from-zeros (suc k) = omega (arith, from-zeros k)

pub from-padded : (l : List ℕ) (k : ℕ) → from_little (l ++ replicate k 0) ≡ from_little l
unfolding from_little
from-padded [] k = from-zeros k
from-padded (b ∷ l) k = rw (from-padded l k)

pub from-eight : (l : List ℕ) → length l ≡ 8 → from_le_bytes w64 l ≡ from_little l
unfolding from_little
from-eight (a ∷ b ∷ c ∷ d ∷ e ∷ f ∷ g ∷ h ∷ []) q = omega arith
from-eight [] q = absurd (omega arith)
from-eight (a ∷ []) q = absurd (omega arith)
from-eight (a ∷ b ∷ []) q = absurd (omega arith)
from-eight (a ∷ b ∷ c ∷ []) q = absurd (omega arith)
from-eight (a ∷ b ∷ c ∷ d ∷ []) q = absurd (omega arith)
from-eight (a ∷ b ∷ c ∷ d ∷ e ∷ []) q = absurd (omega arith)
from-eight (a ∷ b ∷ c ∷ d ∷ e ∷ f ∷ []) q = absurd (omega arith)
from-eight (a ∷ b ∷ c ∷ d ∷ e ∷ f ∷ g ∷ []) q = absurd (omega arith)
from-eight (a ∷ b ∷ c ∷ d ∷ e ∷ f ∷ g ∷ h ∷ i ∷ l) q = absurd (omega arith)

-- what stands in the front of eight zeros
pub from-front : (g s : List ℕ) (k : ℕ) → s ≡ g → length g ≡ k → k ≤ 8 → from_le_bytes w64 (put_mid 0 k (replicate 8 0) s) ≡ from_little g
from-front g s k e q h =
    let r = length-replicate {A = ℕ} 8 0 in
    let a = put_mid-puts (replicate 8 0) 0 k s g e q (omega arith) in
    let z : 0 + length g ≡ length g = omega arith in
    let b : puts (replicate 8 0) 0 g ≡ g ++ replicate (8 - length g) 0 = puts-eq (replicate 8 0) 0 g (omega arith) ∙ rw (z, drop-replicate {X = ℕ} (length g) 8 0) in
    rw (a, b) (from-eight (g ++ replicate (8 - length g) 0) (length-append g (replicate (8 - length g) 0) ∙ omega (arith, length-replicate {A = ℕ} (8 - length g) 0)) ∙ from-padded g (8 - length g))

-- a number that fits is read back as it was written
pub read_back : (k n : ℕ) → n < bound k → from_little (to_little k n) ≡ n
unfolding to_little from_little bound
read_back zero n h = omega arith
read_back (suc k) n h =
    let e : n / 256 * 256 + n % 256 ≡ n = div-add-mod' n 256 in
    rw (read_back k (n / 256) (omega arith)) (omega arith)
