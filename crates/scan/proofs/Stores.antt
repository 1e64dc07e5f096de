-- Laws of runs of stores, `puts`, and of an overwritten front, `overwrite`. Assumes nothing.
-- Only what speaks of the values stored asks that they fit; what is left as it was asks nothing of the length.
use Prim.Native.Nat.{ℕ, suc, ◌+◌, ◌-◌, ◌≤◌, ◌<◌}
use mathlib.Core.Path.{◌≡◌, refl, sym, ◌∙◌, ap}
use mathlib.Core.List.{List, [], ◌∷◌, ◌++◌, append_assoc}
use native.Mathlib.Nat.{add-zero, zero-add, add_assoc}
use native.Mathlib.Omega.{arith}
use native.Mathlib.Numerals.{add-one}
use lib.ListN.{length, get_or, take, drop, set, replicate, length-append, length-drop, length-replicate, get_or-append}
use borrow.Rule.Slice.PartMut.{put_mid}
use Rattle.std.specs.List.{copy_within}
use lib.Seq.{drop-drop, sets, sets-eq, length-sets, length-take-le, drop_at, take-set-le, drop-set-lt, take-set-lt, drop-set-add, get_or-take, get_or-drop, set_comm, drop-append_seam}
use Rattle.rules.specs.Bytes.{overwrite}
use Rattle.scan.specs.Stores.{puts}
use Rattle.scan.proofs.Lists.{rest_at}

puts-sets : (l : List ℕ) (i : ℕ) (vs : List ℕ) → puts l i vs ≡ sets l i vs
puts-sets l i [] = refl
puts-sets l i (v ∷ vs) = puts-sets (set l i v) (i + 1) vs ∙ rw add-one

pub length-puts : (l : List ℕ) (i : ℕ) (vs : List ℕ) → length (puts l i vs) ≡ length l
length-puts l i vs = rw puts-sets (length-sets l i vs)

-- one run of stores right after another
pub puts-puts : (l : List ℕ) (i : ℕ) (vs us : List ℕ) → puts (puts l i vs) (i + length vs) us ≡ puts l i (vs ++ us)
puts-puts l i [] us = rw add-zero
puts-puts l i (v ∷ vs) us = let e : i + suc (length vs) ≡ i + 1 + length vs = omega arith in rw e (puts-puts (set l i v) (i + 1) vs us)

-- a store before a run of them, and the same after it
set-puts : (l : List ℕ) (i j v : ℕ) (us : List ℕ) → i < j → puts (set l i v) j us ≡ set (puts l j us) i v
set-puts l i j v [] h = refl
set-puts l i j v (u ∷ us) h =
    ap (λ (x : List ℕ). puts x (j + 1) us) (set_comm l i j v u (λ e. omega arith)) ∙ set-puts (set l j u) i (j + 1) v us (omega arith)

-- two runs that don't meet, in either order
pub puts_comm : (l : List ℕ) (i j : ℕ) (vs us : List ℕ) → i + length vs ≤ j → puts (puts l i vs) j us ≡ puts (puts l j us) i vs
puts_comm l i j [] us h = refl
puts_comm l i j (v ∷ vs) us h = puts_comm (set l i v) (i + 1) j vs us (omega arith) ∙ ap (λ (x : List ℕ). puts x (i + 1) vs) (set-puts l i j v us (omega arith))

-- what stands before the stores, and what stands past them, is as it was
pub take-puts : (n : ℕ) (l : List ℕ) (i : ℕ) (vs : List ℕ) → n ≤ i → take n (puts l i vs) ≡ take n l
take-puts n l i [] h = refl
take-puts n l i (v ∷ vs) h = take-puts n (set l i v) (i + 1) vs (omega arith) ∙ take-set-le n l i v h

pub drop-puts : (n : ℕ) (l : List ℕ) (i : ℕ) (vs : List ℕ) → i + length vs ≤ n → drop n (puts l i vs) ≡ drop n l
drop-puts n l i [] h = refl
drop-puts n l i (v ∷ vs) h = drop-puts n (set l i v) (i + 1) vs (omega arith) ∙ drop-set-lt n l i v (omega arith)

pub get_or-puts-below : (l : List ℕ) (i : ℕ) (vs : List ℕ) (k d : ℕ) → k < i → get_or (puts l i vs) k d ≡ get_or l k d
get_or-puts-below l i vs k d h =
    sym (get_or-take i (puts l i vs) k d h) ∙ ap (λ (x : List ℕ). get_or x k d) (take-puts i l i vs (omega arith)) ∙ get_or-take i l k d h

pub get_or-puts-above : (l : List ℕ) (i : ℕ) (vs : List ℕ) (k d : ℕ) → i + length vs ≤ k → get_or (puts l i vs) k d ≡ get_or l k d
get_or-puts-above l i vs k d h =
    let e : k ≡ k + 0 = omega arith in
    ap (λ (n : ℕ). get_or (puts l i vs) n d) e ∙ sym (get_or-drop k (puts l i vs) 0 d) ∙ ap (λ (x : List ℕ). get_or x 0 d) (drop-puts k l i vs h)
    ∙ get_or-drop k l 0 d ∙ ap (λ (n : ℕ). get_or l n d) (sym e)

-- the stores in a part that holds them all
pub take-puts-inside : (n : ℕ) (l : List ℕ) (i : ℕ) (vs : List ℕ) → i + length vs ≤ n → take n (puts l i vs) ≡ puts (take n l) i vs
take-puts-inside n l i [] h = refl
take-puts-inside n l i (v ∷ vs) h = take-puts-inside n (set l i v) (i + 1) vs (omega arith) ∙ ap (λ (x : List ℕ). puts x (i + 1) vs) (take-set-lt n l i v (omega arith))

pub drop-puts-inside : (n : ℕ) (l : List ℕ) (i : ℕ) (vs : List ℕ) → drop n (puts l (n + i) vs) ≡ puts (drop n l) i vs
drop-puts-inside n l i [] = refl
drop-puts-inside n l i (v ∷ vs) =
    ap (λ (k : ℕ). drop n (puts (set l (n + i) v) k vs)) (add_assoc n i 1) ∙ drop-puts-inside n (set l (n + i) v) (i + 1) vs
    ∙ ap (λ (x : List ℕ). puts x (i + 1) vs) (drop-set-add n l i v)

-- a column, the n entries from b on: stores before it, past it, and in it
pub column-after : (n b : ℕ) (l : List ℕ) (i : ℕ) (vs : List ℕ) → i + length vs ≤ b → take n (drop b (puts l i vs)) ≡ take n (drop b l)
column-after n b l i vs h = ap (take n) (drop-puts b l i vs h)

pub column-before : (n b : ℕ) (l : List ℕ) (i : ℕ) (vs : List ℕ) → b + n ≤ i → take n (drop b (puts l i vs)) ≡ take n (drop b l)
column-before n b l i vs h =
    let e : i ≡ b + (i - b) = omega arith in
    ap (λ (k : ℕ). take n (drop b (puts l k vs))) e ∙ ap (take n) (drop-puts-inside b l (i - b) vs) ∙ take-puts n (drop b l) (i - b) vs (omega arith)

pub column-inside : (n b : ℕ) (l : List ℕ) (i : ℕ) (vs : List ℕ) → i + length vs ≤ n → take n (drop b (puts l (b + i) vs)) ≡ puts (take n (drop b l)) i vs
column-inside n b l i vs h = ap (take n) (drop-puts-inside b l i vs) ∙ take-puts-inside n (drop b l) i vs h

-- what was stored, where it fits
module _ (l : List ℕ) (i : ℕ) (vs : List ℕ) (fits : i + length vs ≤ length l) where
  -- the whole list: what stood before i, the values, what stood past them
  pub puts-eq : puts l i vs ≡ take i l ++ vs ++ drop (i + length vs) l
  puts-eq = puts-sets l i vs ∙ sets-eq vs l i fits

  pub drop-stored : drop i (puts l i vs) ≡ vs ++ drop (i + length vs) l
  drop-stored = rw (puts-eq, append_assoc (take i l) vs (drop (i + length vs) l)) (drop_at (take i l) _ i (length-take-le i l (omega arith)))

  pub get_or-stored : (k d : ℕ) → k < length vs → get_or (puts l i vs) (i + k) d ≡ get_or vs k d
  get_or-stored k d h = sym (get_or-drop i (puts l i vs) k d) ∙ ap (λ (x : List ℕ). get_or x k d) drop-stored ∙ get_or-append vs (drop (i + length vs) l) d k h

-- a run of stores at the front is an overwritten front
pub puts-front : (l vs : List ℕ) → length vs ≤ length l → puts l 0 vs ≡ overwrite vs l
unfolding overwrite
puts-front l vs h = simp zero-add at (puts-eq l 0 vs (omega arith))

pub length-overwrite : (xs l : List ℕ) → length xs ≤ length l → length (overwrite xs l) ≡ length l
length-overwrite xs l h = ap length (sym (puts-front l xs h)) ∙ length-puts l 0 xs

pub overwrite-nil : (l : List ℕ) → overwrite [] l ≡ l
unfolding overwrite
overwrite-nil l = refl

-- stores at the end of an overwritten front make it longer
pub puts-overwrite : (xs ys l : List ℕ) → length xs + length ys ≤ length l → puts (overwrite xs l) (length xs) ys ≡ overwrite (xs ++ ys) l
puts-overwrite xs ys l h =
    let e : 0 + length xs ≡ length xs = zero-add (length xs) in
    ap (λ (x : List ℕ). puts x (length xs) ys) (sym (puts-front l xs (omega arith))) ∙ ap (λ (n : ℕ). puts (puts l 0 xs) n ys) (sym e) ∙ puts-puts l 0 xs ys
    ∙ puts-front l (xs ++ ys) (simp length-append (omega arith))

-- what an overwriting covers doesn't matter
pub overwrite-cover : (xs l m : List ℕ) → drop (length xs) l ≡ drop (length xs) m → overwrite xs l ≡ overwrite xs m
unfolding overwrite
overwrite-cover xs l m e = ap (λ (x : List ℕ). xs ++ x) e

pub drop-overwrite : (xs l : List ℕ) → drop (length xs) (overwrite xs l) ≡ drop (length xs) l
unfolding overwrite
drop-overwrite xs l = drop-append_seam xs (drop (length xs) l)

-- a turn of a copy: what is left to be stored over what the turn leaves is what was left before it
pub copy_more : (d t : List ℕ) (at i : ℕ) → i < length t → puts (set d (at + i) (get_or t i 0)) (at + (i + 1)) (drop (i + 1) t) ≡ puts d (at + i) (drop i t)
copy_more d t at i h = rw (rest_at t i h, ← add_assoc at i 1)

-- the same where the bytes are in the list itself, before what is stored
pub within_more : (out₀ out : List ℕ) (from n at i : ℕ) → i < n → from + n ≤ at → at + n ≤ length out₀ → take at out ≡ take at out₀
    → puts (set out (at + i) (get_or out (from + i) 0)) (at + (i + 1)) (drop (i + 1) (take n (drop from out₀))) ≡ puts out (at + i) (drop i (take n (drop from out₀)))
within_more out₀ out from n at i h f r e =
    let v : List ℕ = take n (drop from out₀) in
    let z : length v ≡ n = length-take-le n (drop from out₀) (omega (arith, length-drop from out₀)) in
    let b : get_or out (from + i) 0 ≡ get_or v i 0 =
    sym (get_or-take at out (from + i) 0 (omega arith)) ∙ ap (λ (x : List ℕ). get_or x (from + i) 0) e ∙ get_or-take at out₀ (from + i) 0 (omega arith)
    ∙ sym (get_or-drop from out₀ i 0) ∙ sym (get_or-take n (drop from out₀) i 0 h) in
    rw b (copy_more out v at i (omega arith))

-- a turn of zeroing
pub zero_more : (l : List ℕ) (at m i : ℕ) → i < m → puts (set l (at + i) 0) (at + (i + 1)) (replicate (m - (i + 1)) 0) ≡ puts l (at + i) (replicate (m - i) 0)
zero_more l at m i h = let e : m - i ≡ suc (m - (i + 1)) = omega arith in rw (e, ← add_assoc at i 1)

pub zeros-front : (l : List ℕ) (m : ℕ) → m ≤ length l → puts l 0 (replicate m 0) ≡ overwrite (replicate m 0) l
zeros-front l m h = puts-front l (replicate m 0) (omega (arith, length-replicate {A = ℕ} m 0))

-- a part of a list that was written is a run of stores
pub put_mid-puts : (l : List ℕ) (i k : ℕ) (vs us : List ℕ) → vs ≡ us → length us ≡ k → i + k ≤ length l → put_mid i k l vs ≡ puts l i us
put_mid-puts l i k vs us e q h = rw (e, puts-eq l i us (omega arith), append_assoc (take i l) us (drop (i + length us) l), q, ← drop-drop k i l)

-- what was copied within a list is a run of stores
pub copied-puts : (d : List ℕ) (i j at n : ℕ) → i + n ≡ j → j ≤ length d → at + n ≤ length d → copy_within d i j at ≡ puts d at (take n (drop i d))
copied-puts d i j at n e h r =
    let m : j - i ≡ n = omega arith in
    let l : length (take n (drop i d)) ≡ n = length-take-le n (drop i d) (omega (arith, length-drop i d)) in
    rw (m, puts-eq d at (take n (drop i d)) (omega arith), l)

pub ruleset stores = (put_mid-puts, copied-puts)
