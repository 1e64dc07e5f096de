-- Storing a key: the moves of the keys on either side of its place. Assumes nothing.
use Prim.Native.Nat.{ℕ, ◌+◌, ◌-◌, ◌≤◌, ◌<◌}
use mathlib.Core.Path.{◌≡◌, refl, sym, ◌∙◌, ap, ap₂}
use mathlib.Core.List.{List, [], ◌∷◌, ◌++◌, append_assoc, append-nil}
use native.Mathlib.Omega.{arith}
use borrow.Rule.Slice.PartMut.{put_mid}
use Rattle.std.specs.List.{copy_within}
use borrow.Author.Tests.{lt-ltb, le-ltb}
use lib.ListN.{length, take, drop, set, length-append, length-drop, take-append-drop, drop_of_length-le}
use lib.Seq.{drop_at, length-take-le, drop-drop, take-take, take-add}
use Rattle.rules.specs.Bytes.{pick}
use Rattle.scan.specs.Stores.{puts}
use Rattle.scan.proofs.Lists.{length_part}
use Rattle.scan.proofs.Stores.{length-puts, put_mid-puts, copied-puts, puts-puts, puts_comm, drop-puts, puts-eq}
use Rattle.workspace.specs.Map.{keys_from}
use Rattle.names.specs.Store.{with_key, first_after}

-- a store below a run of stores is a longer run
store_below : (l : List ℕ) (i x : ℕ) (us : List ℕ) → set (puts l (i + 1) us) i x ≡ puts l i (x ∷ us)
store_below l i x us = sym (puts_comm l i (i + 1) (x ∷ []) us (omega arith))

pub drop-take : (p k : ℕ) (l : List ℕ) → p ≤ length l → drop p (take (p + k) l) ≡ take k (drop p l)
drop-take p k l h = ap (drop p) (take-add p k l) ∙ drop_at (take p l) (take k (drop p l)) p (length-take-le p l h)

-- as many stores as there are entries
puts-whole : (l vs : List ℕ) → length vs ≡ length l → puts l 0 vs ≡ vs
puts-whole l vs e = puts-eq l 0 vs (omega arith) ∙ ap (λ (r : List ℕ). vs ++ r) (drop_of_length-le l {i = 0 + length vs} (omega arith)) ∙ append-nil vs

-- a part whose entries went one down, with a key behind them
down-part : (part : List ℕ) (p key : ℕ) → length part ≡ p + 1 → set (copy_within part 1 (length part) 0) p key ≡ take p (drop 1 part) ++ key ∷ []
down-part part p key l =
    let us = take p (drop 1 part) in
    let u : length us ≡ p = length-take-le p (drop 1 part) (omega (arith, length-drop 1 part)) in
    let z : 0 + length us ≡ p = omega arith in
    ap (λ (x : List ℕ). set x p key) (copied-puts part 1 (length part) 0 p (omega arith) (omega arith) (omega arith))
    ∙ ap (λ (n : ℕ). set (puts part 0 us) n key) (sym z) ∙ puts-puts part 0 us (key ∷ []) ∙ puts-whole part (us ++ key ∷ []) (omega (arith, length-append us (key ∷ [])))

-- a part whose entries went one up, with a key in front
up-part : (part : List ℕ) (m key : ℕ) → length part ≡ m + 1 → set (copy_within part 0 m 1) 0 key ≡ key ∷ take m part
up-part part m key l =
    let u : length (take m part) ≡ m = length-take-le m part (omega arith) in
    ap (λ (x : List ℕ). set x 0 key) (copied-puts part 0 m 1 m (omega arith) (omega arith) (omega arith)) ∙ store_below part 0 key (take m part) ∙ puts-whole part (key ∷ take m part) (omega arith)

-- the same of a part of the keys, put back
module _ (keys part : List ℕ) (first p key : ℕ) where
  pub went-down : 0 < first → first + p ≤ length keys
      → part ≡ copy_within (take (first + p - (first - 1)) (drop (first - 1) keys)) 1 (length (take (first + p - (first - 1)) (drop (first - 1) keys))) 0
      → put_mid (first - 1) (first + p - (first - 1)) keys (set part p key) ≡ puts keys (first - 1) (take p (drop first keys) ++ key ∷ [])
  went-down z h e =
      let a = first - 1 in
      let n : first + p - a ≡ 1 + p = omega arith in
      let k : first ≡ a + 1 = omega arith in
      let l : length (take (first + p - a) (drop a keys)) ≡ p + 1 = length_part keys a (first + p - a) (omega arith) ∙ omega arith in
      let d : take p (drop 1 (take (first + p - a) (drop a keys))) ≡ take p (drop first keys) =
      ap (λ (m : ℕ). take p (drop 1 (take m (drop a keys)))) n ∙ ap (take p) (drop-take 1 p (drop a keys) (omega (arith, length-drop a keys))) ∙ take-take p p (drop 1 (drop a keys)) (omega arith)
      ∙ ap (take p) (drop-drop 1 a keys) ∙ ap (λ (m : ℕ). take p (drop m keys)) (sym k) in
      put_mid-puts keys a (first + p - a) (set part p key) (take p (drop first keys) ++ key ∷ [])
      (ap (λ (x : List ℕ). set x p key) e ∙ down-part (take (first + p - a) (drop a keys)) p key l ∙ ap (λ (us : List ℕ). us ++ key ∷ []) d)
      (omega (arith, length-append (take p (drop first keys)) (key ∷ []), length_part keys first p h)) (omega arith)

  pub went-up : (count : ℕ) → p ≤ count → first + count < length keys
      → part ≡ copy_within (take (first + count + 1 - (first + p)) (drop (first + p) keys)) 0 (count - p) 1
      → put_mid (first + p) (first + count + 1 - (first + p)) keys (set part 0 key) ≡ puts keys (first + p) (key ∷ take (count - p) (drop (first + p) keys))
  went-up count q h e =
      let a = first + p in
      let m = count - p in
      let l : length (take (first + count + 1 - a) (drop a keys)) ≡ m + 1 = length_part keys a (first + count + 1 - a) (omega arith) ∙ omega arith in
      put_mid-puts keys a (first + count + 1 - a) (set part 0 key) (key ∷ take m (drop a keys))
      (ap (λ (x : List ℕ). set x 0 key) e ∙ up-part (take (first + count + 1 - a) (drop a keys)) m key l ∙ ap (λ (us : List ℕ). key ∷ us) (take-take m (first + count + 1 - a) (drop a keys) (omega arith)))
      (omega (arith, length_part keys a m (omega arith))) (omega arith)

-- stores of what stands there change nothing
puts-own : (ws : List ℕ) (i k : ℕ) → i + k ≤ length ws → puts ws i (take k (drop i ws)) ≡ ws
puts-own ws i k h =
    let l : length (take k (drop i ws)) ≡ k = length_part ws i k h in
    puts-eq ws i (take k (drop i ws)) (omega arith) ∙ ap₂ (λ (x y : List ℕ). x ++ y) (sym (take-add i k ws)) (ap (λ (n : ℕ). drop (i + n) ws) l) ∙ take-append-drop (i + k) ws

-- either side that moves leaves the keys with one more
module _ (first v p key : ℕ) (ws : List ℕ) (room : first + v ≤ length ws) (h : p ≤ v) where
  before-key : take p (keys_from first v ws) ≡ take p (drop first ws)
  before-key = take-take p v (drop first ws) h

  after-key : drop p (keys_from first v ws) ≡ take (v - p) (drop (first + p) ws)
  after-key =
      let e : v ≡ p + (v - p) = omega arith in
      ap (λ (z : ℕ). drop p (take z (drop first ws))) e ∙ drop-take p (v - p) (drop first ws) (omega (arith, length-drop first ws)) ∙ ap (take (v - p)) (drop-drop p first ws)

  keys-up : (w : List ℕ) → w ≡ puts ws (first + p) (key ∷ take (v - p) (drop (first + p) ws)) → w ≡ puts ws first (with_key p key (keys_from first v ws))
  keys-up w e =
      let us = take p (drop first ws) in
      let vs = key ∷ take (v - p) (drop (first + p) ws) in
      let l : length us ≡ p = length_part ws first p (omega arith) in
      e ∙ ap₂ (λ (x : List ℕ) (n : ℕ). puts x (first + n) vs) (sym (puts-own ws first p (omega arith))) (sym l) ∙ puts-puts ws first us vs
      ∙ ap₂ (λ (x y : List ℕ). puts ws first (x ++ key ∷ y)) (sym before-key) (sym after-key)

  keys-down : (w : List ℕ) → 0 < first → w ≡ puts ws (first - 1) (take p (drop first ws) ++ key ∷ []) → w ≡ puts ws (first - 1) (with_key p key (keys_from first v ws))
  keys-down w q e =
      let us = take p (drop first ws) ++ key ∷ [] in
      let vs = take (v - p) (drop (first + p) ws) in
      let l : length us ≡ p + 1 = omega (arith, length-append (take p (drop first ws)) (key ∷ []), length_part ws first p (omega arith)) in
      let n : first - 1 + length us ≡ first + p = omega arith in
      let o : take (v - p) (drop (first + p) w) ≡ vs = ap (λ (x : List ℕ). take (v - p) (drop (first + p) x)) e ∙ ap (take (v - p)) (drop-puts (first + p) ws (first - 1) us (omega arith)) in
      let m : length w ≡ length ws = ap length e ∙ length-puts ws (first - 1) us in
      sym (puts-own w (first + p) (v - p) (omega arith)) ∙ ap (puts w (first + p)) o ∙ ap₂ (λ (x : List ℕ) (i : ℕ). puts x i vs) e (sym n) ∙ puts-puts ws (first - 1) us vs
      ∙ ap (puts ws (first - 1)) (append_assoc (take p (drop first ws)) (key ∷ []) vs)
      ∙ ap₂ (λ (x y : List ℕ). puts ws (first - 1) (x ++ key ∷ y)) (sym before-key) (sym after-key)

  pub down-puts : (w : List ℕ) → 0 < first → p < v - p → w ≡ puts ws (first - 1) (take p (drop first ws) ++ key ∷ [])
      → (first - 1 ≡ first_after first v p) × (w ≡ puts ws (first_after first v p) (with_key p key (keys_from first v ws)))
  unfolding pick
  down-puts w q t e = rw (lt-ltb p (v - p) t) (refl, keys-down w q e)

  pub up-puts : (w : List ℕ) → v - p ≤ p → w ≡ puts ws (first + p) (key ∷ take (v - p) (drop (first + p) ws))
      → (first ≡ first_after first v p) × (w ≡ puts ws (first_after first v p) (with_key p key (keys_from first v ws)))
  unfolding pick
  up-puts w t e = rw (le-ltb p (v - p) t) (refl, keys-up w e)
