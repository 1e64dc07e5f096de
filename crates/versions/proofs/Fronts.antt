-- What stands at the front of a version. Assumes nothing.
use Prim.Native.Nat.{ℕ, ◌+◌, ◌<◌, ◌≤◌}
use mathlib.Core.Path.{◌≡◌, refl, sym}
use mathlib.Core.Bool.{Bool, true, false}
use mathlib.Core.List.{List, [], ◌∷◌}
use lib.ListN.{length, get_or, drop, drop_of_length-le}
use Rattle.std.specs.Prelude.{Some, None}
use Rattle.std.proofs.Common.{add-one, drop-cons}
use Rattle.std.specs.Char.{is_ascii_digit, is_ascii_alphabetic}
use Rattle.rules.specs.Bytes.{run, within, pick}
use Rattle.rules.specs.Versions.{is_digit, is_letter, runs}
use Rattle.rules.proofs.RunsLaws.{runs-digits, runs-letters, runs-others, runs_none}
use Rattle.versions.specs.declared.runs.Kind.{Kind}
use Rattle.versions.specs.declared.runs.Kind.TheVariants.{Letters, Digits}
use Rattle.versions.specs.Kinds.{kind_of, run_of, after}

-- std's words for the kinds of bytes
pub digit-same : (b : ℕ) → is_ascii_digit b ≡ is_digit b
unfolding is_digit within
digit-same b = refl

pub letter-same : (b : ℕ) → is_ascii_alphabetic b ≡ is_letter b
unfolding is_letter within
letter-same b = refl

-- a test stops where its run does
pub run-past : (p : ℕ → Bool) (t : List ℕ) → run p (drop (run p t) t) ≡ 0
unfolding run
run-past p [] = refl
run-past p (b ∷ bs) = go (p b) refl (run-past p bs)
  where
    go : (x : Bool) → p b ≡ x → run p (drop (run p bs) bs) ≡ 0 → run p (drop (run p (b ∷ bs)) (b ∷ bs)) ≡ 0
    go true q ih = rw (q, run) ih
    go false q ih = rw (q, run) (rw (q, run))

-- by the kind of the first byte: a run begins, or it is passed over
run-begins : (b : ℕ) (bs : List ℕ) (k : Kind) → kind_of b ≡ Some k → runs (b ∷ bs) ≡ run_of k (b ∷ bs) ∷ runs (after k (b ∷ bs))
unfolding pick
run-begins b bs k e = go (is_digit b) refl (is_letter b) refl k e
  where
    go : (x : Bool) → is_digit b ≡ x → (y : Bool) → is_letter b ≡ y → (k : Kind) → kind_of b ≡ Some k → runs (b ∷ bs) ≡ run_of k (b ∷ bs) ∷ runs (after k (b ∷ bs))
    go true p y q Digits e = runs-digits b bs p
    go true p y q Letters e = let z : Some Digits ≡ Some Letters = rw p at e in cc
    go false p true q Letters e = runs-letters b bs p q
    go false p true q Digits e = let z : Some Letters ≡ Some Digits = rw (p, q) at e in cc
    go false p false q k e = let z : None ≡ Some k = rw (p, q) at e in cc

separator : (b : ℕ) (bs : List ℕ) → kind_of b ≡ None → runs (b ∷ bs) ≡ runs bs
unfolding pick
separator b bs e = go (is_digit b) refl (is_letter b) refl
  where
    go : (x : Bool) → is_digit b ≡ x → (y : Bool) → is_letter b ≡ y → runs (b ∷ bs) ≡ runs bs
    go true p y q = let z : Some Digits ≡ None = rw p at e in cc
    go false p true q = let z : Some Letters ≡ None = rw (p, q) at e in cc
    go false p false q = runs-others b bs p q

-- the same at a place of a text
module _ (t : List ℕ) (i : ℕ) where
  pub begins_at : (k : Kind) → i < length t → Some k ≡ kind_of (get_or t i 0) → runs (drop i t) ≡ run_of k (drop i t) ∷ runs (after k (drop i t))
  begins_at k h e = rw (drop-cons t i 0) (run-begins (get_or t i 0) _ k (sym e))

  pub separates_at : i < length t → None ≡ kind_of (get_or t i 0) → runs (drop (i + 1) t) ≡ runs (drop i t)
  separates_at h e = rw (add-one, drop-cons t i 0) (sym (separator (get_or t i 0) _ (sym e)))

  pub none_from : length t ≤ i → runs (drop i t) ≡ []
  none_from h = rw (drop_of_length-le t h) runs_none
