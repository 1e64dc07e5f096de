-- Document 02, R-1: how a version is cut into runs, by what stands at its front. Assumes nothing.
use Prim.Native.Nat.{ℕ, zero, suc}
use mathlib.Core.Path.{◌≡◌, refl}
use mathlib.Core.Bool.{Bool, true, false}
use mathlib.Core.List.{List, [], ◌∷◌}
use lib.ListN.{take, drop}
use Rattle.rules.specs.Bytes.{run, all}
use Rattle.rules.specs.Versions.{number, letters, is_digit, is_letter, value, cut, runs}

-- what a run still takes is left out
cut-skips : (skip : ℕ) (t : List ℕ) → cut skip t ≡ cut 0 (drop skip t)
unfolding cut
cut-skips zero [] = refl
cut-skips zero (b ∷ bs) = refl
cut-skips (suc skip) [] = refl
cut-skips (suc skip) (b ∷ bs) = cut-skips skip bs

module _ (b : ℕ) (bs : List ℕ) where
  -- a run is as long as its bytes go on
  pub runs-digits : is_digit b ≡ true → runs (b ∷ bs) ≡ number (value 0 (take (run is_digit (b ∷ bs)) (b ∷ bs))) ∷ runs (drop (run is_digit (b ∷ bs)) (b ∷ bs))
  unfolding runs cut run
  runs-digits e = rw (e, cut, run, cut-skips (run is_digit bs) bs)

  pub runs-letters : is_digit b ≡ false → is_letter b ≡ true → runs (b ∷ bs) ≡ letters (take (run is_letter (b ∷ bs)) (b ∷ bs)) ∷ runs (drop (run is_letter (b ∷ bs)) (b ∷ bs))
  unfolding runs cut run
  runs-letters e f = rw (e, f, cut, run, cut-skips (run is_letter bs) bs)

  -- all other bytes only separate
  pub runs-others : is_digit b ≡ false → is_letter b ≡ false → runs (b ∷ bs) ≡ runs bs
  unfolding runs cut
  runs-others e f = rw (e, f, cut)

pub runs_none : runs [] ≡ []
unfolding runs cut
runs_none = refl

-- the bytes of a run all pass its test
pub all-run : (f : ℕ → Bool) (t : List ℕ) → all f (take (run f t) t) ≡ true
unfolding run all
all-run f [] = refl
all-run f (b ∷ bs) = go (f b) refl (all-run f bs)
  where
    go : (x : Bool) → f b ≡ x → all f (take (run f bs) bs) ≡ true → all f (take (run f (b ∷ bs)) (b ∷ bs)) ≡ true
    go true q ih = rw (q, run) (rw q ih)
    go false q ih = rw (q, run)
