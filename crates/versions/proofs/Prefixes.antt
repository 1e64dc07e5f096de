-- Runs at the front of a text, by their bytes. Assumes nothing.
use Prim.Native.Nat.{ℕ, ◌<◌, ◌≤◌}
use mathlib.Core.Path.{◌≡◌, refl, sym, ◌∙◌}
use mathlib.Core.Bool.{Bool, true, false}
use mathlib.Core.List.{List, [], ◌∷◌}
use native.Mathlib.Omega.{arith}
use lib.ListN.{length, get_or, take, drop}
use Rattle.std.specs.List.{prefix_len}
use Rattle.std.proofs.lemmas.List.Sums.{prefix_len_is}
use Rattle.rules.specs.Bytes.{run}

-- the rules' word and std's
run_prefix : (p : ℕ → Bool) (t : List ℕ) → run p t ≡ prefix_len p t
unfolding run
run_prefix p [] = refl
run_prefix p (b ∷ bs) = go (p b) refl (run_prefix p bs)
  where
    go : (x : Bool) → p b ≡ x → run p bs ≡ prefix_len p bs → run p (b ∷ bs) ≡ prefix_len p (b ∷ bs)
    go true q ih = rw (q, run) (omega (arith, ih))
    go false q ih = rw (q, run)

pub run_is : (p : ℕ → Bool) (t : List ℕ) (n : ℕ) → n ≤ length t → ((k : ℕ) → k < n → p (get_or t k 0) ≡ true) → (n < length t → p (get_or t n 0) ≡ false) → n ≡ run p t
run_is p t n h passes stops = sym (run_prefix p t ∙ prefix_len_is p t n 0 h passes stops)

-- a text cut there
pub run_cut : (p : ℕ → Bool) (t front back : List ℕ) (n : ℕ) → n ≡ run p t → front ≡ take n t → back ≡ drop n t → (front ≡ take (run p t) t) × (back ≡ drop (run p t) t)
run_cut p t front back n e x y = (rw (← e) x, rw (← e) y)
