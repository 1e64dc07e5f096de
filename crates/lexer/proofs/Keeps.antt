-- A run of text that is kept byte by byte: what is left to be kept comes to the whole. Assumes nothing.
use Prim.Native.Nat.{ℕ, ◌+◌, ◌-◌, ◌≤◌, ◌<◌}
use mathlib.Core.Path.{◌≡◌, refl, ap, sym, ◌∙◌}
use mathlib.Core.Bool.{true, false}
use mathlib.Core.List.{List, [], ◌∷◌}
use native.Mathlib.Omega.{arith}
use lib.ListN.{length, take, drop, get_or, set, length-set, length-drop}
use borrow.Author.Tests.{ne_eqb}
use Rattle.rules.specs.Bytes.{pick, run}
use Rattle.rules.proofs.LexingLaws.{run-le}
use Rattle.scan.specs.Stores.{puts}
use Rattle.scan.proofs.Lists.{rest_at}
use Rattle.scan.proofs.Stores.{length-puts}
use Rattle.lexer.specs.Pieces.{is_plain}
use Rattle.lexer.specs.Inner.{KeepRoom, kept}
use Rattle.lexer.proofs.Lexemes.{run_on, run-off}

-- the run of text at place j
abbrev plain_at : List ℕ → ℕ → List ℕ
plain_at text j = take (run is_plain (drop j text)) (drop j text)

-- its first byte and the others, where there is one
plain-first : (text : List ℕ) (j : ℕ) → j < length text → is_plain (get_or text j 0) ≡ true → plain_at text j ≡ get_or text j 0 ∷ plain_at text (j + 1)
plain-first text j h t = rw (run_on is_plain text j h t, rest_at text j h)

plain-none : (text : List ℕ) (j : ℕ) → j < length text → is_plain (get_or text j 0) ≡ false → plain_at text j ≡ []
plain-none text j h t = rw (run-off is_plain text j h t)

-- at the head of the loop: the run at place i, which goes to place `used`, is kept up to place j, and goes on at place `at`
pub record Keeping (text pool₀ pool : List ℕ) (i used stop j at : ℕ) : Type 0 where
  pub here : j ≤ length text
  pub near : stop ≤ length text
  pub fits : at + (length text - j) ≤ length pool
  pub long : length pool ≡ length pool₀
  pub same_end : i + run is_plain (drop i text) ≡ j + run is_plain (drop j text)
  pub left : puts pool at (plain_at text j) ≡ puts pool₀ used (plain_at text i)

pub keep-start : (text pool : List ℕ) (i used stop : ℕ) → KeepRoom text pool i used → stop ≤ length text → Keeping text pool pool i used stop i used
keep-start text pool i used stop r h = record { here = r.here; near = h; fits = r.fits; long = refl; same_end = refl; left = refl }

module _ (text pool₀ pool : List ℕ) (i used stop j at : ℕ) (K : Keeping text pool₀ pool i used stop j at) where
  module _ (h : j < stop) where
    inside : j < length text
    inside = let n = K.near in omega arith

    pub keep-more : is_plain (get_or text j 0) ≡ true → Keeping text pool₀ (set pool at (get_or text j 0)) i used stop (j + 1) (at + 1)
    keep-more t =
        let n = run_on is_plain text j inside t in
        let m = length-set pool at (get_or text j 0) in
        record {
          here = omega (arith, inside);
          near = K.near;
          fits = omega (arith, K.fits, m, inside);
          long = m ∙ K.long;
          same_end = omega (arith, K.same_end, n);
          left = sym (ap (puts pool at) (plain-first text j inside t)) ∙ K.left;
        }

    pub keep-stop : is_plain (get_or text j 0) ≡ false → j ≡ i + run is_plain (drop i text)
    keep-stop t = let n = run-off is_plain text j inside t in omega (arith, K.same_end, n)

    pub keep_all : is_plain (get_or text j 0) ≡ false → pool ≡ puts pool₀ used (plain_at text i)
    keep_all t = sym (ap (puts pool at) (plain-none text j inside t)) ∙ K.left

  -- the rest of a long run
  module _ (end : ℕ) (d : end ≡ j + run is_plain (drop j text)) where
    rest_in : end ≤ length text
    rest_in = omega (arith, d, run-le is_plain (drop j text), length-drop j text, K.here)

    pub rest_part : j + (end - j) ≤ length text
    rest_part = omega (arith, rest_in, d)

    pub rest-fits : at + (end - j) ≤ length pool
    rest-fits = omega (arith, rest_in, K.fits)

    pub keep-end : end ≡ i + run is_plain (drop i text)
    keep-end = omega (arith, d, K.same_end)

    pub keep-rest : (pool' : List ℕ) → pool' ≡ puts pool at (take (end - j) (drop j text)) → pool' ≡ puts pool₀ used (plain_at text i)
    keep-rest pool' p = let n : end - j ≡ run is_plain (drop j text) = omega (arith, d) in p ∙ rw n K.left

pub run_long : (pool' pool : List ℕ) (used b at : ℕ) (vs : List ℕ) → pool' ≡ puts (set pool used b) at vs → length pool' ≡ length pool
run_long pool' pool used b at vs e = ap length e ∙ length-puts (set pool used b) at vs ∙ length-set pool used b

-- a piece
module _ (text pool : List ℕ) (i used : ℕ) (h : i < length text) (r : KeepRoom text pool i used) where
  -- a run: its first byte b is stored, and the others are kept
  pub next-room : (b : ℕ) → KeepRoom text (set pool used b) (i + 1) (used + 1)
  next-room b = record { here = omega arith; fits = omega (arith, r.fits, length-set pool used b) }

  pub kept_run : (end : ℕ) (pool' : List ℕ) → is_plain (get_or text i 0) ≡ true → end ≡ i + 1 + run is_plain (drop (i + 1) text)
      → pool' ≡ puts (set pool used (get_or text i 0)) (used + 1) (plain_at text (i + 1)) → pool' ≡ puts pool used (kept text 1 i (end - i))
  unfolding kept pick
  kept_run end pool' t d p =
      let n : end - i ≡ run is_plain (drop i text) = omega (arith, d, run_on is_plain text i h t) in
      let f : puts (set pool used (get_or text i 0)) (used + 1) (plain_at text (i + 1)) ≡ puts pool used (plain_at text i) = sym (ap (puts pool used) (plain-first text i h t)) in
      p ∙ f ∙ rw n

-- one lexeme
module _ (text pool : List ℕ) (used kind from len : ℕ) where
  pub kept-text : (pool' : List ℕ) → kind ≡ 1 → pool' ≡ puts pool used (take len (drop from text)) → pool' ≡ puts pool used (kept text kind from len)
  unfolding kept pick
  kept-text pool' q e = e ∙ rw q

  pub kept-none : (kind ≡ 1 → ⊥) → pool ≡ puts pool used (kept text kind from len)
  unfolding kept pick
  kept-none n = rw (ne_eqb kind 1 n)
