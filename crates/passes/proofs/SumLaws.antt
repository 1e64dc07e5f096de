-- Sums that go on: what the code reads, and what they come to by the rules. Assumes nothing.
use Prim.Native.Nat.{ℕ, zero, suc, ◌+◌, ◌-◌, ◌≤◌, ◌<◌}
use mathlib.Core.Path.{◌≡◌, refl, sym, ◌∙◌, ap}
use mathlib.Core.List.{List}
use native.Mathlib.Numerals.{add-one}
use native.Mathlib.Omega.{arith}
use lib.ListN.{length, get_or}
use borrow.Author.Tests.{eq-eqb, ne_eqb, lt-ltb, le-ltb}
use Rattle.std.specs.Prelude.{Option, None, Some, SomeIff, Ok, Err}
use Rattle.rules.specs.Bytes.{pick}
use Rattle.rules.specs.Tokens.{Token, is_a}
use Rattle.tokens.specs.Entries.{token_at}
use Rattle.passes.specs.Sums.{top, size_of, size_in, added, advance}
use Rattle.passes.specs.declared.sums.Stop.TheVariants.{Over, Missing}

-- an entry less one, where it is not 0
added-less : (r : ℕ) (o : Option ℕ) → SomeIff o (1 ≤ r) (r - 1) → o ≡ added r
added-less zero (Some x) h = absurd (omega (arith, h.0))
added-less (suc r) (Some x) h = ap (λ (y : ℕ). Some y) (omega (arith, h.1))
added-less zero None h = refl
added-less (suc r) None h = absurd (h (omega arith))

-- what `size_at` reads
module _ (ts : List Token) (ranks lens : List ℕ) (j k : ℕ) (e : k ≡ (token_at ts j).kind) where
  pub size-dropped : k ≡ 0 → Some 0 ≡ added (size_in ts ranks lens j)
  unfolding size_of is_a pick
  size-dropped h = rw (eq-eqb (token_at ts j).kind 0 (sym e ∙ h))

  pub size-ref : (p r : ℕ) → k ≡ 2 → p ≡ get_or ranks j 0 → r ≡ get_or lens p 0 → (o : Option ℕ) → SomeIff o (1 ≤ r) (r - 1) → o ≡ added (size_in ts ranks lens j)
  unfolding size_of is_a pick
  size-ref p r h q x o y =
      let a : (token_at ts j).kind ≡ 2 = sym e ∙ h in
      added-less r o y ∙ rw (ne_eqb (token_at ts j).kind 0 (λ z. omega arith), eq-eqb (token_at ts j).kind 2 a, ← q) (ap added x)

  pub size-text : (r : ℕ) → (k ≡ 0 → ⊥) → (k ≡ 2 → ⊥) → r ≡ length (token_at ts j).text → Some r ≡ added (size_in ts ranks lens j)
  unfolding size_of is_a pick
  size-text r h h' q =
      rw (ne_eqb (token_at ts j).kind 0 (λ z. h (e ∙ z)), ne_eqb (token_at ts j).kind 2 (λ z. h' (e ∙ z))) (ap (λ (x : ℕ). Some x) q)

-- the size by what it adds
added-none : (x : ℕ) → None ≡ added x → x ≡ 0
added-none zero e = refl
added-none (suc x) e = absurd (let z : ◌≡◌ {A = ℕ} 0 1 = cc in omega arith)

added-some : (x y : ℕ) → Some y ≡ added x → x ≡ suc y
added-some zero y e = absurd (let z : ◌≡◌ {A = ℕ} 0 1 = cc in omega arith)
added-some (suc x) y e = let q : y ≡ x = cc in ap suc (sym q)

-- turns of the loop
module _ (size : ℕ → ℕ) (k to s : ℕ) where
  pub advance-end : to ≤ k → advance size k s (to - k) ≡ Ok s
  unfolding advance
  advance-end h = let e : to - k ≡ 0 = omega arith in rw e

  module _ (h : k < to) where
    more : to - k ≡ suc (to - suc k)
    more = omega arith

    pub advance-missing : None ≡ added (size k) → advance size k s (to - k) ≡ Err (Missing k s)
    unfolding advance
    advance-missing e = rw (more, added-none (size k) e, advance)

    module _ (x : ℕ) (e : Some x ≡ added (size k)) (f : s ≤ top) where
      is-size : size k ≡ suc x
      is-size = added-some (size k) x e

      pub advance-over : top - s < x → advance size k s (to - k) ≡ Err Over
      unfolding advance pick
      advance-over o = rw (more, is-size, lt-ltb top (s + x) (omega arith), advance)

      pub advance-more : x ≤ top - s → advance size k s (to - k) ≡ advance size (k + 1) (s + x) (to - (k + 1))
      unfolding advance pick
      advance-more o = rw (more, is-size, le-ltb top (s + x) (omega arith), advance, add-one)

pub ruleset sizes = (size-dropped, size-ref, size-text)
