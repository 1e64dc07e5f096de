-- Laws of the first item of a value. Assumes nothing.
use Prim.Native.Nat.{ℕ, ◌<◌}
use mathlib.Core.Path.{◌≡◌, ap, sym, ◌∙◌}
use mathlib.Core.Bool.{Bool}
use mathlib.Core.List.{List, []}
use native.Mathlib.Omega.{arith}
use lib.ListN.{length, take, drop}
use lib.Seq.{length-take-le}
use borrow.Author.Tests.{eq-eqb, ne_eqb}
use Rattle.rules.specs.Bytes.{pick, run}
use Rattle.rules.specs.Packages.{nothing, malformed, item, is_blank, is_separator, is_word, skip, word, operator_of, operator_size, with_version, with_operator, first_item}
use Rattle.rules.proofs.LexingLaws.{run-le}

-- a text cut where its bytes first fail a test
abbrev pub CutBy : (ℕ → Bool) → List ℕ → List ℕ → List ℕ → Type 0
CutBy f text front rest = (front ≡ take (run f text) text) × (rest ≡ drop (run f text) text)

front-length : (f : ℕ → Bool) (text front rest : List ℕ) → CutBy f text front rest → length front ≡ run f text
front-length f text front rest c = ap length c.0 ∙ length-take-le (run f text) text (run-le f text)

module _ (value start : List ℕ) (s : start ≡ drop (run is_separator value) value) where
  pub first_none : length start ≡ 0 → nothing ≡ first_item value
  unfolding first_item skip pick
  first_none e = rw (← s, eq-eqb (length start) 0 e)

  module _ (some : length start ≡ 0 → ⊥) (name rest : List ℕ) (n : CutBy is_word start name rest) where
    pub first_nameless : length name ≡ 0 → malformed ≡ first_item value
    unfolding first_item skip pick
    first_nameless e = rw (← s, ne_eqb (length start) 0 some, eq-eqb (run is_word start) 0 (sym (front-length is_word start name rest n) ∙ e))

    module _ (named : length name ≡ 0 → ⊥) (signed : List ℕ) (b : signed ≡ drop (run is_blank rest) rest) where
      by-operator : first_item value ≡ with_operator name rest
      unfolding first_item skip word pick
      by-operator = rw (← s, ne_eqb (length start) 0 some, ne_eqb (run is_word start) 0 (λ e. named (front-length is_word start name rest n ∙ e)), ← n.0, ← n.1)

      pub first_alone : operator_of signed ≡ 7 → malformed ≡ first_item value
      unfolding with_operator skip pick
      first_alone e = rw (by-operator, ← b, e)

      pub first_plain : operator_of signed ≡ 0 → item (record { name = name; operator = 0; version = [] }) rest ≡ first_item value
      unfolding with_operator skip pick
      first_plain e = rw (by-operator, ← b, e)

      module _ (operator : ℕ) (low : 0 < operator) (high : operator < 7) (o : operator ≡ operator_of signed) (after asked : List ℕ) (a : after ≡ drop (operator_size (operator_of signed)) signed)
          (c : asked ≡ drop (run is_blank after) after) (version left : List ℕ) (v : CutBy is_word asked version left) where
        by-version : first_item value ≡ with_version name operator asked
        unfolding with_operator skip pick
        by-version = rw (by-operator, ← b, ← a, ← o, ← c, ne_eqb operator 0 (λ e. omega arith), ne_eqb operator 7 (λ e. omega arith))

        pub first_versionless : length version ≡ 0 → malformed ≡ first_item value
        unfolding with_version pick
        first_versionless e = rw (by-version, eq-eqb (run is_word asked) 0 (sym (front-length is_word asked version left v) ∙ e))

        pub first_versioned : (length version ≡ 0 → ⊥) → item (record { name = name; operator = operator; version = version }) left ≡ first_item value
        unfolding with_version word skip pick
        first_versioned e = rw (by-version, ne_eqb (run is_word asked) 0 (λ z. e (front-length is_word asked version left v ∙ z)), ← v.0, ← v.1)
