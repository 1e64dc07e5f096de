-- The search for a key, one key after the other. Assumes nothing.
use Prim.Native.Nat.{ℕ, suc, ◌≤◌}
use mathlib.Core.Path.{◌≡◌, refl, sym, ◌∙◌, ap}
use mathlib.Core.Bool.{Bool, true, false}
use mathlib.Core.List.{List, [], ◌∷◌}
use mathlib.Core.Option.{Option, none, some}
use native.Mathlib.Omega.{arith}
use Rattle.rules.specs.Bytes.{same}
use Rattle.rules.specs.Lines.{field, field_keys}
use Rattle.std.specs.Prelude.{cond, find, map, Some}
use Rattle.scan.proofs.Compares.{same-pointwise}
use Rattle.fields.specs.Seen.{or_zero, field_number}
use Rattle.fields.specs.Numbers.{number_of, number_or_zero, key_of, has_key}
use Rattle.fields.specs.declared.Field.{Field}
use Rattle.fields.specs.declared.Field.TheVariants.{Name, Description, Url, Version, Requires, RequiresPrivate, Conflicts, Cflags, Libs, LibsPrivate}

-- the fields have the numbers from n on
abbrev From : ℕ → List Field → Type 0
From n [] = Unit {0}
From n (f ∷ fs) = (number_of f ≡ n) × From (suc n) fs

-- what is found among them has the number that their keys give
found : (key : List ℕ) (n : ℕ) (fs : List Field) → From n fs → number_or_zero (find (λ f. has_key key f) fs) ≡ or_zero (field n (map key_of fs) key)
unfolding field or_zero
found key n [] h = refl
found key n (f ∷ fs) h = rw (same-pointwise (key_of f) key) (go (same (key_of f) key) (found key (suc n) fs h.1))
  where
    go : (b : Bool) → number_or_zero (find (λ f. has_key key f) fs) ≡ or_zero (field (suc n) (map key_of fs) key)
        → number_or_zero (cond b (Some f) (find (λ f. has_key key f) fs)) ≡ or_zero (elim b [ true ↦ some n | false ↦ field (suc n) (map key_of fs) key ])
    go true e = h.0
    go false e = e

abbrev ten : List Field
ten = Name ∷ Description ∷ Url ∷ Version ∷ Requires ∷ RequiresPrivate ∷ Conflicts ∷ Cflags ∷ Libs ∷ LibsPrivate ∷ []

pub found_in_all : (key : List ℕ) → number_or_zero (find (λ f. has_key key f) ten) ≡ field_number key
unfolding field_keys
found_in_all key = found key 1 ten (refl, (refl, (refl, (refl, (refl, (refl, (refl, (refl, (refl, (refl, tt))))))))))

-- every field's number is one of them
pub number-within : (f : Field) → (1 ≤ number_of f) × (number_of f ≤ 10)
number-within Name = (omega arith, omega arith)
number-within Description = (omega arith, omega arith)
number-within Url = (omega arith, omega arith)
number-within Version = (omega arith, omega arith)
number-within Requires = (omega arith, omega arith)
number-within RequiresPrivate = (omega arith, omega arith)
number-within Conflicts = (omega arith, omega arith)
number-within Cflags = (omega arith, omega arith)
number-within Libs = (omega arith, omega arith)
number-within LibsPrivate = (omega arith, omega arith)

-- a field that is found among keys from n on has a number from n on
found_from : (n : ℕ) (keys : List (List ℕ)) (key : List ℕ) (g : ℕ) → field n keys key ≡ some g → n ≤ g
unfolding field
found_from n [] key g e = let z : ◌≡◌ {A = ℕ} 0 1 = cc in absurd (omega arith)
found_from n (k ∷ keys) key g e = go (same k key) e (found_from (suc n) keys key g)
  where
    go : (b : Bool) → elim b [ true ↦ some n | false ↦ field (suc n) keys key ] ≡ some g → (field (suc n) keys key ≡ some g → suc n ≤ g) → n ≤ g
    go true q ih = let y : n ≡ g = cc in omega arith
    go false q ih = omega (arith, ih q)

-- what `of_key` answers, by its case
pub of_none : (key : List ℕ) → 0 ≡ field_number key → field 1 field_keys key ≡ none
unfolding or_zero
of_none key e = go (field 1 field_keys key) refl e
  where
    go : (o : Option ℕ) → field 1 field_keys key ≡ o → 0 ≡ or_zero o → field 1 field_keys key ≡ none
    go none q z = q
    go (some g) q z = absurd (omega (arith, found_from 1 field_keys key g q))

pub of_some : (key : List ℕ) (f : Field) → number_of f ≡ field_number key → field 1 field_keys key ≡ some (number_of f)
unfolding or_zero
of_some key f e = go (field 1 field_keys key) refl e
  where
    go : (o : Option ℕ) → field 1 field_keys key ≡ o → number_of f ≡ or_zero o → field 1 field_keys key ≡ some (number_of f)
    go none q z = absurd (omega (arith, number-within f))
    go (some g) q z = q ∙ ap some (sym z)
