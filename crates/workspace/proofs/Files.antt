-- The file that a workspace holds: what follows from it follows from any file that it holds. Assumes nothing.
use Prim.Native.Nat.{ℕ, zero, suc, ◌+◌, ◌*◌, ◌<◌, ◌≤◌}
use mathlib.Core.Path.{◌≡◌, refl, ap, sym, ◌∙◌}
use mathlib.Core.Bool.{Bool, true, false}
use mathlib.Core.List.{List, ◌∷◌}
use mathlib.Core.Option.{Option, none, some}
use native.Mathlib.Omega.{arith}
use lib.ListN.{get_or}
use lib.Dec.{eqb}
use borrow.Author.Tests.{eq-eqb, ne_eqb, eqb-true, eqb-false}
use Rattle.rules.specs.Numbers.{in_field, Result, refused, ok, ◌>>=◌}
use Rattle.rules.specs.Lines.{Assignment, Field, File, field_at}
use Rattle.rules.specs.Variables.{Found, resolve_variables}
use Rattle.rules.specs.Fields.{Present, resolve_template, fields_from, resolve_fields}
use Rattle.rules.specs.Records.{records}
use Rattle.rules.specs.Reading.{records_of_file}
use Rattle.tokens.specs.Entries.{decode}
use Rattle.workspace.specs.Map.{starts_of, ends_of, field_of_entry, field_in, fields_in, file_in, Holds}

number_or : ℕ → Option Field → ℕ
number_or f none = f
number_or f (some g) = g.number

-- a given field has its own number
entry-number : (n count : ℕ) (ws pool : List ℕ) (f : ℕ) (g : Field) → field_in n count ws pool f ≡ some g → g.number ≡ f
unfolding field_in field_of_entry number_or
entry-number n count ws pool f g e = go (get_or ws (12 * n + f) 0) e
  where
    go : (k : ℕ) → field_of_entry (decode count ws pool) (starts_of n ws) (ends_of n ws) f k ≡ some g → g.number ≡ f
    go zero q = let z : ◌≡◌ {A = ℕ} 0 1 = cc in absurd (omega (arith, z))
    go (suc k) q = ap (number_or f) (sym q)

module _ (n count : ℕ) (ws pool : List ℕ) where
  -- the fields from the f-th on have none below
  none_below : (k f g : ℕ) → g < f → field_at g (fields_in n count ws pool k f) ≡ none
  unfolding fields_in field_at
  none_below zero f g h = refl
  none_below (suc k) f g h = go (field_in n count ws pool f) refl (none_below k (suc f) g (omega arith))
    where
      go : (o : Option Field) → field_in n count ws pool f ≡ o → field_at g (fields_in n count ws pool k (suc f)) ≡ none → field_at g (fields_in n count ws pool (suc k) f) ≡ none
      go none q ih = rw (q, fields_in) ih
      go (some x) q ih = rw (q, fields_in) (rw (ne_eqb g x.number (λ e. omega (arith, e, h, entry-number n count ws pool f x q)), field_at) ih)

  field-from : (k f g : ℕ) → f ≤ g → g < f + k → field_at g (fields_in n count ws pool k f) ≡ field_in n count ws pool g
  unfolding fields_in field_at
  field-from zero f g h l = absurd (omega arith)
  field-from (suc k) f g h l = go (field_in n count ws pool f) refl (eqb g f) refl (λ x y. field-from k (suc f) g x y)
    where
      go : (o : Option Field) → field_in n count ws pool f ≡ o → (b : Bool) → eqb g f ≡ b
          → (suc f ≤ g → g < suc f + k → field_at g (fields_in n count ws pool k (suc f)) ≡ field_in n count ws pool g)
          → field_at g (fields_in n count ws pool (suc k) f) ≡ field_in n count ws pool g
      go none q true p ih =
          let e : g ≡ f = eqb-true g f p in
          rw (q, fields_in) (none_below k (suc f) g (omega (arith, e)) ∙ sym (ap (λ (x : ℕ). field_in n count ws pool x) e ∙ q))
      go none q false p ih = let e : g ≡ f → ⊥ = eqb-false g f p in rw (q, fields_in) (ih (omega (arith, e)) (omega arith))
      go (some x) q true p ih =
          let e : g ≡ f = eqb-true g f p in
          let m : x.number ≡ f = entry-number n count ws pool f x q in
          rw (q, fields_in) (rw (eq-eqb g x.number (e ∙ sym m), field_at) (sym (ap (λ (y : ℕ). field_in n count ws pool y) e ∙ q)))
      go (some x) q false p ih =
          let e : g ≡ f → ⊥ = eqb-false g f p in
          let m : x.number ≡ f = entry-number n count ws pool f x q in
          rw (q, fields_in) (rw (ne_eqb g x.number (λ z. e (z ∙ m)), field_at) (ih (omega (arith, e)) (omega arith)))

-- what the fields resolve to turns on the variables, and on what each number has
same_from : (k f : ℕ) (x y : File) (vals : Found) → x.variables ≡ y.variables → ((g : ℕ) → f ≤ g → g < f + k → field_at g x.fields ≡ field_at g y.fields)
    → fields_from k f x vals ≡ fields_from k f y vals
unfolding fields_from
same_from zero f x y vals v h = refl
same_from (suc k) f x y vals v h = go (field_at f y.fields) refl (same_from k (suc f) x y vals v (λ g a b. h g (omega arith) (omega arith)))
  where
    joined : List Assignment → ℕ → Field → Result (List Present) → Result (List Present)
    joined vs i g r = resolve_template vs vals (in_field i g.key) g.value >>= λ c. r >>= λ more. ok (record { number = i; content = c } ∷ more)

    go : (o : Option Field) → field_at f y.fields ≡ o → fields_from k (suc f) x vals ≡ fields_from k (suc f) y vals → fields_from (suc k) f x vals ≡ fields_from (suc k) f y vals
    go none q ih = rw (h f (omega arith) (omega arith) ∙ q, q, fields_from) ih
    go (some g) q ih =
        rw (h f (omega arith) (omega arith) ∙ q, q, fields_from)
        (ap (λ (vs : List Assignment). joined vs f g (fields_from k (suc f) x vals)) v ∙ ap (λ (r : Result (List Present)). joined y.variables f g r) ih)

pub same-file : (x y : File) → x.variables ≡ y.variables → ((g : ℕ) → 1 ≤ g → g ≤ 10 → field_at g x.fields ≡ field_at g y.fields) → records_of_file x ≡ records_of_file y
unfolding records_of_file resolve_fields ◌>>=◌
same-file x y v h = go (resolve_variables y.variables) refl
  where
    go : (r : Result Found) → resolve_variables y.variables ≡ r → records_of_file x ≡ records_of_file y
    go (refused z) q = rw (ap resolve_variables v ∙ q, q, records_of_file, ◌>>=◌) refl
    go (ok vals) q =
        let e : fields_from 10 1 x vals ≡ fields_from 10 1 y vals = same_from 10 1 x y vals v (λ g a b. h g a (omega arith)) in
        rw (ap resolve_variables v ∙ q, q, records_of_file, ◌>>=◌) (ap (λ (r : Result (List Present)). r >>= λ ps. ok (records ps)) e)

-- any file that workspace and pool hold has the same records as the one that is decoded from them
pub held-file : (n count v : ℕ) (ws pool : List ℕ) (file : File) → Holds n count v ws pool file → records_of_file (file_in n count v ws pool) ≡ records_of_file file
unfolding file_in
held-file n count v ws pool file h = same-file (file_in n count v ws pool) file h.variables (λ g a b. field-from n count ws pool 10 1 g a (omega arith) ∙ h.fields g a b)

pub file-fields : (n count v : ℕ) (ws pool : List ℕ) (g : ℕ) → 1 ≤ g → g ≤ 10 → field_at g (file_in n count v ws pool).fields ≡ field_in n count ws pool g
unfolding file_in
file-fields n count v ws pool g a b = field-from n count ws pool 10 1 g a (omega arith)
