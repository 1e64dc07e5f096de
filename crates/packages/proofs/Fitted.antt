-- Laws of records that fit an output, and of the records of both fields one after another. Assumes nothing.
use Prim.Native.Nat.{ℕ, ◌+◌, ◌≤◌}
use mathlib.Core.Path.{◌≡◌, refl, ap, sym, ◌∙◌}
use mathlib.Core.List.{List, [], ◌∷◌, ◌++◌}
use native.Mathlib.Omega.{arith}
use lib.ListN.{length, length-append}
use Rattle.std.specs.Prelude.{Ok}
use Rattle.rules.specs.Packages as Rules
use Rattle.rules.specs.Packages.{Items, items, malformed_at, after, items_of, items_records}
use Rattle.scan.specs.Stores.{puts}
use Rattle.scan.proofs.Stores.{puts-puts, length-puts}
use Rattle.packages.specs.Numbers.{both_malformed}
use Rattle.packages.specs.Entries.{Entry, whole, broken, entries_of, items_in, records_in, both_records}
use Rattle.packages.specs.Items.{records_of, Fitting}
use Rattle.packages.proofs.Entering.{entries-items}

-- where no item is malformed, all records are pushed
after-items : (i : Rules.Item) (r : Items) (is : List Rules.Item) → after i r ≡ items is → (rest : List Rules.Item) × (r ≡ items rest) × (is ≡ i ∷ rest)
unfolding after
after-items i (items js) is e = let z : i ∷ js ≡ is = cc in (js, refl, sym z)
after-items i (malformed_at k) is e = let z : ◌≡◌ {A = ℕ} 0 1 = cc in absurd (omega arith)

pub records-all : (field : ℕ) (es : List Entry) (is : List Rules.Item) → items_in es ≡ items is → records_in field es ≡ items_records field is
unfolding items_records
records-all field [] [] e = refl
records-all field [] (i ∷ is) e = let z : ◌≡◌ {A = List Rules.Item} [] (i ∷ is) = cc in cc
records-all field (whole i ∷ es) is e =
    let r = after-items i (items_in es) is e in
    rw (r.2) (ap (λ (l : List ℕ). Rules.item_records field i ++ l) (records-all field es r.0 r.1))
records-all field (broken ∷ es) is e = let z : ◌≡◌ {A = ℕ} 0 1 = cc in absurd (omega arith)

-- of a value whose items are these
module _ (field : ℕ) (value : List ℕ) (is : List Rules.Item) (e : items_of value ≡ items is) where
  pub records_are : records_in field (entries_of value) ≡ items_records field is
  records_are = records-all field (entries_of value) is (sym (entries-items value) ∙ e)

  pub records_told : records_of field (items_of value) ≡ records_in field (entries_of value)
  unfolding records_of
  records_told = ap (records_of field) e ∙ sym records_are

-- what fits is pushed
module _ (field : ℕ) (value output : List ℕ) (at : ℕ) (f : Fitting field (items_of value) output at) where
  pub fitting_told : records_of field (items_of value) ≡ records_in field (entries_of value)
  fitting_told = records_told field value f.list f.are

  pub fitting_room : at + length (records_in field (entries_of value)) ≤ length output
  fitting_room = omega (arith, f.fits, ap length (records_are field value f.list f.are))

-- both fields
pub record BothItems (fifth sixth : List ℕ) : Type 0 where
  pub first : List Rules.Item
  pub second : List Rules.Item
  pub first_are : items_of fifth ≡ items first
  pub second_are : items_of sixth ≡ items second

pub both-items : (fifth sixth : List ℕ) → both_malformed (items_of fifth) (items_of sixth) ≡ Ok tt → BothItems fifth sixth
both-items fifth sixth e = go (items_of fifth) refl (items_of sixth) refl
  where
    go : (r : Items) → items_of fifth ≡ r → (s : Items) → items_of sixth ≡ s → BothItems fifth sixth
    go (items is) p (items js) q = record { first = is; second = js; first_are = p; second_are = q }
    go (items is) p (malformed_at k) q = let z = rw (p, q) at e in let y : ◌≡◌ {A = ℕ} 0 1 = cc in absurd (omega arith)
    go (malformed_at k) p s q = let z = rw p at e in let y : ◌≡◌ {A = ℕ} 0 1 = cc in absurd (omega arith)

module _ (fifth sixth output : List ℕ) (e : both_malformed (items_of fifth) (items_of sixth) ≡ Ok tt) (room : length (both_records fifth sixth) ≤ length output) where
  b : BothItems fifth sixth
  b = both-items fifth sixth e

  fifth-told : records_of 5 (items_of fifth) ≡ records_in 5 (entries_of fifth)
  fifth-told = records_told 5 fifth b.first b.first_are

  sixth-told : records_of 6 (items_of sixth) ≡ records_in 6 (entries_of sixth)
  sixth-told = records_told 6 sixth b.second b.second_are

  lengths : length (records_of 5 (items_of fifth)) + length (records_of 6 (items_of sixth)) ≤ length output
  lengths = omega (arith, ap length fifth-told, ap length sixth-told, length-append (records_in 5 (entries_of fifth)) (records_in 6 (entries_of sixth)))

  pub fifth-fits : Fitting 5 (items_of fifth) output 0
  fifth-fits = record { list = b.first; are = b.first_are; fits = omega (arith, lengths, ap length (records_are 5 fifth b.first b.first_are), ap length fifth-told) }

  module _ (middle : List ℕ) (at : ℕ) (stored : middle ≡ puts output 0 (records_of 5 (items_of fifth))) (next : at ≡ 0 + length (records_of 5 (items_of fifth))) where
    pub sixth-fits : Fitting 6 (items_of sixth) middle at
    sixth-fits = record {
      list = b.second;
      are = b.second_are;
      fits = omega (arith, lengths, next, ap length (records_are 6 sixth b.second b.second_are), ap length sixth-told, ap length stored, length-puts output 0 (records_of 5 (items_of fifth)));
    }

    pub both-stored : (last : List ℕ) → last ≡ puts middle at (records_of 6 (items_of sixth)) → last ≡ puts output 0 (both_records fifth sixth)
    both-stored last s =
        s ∙ ap (λ (l : List ℕ). puts l at (records_of 6 (items_of sixth))) stored ∙ ap (λ (i : ℕ). puts (puts output 0 (records_of 5 (items_of fifth))) i (records_of 6 (items_of sixth))) next
        ∙ puts-puts output 0 (records_of 5 (items_of fifth)) (records_of 6 (items_of sixth))
        ∙ ap (λ (l : List ℕ). puts output 0 (l ++ records_of 6 (items_of sixth))) fifth-told
        ∙ ap (λ (l : List ℕ). puts output 0 (records_in 5 (entries_of fifth) ++ l)) sixth-told
