-- Laws of the entries of a value. Assumes nothing.
use Prim.Native.Nat.{ℕ, zero, suc, ◌+◌, ◌*◌, ◌<◌, ◌≤◌}
use mathlib.Core.Path.{◌≡◌, refl, ap, sym, ◌∙◌}
use mathlib.Core.List.{List, [], ◌∷◌}
use native.Mathlib.Omega.{arith}
use lib.ListN.{length, length-append}
use Rattle.std.specs.Prelude.{Err}
use Rattle.rules.specs.Bytes.{pick, run}
use Rattle.rules.specs.Variables.{limit}
use Rattle.rules.specs.Packages as Rules
use Rattle.rules.specs.Packages.{First, nothing, malformed, item, first_item, items, malformed_at, after, items_of, item_records, skip}
use Rattle.rules.proofs.PackagesLaws.{cut_of, items-nothing, items-malformed, items-item, item-need}
use Rattle.packages.specs.declared.field.Field.{Field}
use Rattle.packages.specs.Numbers.{malformed_from}
use Rattle.packages.specs.Entries.{Entry, whole, broken, entries_within, entries_of, items_in, records_in, both_records, broken_from}

shorter : (value : List ℕ) (i : Rules.Item) (rest : List ℕ) → first_item value ≡ item i rest → length rest < length value
shorter value i rest e = let c = cut_of value i rest e in omega (arith, c.fits, c.sound.some_name)

module _ (fuel : ℕ) (value : List ℕ) where
  within-nothing : first_item value ≡ nothing → entries_within (suc fuel) value ≡ []
  unfolding entries_within
  within-nothing e = rw (e, entries_within) refl

  within-malformed : first_item value ≡ malformed → entries_within (suc fuel) value ≡ broken ∷ []
  unfolding entries_within
  within-malformed e = rw (e, entries_within) refl

  within-item : {i : Rules.Item} {rest : List ℕ} → first_item value ≡ item i rest → entries_within (suc fuel) value ≡ whole i ∷ entries_within fuel rest
  unfolding entries_within
  within-item e = rw (e, entries_within) refl

-- enough fuel is enough
within_same : (f g : ℕ) (value : List ℕ) → length value < f → length value < g → entries_within f value ≡ entries_within g value
within_same zero g value p q = absurd (omega arith)
within_same (suc f) zero value p q = absurd (omega arith)
within_same (suc f) (suc g) value p q = go (first_item value) refl (λ v a b. within_same f g v a b)
  where
    go : (x : First) → first_item value ≡ x → ((v : List ℕ) → length v < f → length v < g → entries_within f v ≡ entries_within g v) → entries_within (suc f) value ≡ entries_within (suc g) value
    go nothing e ih = within-nothing f value e ∙ sym (within-nothing g value e)
    go malformed e ih = within-malformed f value e ∙ sym (within-malformed g value e)
    go (item i rest) e ih = let l = shorter value i rest e in within-item f value e ∙ ap (λ (x : List Entry). whole i ∷ x) (ih rest (omega (arith, l)) (omega (arith, l))) ∙ sym (within-item g value e)

-- the entries, by what the value begins with
pub entries-none : (value : List ℕ) → nothing ≡ first_item value → entries_of value ≡ []
unfolding entries_of
entries-none value e = within-nothing (length value) value (sym e)

pub entries-broken : (value : List ℕ) → malformed ≡ first_item value → entries_of value ≡ broken ∷ []
unfolding entries_of
entries-broken value e = within-malformed (length value) value (sym e)

pub entries-item : (value : List ℕ) (i : Rules.Item) (rest : List ℕ) → item i rest ≡ first_item value → entries_of value ≡ whole i ∷ entries_of rest
unfolding entries_of
entries-item value i rest e =
    within-item (length value) value (sym e) ∙ ap (λ (x : List Entry). whole i ∷ x) (within_same (length value) (suc (length rest)) rest (shorter value i rest (sym e)) (omega arith))

-- no bytes, no entries
pub entries-empty : entries_of [] ≡ []
unfolding first_item pick skip run
entries-empty = entries-none [] refl

-- they are the rules' items
pub entries-items : (value : List ℕ) → items_of value ≡ items_in (entries_of value)
entries-items value = go (suc (length value)) value (omega arith)
  where
    go : (f : ℕ) (value : List ℕ) → length value < f → items_of value ≡ items_in (entries_of value)
    go zero value p = absurd (omega arith)
    go (suc f) value p = by (first_item value) refl (λ v l. go f v l)
      where
        by : (x : First) → first_item value ≡ x → ((v : List ℕ) → length v < f → items_of v ≡ items_in (entries_of v)) → items_of value ≡ items_in (entries_of value)
        by nothing e ih = rw (items-nothing value e, entries-none value (sym e)) refl
        by malformed e ih = rw (items-malformed value e, entries-broken value (sym e)) refl
        by (item i rest) e ih = rw (items-item value i rest e, entries-item value i rest (sym e), ih rest (omega (arith, shorter value i rest e))) refl

-- each is of a byte or more
pub entries-few : (value : List ℕ) → length (entries_of value) ≤ length value
entries-few value = go (suc (length value)) value (omega arith)
  where
    go : (f : ℕ) (value : List ℕ) → length value < f → length (entries_of value) ≤ length value
    go zero value p = absurd (omega arith)
    go (suc f) [] p = omega (arith, ap length entries-empty)
    go (suc f) (b ∷ bs) p = by (first_item (b ∷ bs)) refl (λ v l. go f v l)
      where
        by : (x : First) → first_item (b ∷ bs) ≡ x → ((v : List ℕ) → length v < f → length (entries_of v) ≤ length v) → length (entries_of (b ∷ bs)) ≤ length (b ∷ bs)
        by nothing e ih = rw (entries-none (b ∷ bs) (sym e)) (omega arith)
        by malformed e ih = rw (entries-broken (b ∷ bs) (sym e)) (omega arith)
        by (item i rest) e ih = let l = shorter (b ∷ bs) i rest e in rw (entries-item (b ∷ bs) i rest (sym e)) (omega (arith, l, ih rest (omega (arith, l))))

-- what is malformed, one item on
pub broken-on : (before : ℕ) (i : Rules.Item) (r : Rules.Items) → broken_from before (after i r) ≡ broken_from (before + 1) r
unfolding after
broken-on before i (items is) = refl
broken-on before i (malformed_at k) = ap (λ (n : ℕ). Err n) (omega arith)

-- the same with its field
pub malformed-on : (field : Field) (before : ℕ) (i : Rules.Item) (r : Rules.Items) → malformed_from field before (after i r) ≡ malformed_from field (before + 1) r
unfolding after
malformed-on field before i (items is) = refl
malformed-on field before i (malformed_at k) = ap (λ (n : ℕ). Err (record { field = field; index = n })) (omega arith)

-- at most 21 bytes for each byte of the value
pub records-few : (field : ℕ) (value : List ℕ) → length (records_in field (entries_of value)) ≤ 21 * length value
records-few field value = go (suc (length value)) value (omega arith)
  where
    go : (f : ℕ) (value : List ℕ) → length value < f → length (records_in field (entries_of value)) ≤ 21 * length value
    go zero value p = absurd (omega arith)
    go (suc f) value p = by (first_item value) refl (λ v l. go f v l)
      where
        by : (x : First) → first_item value ≡ x → ((v : List ℕ) → length v < f → length (records_in field (entries_of v)) ≤ 21 * length v) → length (records_in field (entries_of value)) ≤ 21 * length value
        by nothing e ih = rw (entries-none value (sym e)) (omega arith)
        by malformed e ih = rw (entries-broken value (sym e)) (omega arith)
        by (item i rest) e ih =
            let c = cut_of value i rest e in
            rw (entries-item value i rest (sym e))
            (omega (arith, c.fits, c.sound.some_name, ih rest (omega (arith, shorter value i rest e)), length-append (item_records field i) (records_in field (entries_of rest)), item-need field i))

-- so that a counter counts them
pub both_few : (fifth sixth : List ℕ) → length fifth ≤ limit → length sixth ≤ limit → length (both_records fifth sixth) < 18446744073709551616
unfolding limit
both_few fifth sixth h g = omega (arith, records-few 5 fifth, records-few 6 sixth, length-append (records_in 5 (entries_of fifth)) (records_in 6 (entries_of sixth)))
