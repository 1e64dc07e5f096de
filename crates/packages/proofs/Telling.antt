-- The call's answers, from what the values hold. Assumes nothing.
use Prim.Native.Nat.{ℕ, ◌<◌, ◌≤◌}
use mathlib.Core.Path.{◌≡◌, refl, ap, sym, ◌∙◌}
use mathlib.Core.Bool.{true, false}
use mathlib.Core.List.{List, ◌++◌}
use mathlib.Core.Option.{Option, none, some}
use native.Mathlib.Omega.{arith}
use lib.ListN.{length}
use borrow.Author.Tests.{lt-ltb, le-ltb}
use Rattle.std.specs.Prelude.{Result, Ok, Err}
use Rattle.rules.specs.Bytes.{pick}
use Rattle.rules.specs.Listing.{lines_of_records}
use Rattle.rules.specs.Packages as Rules
use Rattle.rules.specs.Packages.{Items, items, malformed_at, after, items_of, value_of, items_records, Packaged, not_records, malformed_item, output_short, accepted, written, packaged, packages}
use Rattle.scan.specs.Stores.{puts}
use Rattle.scan.proofs.Stores.{puts-front}
use Rattle.walker.specs.Forms.{is_some}
use Rattle.packages.specs.declared.field.Malformed.{Malformed}
use Rattle.packages.specs.Numbers.{field_number, both_malformed}
use Rattle.packages.specs.Entries.{entries_of, both_records}
use Rattle.packages.proofs.Entering.{entries-items}
use Rattle.packages.proofs.Fitted.{records-all}

-- what is answered and what is left in the output
pub record Says (answer : Rules.Answer) (output : List ℕ) (p : Packaged) : Type 0 where
  pub answer_is : answer ≡ p.answer
  pub output_is : output ≡ p.output

by-items : (is js : List Rules.Item) (output : List ℕ) → packaged (items is) (items js) output ≡ written (items_records 5 is ++ items_records 6 js) output
unfolding packaged
by-items is js output = refl

module _ (fifth sixth output : List ℕ) where
  all-written : both_malformed (items_of fifth) (items_of sixth) ≡ Ok tt → packaged (items_of fifth) (items_of sixth) output ≡ written (both_records fifth sixth) output
  all-written e = go (items_of fifth) refl (items_of sixth) refl
    where
      go : (r : Items) → items_of fifth ≡ r → (s : Items) → items_of sixth ≡ s → packaged (items_of fifth) (items_of sixth) output ≡ written (both_records fifth sixth) output
      go (items is) p (items js) q =
          let a = records-all 5 (entries_of fifth) is (sym (entries-items fifth) ∙ p) in
          let b = records-all 6 (entries_of sixth) js (sym (entries-items sixth) ∙ q) in
          rw (p, q, a, b) (by-items is js output)
      go (items is) p (malformed_at k) q = let z = rw (p, q) at e in let y : ◌≡◌ {A = ℕ} 0 1 = cc in absurd (omega arith)
      go (malformed_at k) p s q = let z = rw p at e in let y : ◌≡◌ {A = ℕ} 0 1 = cc in absurd (omega arith)

  pub says-short : both_malformed (items_of fifth) (items_of sixth) ≡ Ok tt → length output < length (both_records fifth sixth)
      → Says (output_short (length (both_records fifth sixth))) output (packaged (items_of fifth) (items_of sixth) output)
  unfolding written pick
  says-short e h = rw (all-written e, lt-ltb (length output) (length (both_records fifth sixth)) h) (record { answer_is = refl; output_is = refl })

  pub says-written : both_malformed (items_of fifth) (items_of sixth) ≡ Ok tt → length (both_records fifth sixth) ≤ length output
      → Says (accepted (length (both_records fifth sixth))) (puts output 0 (both_records fifth sixth)) (packaged (items_of fifth) (items_of sixth) output)
  unfolding written pick
  says-written e h = rw (all-written e, le-ltb (length output) (length (both_records fifth sixth)) h) (record { answer_is = refl; output_is = puts-front output (both_records fifth sixth) h })

same-item : {m n : Malformed} → ◌≡◌ {A = Result (Unit {0}) Malformed} (Err m) (Err n) → m ≡ n
same-item e = cc

told : {m n : Malformed} → m ≡ n → malformed_item (field_number n.field) n.index ≡ malformed_item (field_number m.field) m.index
told e = ap (λ (m : Malformed). malformed_item (field_number m.field) m.index) (sym e)

pub says-malformed : (r s : Items) (output : List ℕ) (item : Malformed) → both_malformed r s ≡ Err item → Says (malformed_item (field_number item.field) item.index) output (packaged r s output)
unfolding packaged
says-malformed (malformed_at j) s output item e = record { answer_is = told (same-item e); output_is = refl }
says-malformed (items is) (malformed_at j) output item e = record { answer_is = told (same-item e) ∙ ap (malformed_item 6) (omega arith); output_is = refl }
says-malformed (items is) (items js) output item e = let z : ◌≡◌ {A = ℕ} 0 1 = cc in absurd (omega arith)

-- the whole call
module _ (records output : List ℕ) where
  pub says-broken : is_some (lines_of_records records) ≡ false → Says not_records output (packages records output)
  unfolding packages is_some
  says-broken e = go (lines_of_records records) refl
    where
      go : (o : Option (List ℕ)) → lines_of_records records ≡ o → Says not_records output (packages records output)
      go none q = rw (q, packages) (record { answer_is = refl; output_is = refl })
      go (some text) q = let z : true ≡ false = rw q at e in let y : ◌≡◌ {A = ℕ} 0 1 = cc in absurd (omega arith)

  pub says-items : is_some (lines_of_records records) ≡ true → {fifth sixth : List ℕ} → fifth ≡ value_of 5 records → sixth ≡ value_of 6 records → {answer : Rules.Answer} {after : List ℕ}
      → Says answer after (packaged (items_of fifth) (items_of sixth) output) → Says answer after (packages records output)
  unfolding packages is_some
  says-items e {fifth} {sixth} p q {answer} {after} s = go (lines_of_records records) refl
    where
      go : (o : Option (List ℕ)) → lines_of_records records ≡ o → Says answer after (packages records output)
      go none z = let y : false ≡ true = rw z at e in let x : ◌≡◌ {A = ℕ} 0 1 = cc in absurd (omega arith)
      go (some text) z = rw (z, packages) (rw (p, q) at s)
