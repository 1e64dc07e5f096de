-- Laws of the exported call for packages. Assumes nothing.
use Prim.Native.Nat.{ℕ, ◌<◌, ◌≤◌}
use mathlib.Core.Path.{◌≡◌, refl, ap, sym, ◌∙◌}
use mathlib.Core.List.{List, [], ◌∷◌, append_assoc, append-nil}
use lib.ListN.{length}
use borrow.Author.Tests.{lt-ltb, le-ltb}
use Rattle.rules.specs.Bytes.{pick, to_little, overwrite}
use Rattle.rules.specs.Packages as Rules
use Rattle.rules.specs.Packages.{number, answer_number, answer_index, packages_detail, packages, exported_packages}
use Rattle.export.specs.Details.{numbers_bytes}
use Rattle.export.specs.Packages.{ExportsPackages}

detail_numbers : (a : Rules.Answer) → numbers_bytes (number a ∷ answer_number a ∷ answer_index a ∷ []) ≡ packages_detail a
unfolding packages_detail
detail_numbers a =
    rw append-nil (sym (append_assoc (to_little 8 (number a)) (to_little 8 (answer_number a)) (to_little 8 (answer_index a))))

module _ (records out det : List ℕ) where
  pub packages-short : (r : ℕ) → length det < 24 → r ≡ 19 → ExportsPackages records out det out det r
  unfolding exported_packages pick
  packages-short r h e =
      let q = lt-ltb (length det) 24 h in
      record { is_number = rw q e; is_output = rw q refl; is_detail = rw q refl }

  -- what the code tells of an answer is the rules' number and detail
  pub packages-told : {out' det' : List ℕ} {a : Rules.Answer} {n value index : ℕ} → 24 ≤ length det → a ≡ (packages records out).answer → out' ≡ (packages records out).output
      → n ≡ number a → value ≡ answer_number a → index ≡ answer_index a → det' ≡ overwrite (numbers_bytes (n ∷ value ∷ index ∷ [])) det → ExportsPackages records out det out' det' n
  unfolding exported_packages pick
  packages-told {out'} {det'} {a} {n} {value} {index} h e o p v i d =
      let q = le-ltb (length det) 24 h in
      record {
        is_number = rw (q, ← e) p;
        is_output = rw q o;
        is_detail = rw (q, ← e) (d ∙ rw (p, v, i) (ap (λ (l : List ℕ). overwrite l det) (detail_numbers a)));
      }
