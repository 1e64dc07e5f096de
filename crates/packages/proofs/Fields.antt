-- The value that is cut into items is the field's own: of all records in form, and so of whatever the reader writes. Assumes nothing.
use Prim.Native.Nat.{ℕ, ◌<◌, ◌≤◌, ◌^◌}
use mathlib.Core.Path.{◌≡◌, refl, ap, ◌∙◌}
use mathlib.Core.Bool.{false}
use mathlib.Core.List.{List, [], ◌∷◌, ◌++◌, append_assoc}
use mathlib.Core.Option.{some}
use native.Mathlib.Omega.{arith}
use lib.Dec.{eqb}
use lib.ListN.{length}
use borrow.Author.Tests.{ne_eqb}
use Rattle.rules.specs.Bytes.{pick, to_little, from_little}
use Rattle.rules.specs.Numbers.{ok}
use Rattle.rules.specs.Variables.{limit}
use Rattle.rules.specs.Fields.{Content, single, many, Present}
use Rattle.rules.specs.Records.{record_bytes, argument_records, records_of, records}
use Rattle.rules.specs.Reading.{reading}
use Rattle.rules.specs.Listing.{front, lines_of_records}
use Rattle.rules.specs.Packages.{value_of}
use Rattle.rules.proofs.ListingLaws.{length-little, front-record, AllSmall, Shape, InOrder}
use Rattle.rules.proofs.RecordsLaws.{reading-in-order, reading-listed}
use Rattle.rules.proofs.PackagesLaws.{value_none, value-some}

-- what a string field carries
abbrev pub string_of : Content → List ℕ
string_of (single v) = v
string_of (many vs) = []

-- what the field of this number carries; nothing where it is absent
abbrev pub carried : ℕ → List Present → List ℕ
carried field [] = []
carried field (p ∷ ps) = pick (eqb p.number field) (string_of p.content) (carried field ps)

module _ (field : ℕ) (low : field ≤ 7) where
  nothing-there : value_of field [] ≡ []
  unfolding front from_little
  nothing-there = value_none field [] refl

  record-there : (kind : ℕ) (payload rest : List ℕ) → kind < 256 ^ 2 → length payload ≤ limit → value_of field (record_bytes kind payload ++ rest) ≡ pick (eqb kind field) payload (value_of field rest)
  record-there kind payload rest k l = value-some field (record_bytes kind payload ++ rest) (record { kind = kind; payload = payload; rest = rest }) (front-record kind payload rest k l)

  other-there : (kind : ℕ) (payload rest : List ℕ) → 7 < kind → kind < 256 ^ 2 → length payload ≤ limit → value_of field (record_bytes kind payload ++ rest) ≡ value_of field rest
  unfolding pick
  other-there kind payload rest h k l = rw (ne_eqb kind field (λ e. omega arith)) at (record-there kind payload rest k l)

  arguments-there : (vs : List (List ℕ)) (rest : List ℕ) → AllSmall vs → value_of field (argument_records vs ++ rest) ≡ value_of field rest
  unfolding argument_records
  arguments-there [] rest s = refl
  arguments-there (v ∷ vs) rest s =
      ap (value_of field) (append_assoc (record_bytes 11 v) (argument_records vs) rest)
      ∙ other-there 11 v (argument_records vs ++ rest) (omega arith) (omega arith) s.0
      ∙ arguments-there vs rest s.1

  four : (n : ℕ) → length (to_little 4 n) ≤ limit
  unfolding limit
  four n = omega (arith, length-little 4 n)

  -- the value of a string field is what it carries
  pub value_is : (last : ℕ) (ps : List Present) → InOrder last ps → value_of field (records ps) ≡ carried field ps
  unfolding records records_of pick
  value_is last [] s = nothing-there
  value_is last (p ∷ ps) s = go p.content s.1 (value_is p.number ps s.2)
    where
      go : (c : Content) → Shape p.number c → value_of field (records ps) ≡ carried field ps → value_of field (records_of p.number c ++ records ps) ≡ pick (eqb p.number field) (string_of c) (carried field ps)
      go (single v) t ih = record-there p.number v (records ps) (omega arith) t.1 ∙ ap (pick (eqb p.number field) v) ih
      go (many vs) t ih =
          let head = record_bytes p.number (to_little 4 (length vs)) in
          let e : eqb p.number field ≡ false = ne_eqb p.number field (λ z. omega arith) in
          rw e (
          ap (value_of field) (append_assoc head (argument_records vs) (records ps))
          ∙ other-there p.number (to_little 4 (length vs)) (argument_records vs ++ records ps) t.0 (omega arith) (four (length vs))
          ∙ arguments-there vs (records ps) t.3 ∙ ih
          )

-- Of the records of a text that the reader accepts: never 18, and each value is the field's
pub reader-values : (input output : List ℕ) → length input < 65536 → reading input ≡ ok output
    → (ps : List Present) × (output ≡ records ps) × (value_of 5 output ≡ carried 5 ps) × (value_of 6 output ≡ carried 6 ps) × ((shown : List ℕ) × (lines_of_records output ≡ some shown))
reader-values input output l e =
    let x = reading-in-order input output l e in
    let y = reading-listed input output l e in
    (x.0, x.2, ap (value_of 5) x.2 ∙ value_is 5 (omega arith) 0 x.0 x.1, ap (value_of 6) x.2 ∙ value_is 6 (omega arith) 0 x.0 x.1, (y.0, y.1))
