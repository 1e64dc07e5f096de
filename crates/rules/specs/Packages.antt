-- Document 02, R-1: fields 5 and 6 as items, and the call that writes them. Assumes nothing.
use Rattle.std.specs.Prelude.{ℕ, zero, suc, Bool, false, ◌||◌, not, List, [], ◌∷◌, ◌++◌, length, take, drop, eqb, leb, ltb}
use Rattle.std.proofs.Math.Option.{none, some}
use Rattle.rules.specs.Bytes.{pick, is, run, to_little, overwrite}
use Rattle.rules.specs.Records.{record_bytes}
use Rattle.rules.specs.Listing.{front, lines_of_records}

-- "names separated by blanks or commas"
unfoldable pub is_blank : ℕ → Bool
is_blank b = is " " b || is "\t" b

unfoldable pub is_separator : ℕ → Bool
is_separator b = is_blank b || is "," b

-- "Names and versions run up to a blank, comma or one of `=`, `<`, `>`, `!`"
unfoldable pub is_word : ℕ → Bool
is_word b = not (is_separator b || is "=" b || is "<" b || is ">" b || is "!" b)

-- what comes after the bytes at the front that pass the test
unfoldable pub skip : (ℕ → Bool) → List ℕ → List ℕ
skip f l = drop (run f l) l

-- the name or version at the front
unfoldable pub word : List ℕ → List ℕ
word l = take (run is_word l) l

unfoldable pub starts_with_equals : List ℕ → Bool
starts_with_equals [] = false
starts_with_equals (b ∷ bs) = is "=" b

-- a `!` without `=`
abbrev pub alone : ℕ
alone = 7

-- `=`, `<`, `>`, `<=`, `>=` or `!=` at the front, "1 to 6 as above or 0"; "the longest operator is taken"
unfoldable pub operator_of : List ℕ → ℕ
operator_of [] = 0
operator_of (b ∷ bs) =
    let equals = starts_with_equals bs in
    pick (is "=" b) 1 (pick (is "<" b) (pick equals 4 2) (pick (is ">" b) (pick equals 5 3) (pick (is "!" b) (pick equals 6 alone) 0)))

-- how many bytes it has
unfoldable pub operator_size : ℕ → ℕ
operator_size operator = pick (leb operator 3) 1 2

pub record Item : Type 0 where
  pub name : List ℕ
  pub operator : ℕ
  pub version : List ℕ

-- what a value begins with: no item more, a malformed one, or an item and what comes after it
pub data First : Type 0 where
  nothing malformed : First
  item : Item → List ℕ → First

-- "an operator without a version" is malformed
unfoldable pub with_version : List ℕ → ℕ → List ℕ → First
with_version name operator rest =
    pick (eqb (run is_word rest) 0) malformed (item (record { name = name; operator = operator; version = word rest }) (skip is_word rest))

-- "each optionally followed by" an operator, "blanks allowed around the operator"; "a `!` without `=`" is malformed
unfoldable pub with_operator : List ℕ → List ℕ → First
with_operator name rest =
    let signed = skip is_blank rest in
    let operator = operator_of signed in
    pick (eqb operator 0) (item (record { name = name; operator = 0; version = [] }) rest)
    (pick (eqb operator alone) malformed (with_version name operator (skip is_blank (drop (operator_size operator) signed))))

-- separators: "any number and also at the ends"; an item is malformed "if it lacks its name"
unfoldable pub first_item : List ℕ → First
first_item value =
    let start = skip is_separator value in
    pick (eqb (length start) 0) nothing (pick (eqb (run is_word start) 0) malformed (with_operator (word start) (skip is_word start)))

-- all items of a value; or the index, from 0, of the first malformed one
pub data Items : Type 0 where
  items : List Item → Items
  malformed_at : ℕ → Items

unfoldable pub after : Item → Items → Items
after i (items is) = items (i ∷ is)
after i (malformed_at k) = malformed_at (suc k)

-- `fuel` is more than there are
unfoldable pub items_within : ℕ → List ℕ → Items
items_within zero value = items []
items_within (suc fuel) value = elim (first_item value) [ nothing ↦ items [] | malformed ↦ malformed_at 0 | item i rest ↦ after i (items_within fuel rest) ]

unfoldable pub items_of : List ℕ → Items
items_of value = items_within (suc (length value)) value

-- the value of a field, from records in form; empty where it is absent, so that it has no items. `fuel` is more than there are records
unfoldable pub value_within : ℕ → ℕ → List ℕ → List ℕ
value_within zero field records = []
value_within (suc fuel) field records = elim (front records) [
  | none ↦ []
  | some r ↦ pick (eqb r.kind field) r.payload (value_within fuel field r.rest)
]

unfoldable pub value_of : ℕ → List ℕ → List ℕ
value_of field records = value_within (suc (length records)) field records

-- "12 (two bytes: field, then operator ..), 13 the name, 14 the version, empty if none"
unfoldable pub item_records : ℕ → Item → List ℕ
item_records field i = record_bytes 12 (field ∷ i.operator ∷ []) ++ (record_bytes 13 i.name ++ record_bytes 14 i.version)

unfoldable pub items_records : ℕ → List Item → List ℕ
items_records field [] = []
items_records field (i ∷ is) = item_records field i ++ items_records field is

pub data Answer : Type 0 where
  accepted : ℕ → Answer  -- with the bytes written
  not_records : Answer
  malformed_item : ℕ → ℕ → Answer  -- with the field, and the item's index within it
  output_short : ℕ → Answer  -- with the bytes needed

unfoldable pub number : Answer → ℕ
number (accepted written) = 0
number not_records = 18
number (malformed_item field index) = 20
number (output_short need) = 17

-- what the call answers, and what it leaves in its output
pub record Packaged : Type 0 where
  pub answer : Answer
  pub output : List ℕ

unfoldable pub written : List ℕ → List ℕ → Packaged
written records output = pick (ltb (length output) (length records))
    (record { answer = output_short (length records); output = output })
    (record { answer = accepted (length records); output = overwrite records output })

-- "20 for the first malformed item, field 5 before 6, with field and index from 0, then 17; none writes anything"
unfoldable pub packaged : Items → Items → List ℕ → Packaged
packaged (malformed_at k) sixth output = record { answer = malformed_item 5 k; output = output }
packaged (items is) (malformed_at k) output = record { answer = malformed_item 6 k; output = output }
packaged (items is) (items js) output = written (items_records 5 is ++ items_records 6 js) output

-- "18 for the records" first: bytes that break the form, as of the listing
unfoldable pub packages : List ℕ → List ℕ → Packaged
packages records output = elim (lines_of_records records) [
  | none ↦ record { answer = not_records; output = output }
  | some lines ↦ packaged (items_of (value_of 5 records)) (items_of (value_of 6 records)) output
]

-- the exported call's detail: the answer's number, then bytes written, need or field, then the index; all that isn't listed is 0
unfoldable pub answer_number : Answer → ℕ
answer_number (accepted written) = written
answer_number not_records = 0
answer_number (malformed_item field index) = field
answer_number (output_short need) = need

unfoldable pub answer_index : Answer → ℕ
answer_index (accepted written) = 0
answer_index not_records = 0
answer_index (malformed_item field index) = index
answer_index (output_short need) = 0

unfoldable pub packages_detail : Answer → List ℕ
packages_detail a = to_little 8 (number a) ++ to_little 8 (answer_number a) ++ to_little 8 (answer_index a)

pub record ExportedPackages : Type 0 where
  pub number : ℕ
  pub output : List ℕ
  pub detail : List ℕ

-- 19 for a detail below 24 bytes, before all else; nothing is touched
unfoldable pub exported_packages : List ℕ → List ℕ → List ℕ → ExportedPackages
exported_packages records output detail = pick (ltb (length detail) 24)
    (record { number = 19; output = output; detail = detail })
    (let p = packages records output in record { number = number p.answer; output = p.output; detail = overwrite (packages_detail p.answer) detail })
