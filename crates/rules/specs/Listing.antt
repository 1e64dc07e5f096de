-- Document 01, "Records and listing": records as lines. Assumes nothing.
use Rattle.std.specs.Prelude.{ℕ, zero, suc, ◌+◌, ◌/◌, ◌%◌, true, false, ◌&&◌, List, [], ◌∷◌, ◌++◌, length, take, drop, ltb, leb, eqb}
use Rattle.std.proofs.Math.Option.{Option, none, some}
use Rattle.rules.specs.Bytes.{bytes, pick, from_little, overwrite}
use Rattle.rules.specs.Numbers.{Answer, accepted, output_short, not_records}
use Rattle.rules.specs.Lines.{is_string}
use Rattle.rules.specs.Variables.{limit}
use Rattle.rules.specs.Records.{argument_kind}

-- a number in decimal; `most` is more than its digits
unfoldable pub digits : ℕ → ℕ → List ℕ
digits zero n = []
digits (suc most) n = elim (ltb n 10) [ true ↦ (48 + n) ∷ [] | false ↦ digits most (n / 10) ++ ((48 + n % 10) ∷ []) ]

unfoldable pub decimal : ℕ → List ℕ
decimal n = digits (suc n) n

-- "kind, length of payload, payload, one blank between, LF after"
unfoldable pub listing_line : ℕ → ℕ → List ℕ → List ℕ
listing_line kind size payload = decimal kind ++ bytes " " ++ decimal size ++ bytes " " ++ payload ++ bytes "\n"

-- What a record may be, by its kind, after a field of kind `last` with `due` arguments to come: an argument, a string, a list; or none of these
pub data Form : Type 0 where
  argument string list wrong : Form

unfoldable pub form : ℕ → ℕ → ℕ → Form
form last (suc due) kind = elim (eqb kind argument_kind) [ true ↦ argument | false ↦ wrong ]
form last zero kind = elim (ltb last kind) [
  | false ↦ wrong
  | true ↦ elim (is_string kind) [ true ↦ string | false ↦ elim (leb kind 10) [ true ↦ list | false ↦ wrong ] ]
]

unfoldable pub prefixed : List ℕ → Option (List ℕ) → Option (List ℕ)
prefixed xs none = none
prefixed xs (some ys) = some (xs ++ ys)

-- one less
unfoldable pub less : ℕ → ℕ
less zero = zero
less (suc n) = n

-- the record at the front, where one stands there whole, and what comes after it
pub record Front : Type 0 where
  pub kind : ℕ
  pub payload : List ℕ
  pub rest : List ℕ

unfoldable pub front : List ℕ → Option Front
front records =
    let size = from_little (take 4 records) in
    elim (leb (6 + size) (length records) && leb size limit) [
      | true ↦ some (record { kind = from_little (take 2 (drop 4 records)); payload = take size (drop 6 records); rest = drop (6 + size) records })
      | false ↦ none
    ]

-- The lines of the records; `fuel` is more than there are. None, where they break the form
unfoldable pub listing_lines : ℕ → ℕ → ℕ → List ℕ → Option (List ℕ)
listing_lines zero last due records = none
listing_lines (suc fuel) last due records = elim (eqb (length records) 0) [
  | true ↦ pick (eqb due 0) (some []) none
  | false ↦ elim (front records) [
    | none ↦ none
    | some r ↦ elim (form last due r.kind) [
      | wrong ↦ none
      | argument ↦ prefixed (listing_line r.kind (length r.payload) r.payload) (listing_lines fuel last (less due) r.rest)
      | string ↦ prefixed (listing_line r.kind (length r.payload) r.payload) (listing_lines fuel r.kind 0 r.rest)
      | list ↦ elim (eqb (length r.payload) 4) [
        | false ↦ none
        | true ↦ prefixed (listing_line r.kind 4 (decimal (from_little r.payload))) (listing_lines fuel r.kind (from_little r.payload) r.rest)
      ]
    ]
  ]
]

unfoldable pub lines_of_records : List ℕ → Option (List ℕ)
lines_of_records records = listing_lines (suc (length records)) 0 0 records

-- what the listing answers, and what it leaves in its output
pub record Listed : Type 0 where
  pub answer : Answer
  pub output : List ℕ

unfoldable pub listing : List ℕ → List ℕ → Listed
listing records output = elim (lines_of_records records) [
  | none ↦ record { answer = not_records; output = output }
  | some text ↦ elim (ltb (length output) (length text)) [
    | true ↦ record { answer = output_short (length text); output = output }
    | false ↦ record { answer = accepted (length text); output = overwrite text output }
  ]
]
