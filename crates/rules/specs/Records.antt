-- Document 01, "Records and listing": the records of the fields present. Assumes nothing.
use Rattle.std.specs.Prelude.{ℕ, List, [], ◌∷◌, ◌++◌, length}
use Rattle.rules.specs.Bytes.{to_little}
use Rattle.rules.specs.Fields.{Content, single, many, Present}

-- a 4-byte length of payload, a 2-byte kind, both little-endian, then the payload
unfoldable pub record_bytes : ℕ → List ℕ → List ℕ
record_bytes kind payload = to_little 4 (length payload) ++ to_little 2 kind ++ payload

-- the kind of an argument's record
abbrev pub argument_kind : ℕ
argument_kind = 11

unfoldable pub argument_records : List (List ℕ) → List ℕ
argument_records [] = []
argument_records (v ∷ vs) = record_bytes argument_kind v ++ argument_records vs

-- a list carries a 4-byte count, and so many records follow
unfoldable pub records_of : ℕ → Content → List ℕ
records_of kind (single v) = record_bytes kind v
records_of kind (many vs) = record_bytes kind (to_little 4 (length vs)) ++ argument_records vs

unfoldable pub records : List Present → List ℕ
records [] = []
records (p ∷ ps) = records_of p.number p.content ++ records ps
