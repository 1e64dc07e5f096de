-- Document 01, "Records and listing": the calls exported to C. Assumes nothing.
use Rattle.std.specs.Prelude.{ℕ, true, false, List, ◌++◌, length, replicate, ltb}
use Rattle.rules.specs.Bytes.{to_little, overwrite}
use Rattle.rules.specs.Tokens.{Token}
use Rattle.rules.specs.Numbers.{Answer, detail_short, number, detail}
use Rattle.rules.specs.Reader.{Buffers, Outcome, read}

-- place and length of a name
unfoldable pub name_bytes : Token → List ℕ
name_bytes name = to_little 8 name.place ++ to_little 8 (length name.text)

-- "six 8-byte little-endian numbers: refusal, number, then place and length of each name"
unfoldable pub detail_bytes : Answer → List ℕ
detail_bytes a = to_little 8 (number a) ++ to_little 8 (detail a).value ++ name_bytes (detail a).first ++ name_bytes (detail a).second

pub record Exported : Type 0 where
  pub number : ℕ
  pub after : Buffers
  pub detail : List ℕ

unfoldable pub with_detail : Outcome → List ℕ → Exported
with_detail o lent = record { number = number o.answer; after = o.after; detail = overwrite (detail_bytes o.answer) lent }

-- "Below 48 bytes it answers 19, before all else, and touches nothing."
unfoldable pub exported_in : List ℕ → Buffers → List ℕ → Exported
exported_in text b lent = elim (ltb (length lent) 48) [
  | true ↦ record { number = number detail_short; after = b; detail = lent }
  | false ↦ with_detail (read text b) lent
]

-- the first export "has its own 16,384 entries"
abbrev pub own_entries : ℕ
own_entries = 16384

unfoldable pub exported : List ℕ → List ℕ → List ℕ → List ℕ → Exported
exported text pool output lent = exported_in text (record { workspace = replicate own_entries 0; pool = pool; output = output }) lent
