-- The records of bytes, as a list. Assumes nothing.
use Rattle.std.specs.Prelude.{ℕ, zero, suc, List, [], ◌∷◌, length}
use Rattle.std.proofs.Math.Option.{none, some}
use Rattle.rules.specs.Listing as Rules

-- a record's kind and payload
pub record Told : Type 0 where
  pub kind : ℕ
  pub payload : List ℕ

unfoldable pub records_within : ℕ → List ℕ → List Told
records_within zero bytes = []
records_within (suc fuel) bytes = elim (Rules.front bytes) [
  | none ↦ []
  | some r ↦ record { kind = r.kind; payload = r.payload } ∷ records_within fuel r.rest
]

-- whole records from the front on
unfoldable pub records_of : List ℕ → List Told
records_of bytes = records_within (length bytes) bytes
