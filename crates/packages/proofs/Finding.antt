-- The value of a field, found among the records. Assumes nothing.
use Prim.Native.Nat.{ℕ, zero, suc, ◌<◌}
use mathlib.Core.Path.{◌≡◌, refl, sym, ◌∙◌}
use mathlib.Core.Bool.{Bool, true, false}
use mathlib.Core.List.{List}
use mathlib.Core.Option.{Option, none, some}
use native.Mathlib.Omega.{arith}
use lib.Dec.{eqb}
use lib.ListN.{length}
use Rattle.rules.specs.Bytes.{pick}
use Rattle.rules.specs.Listing.{Front, front}
use Rattle.rules.specs.Packages.{value_of}
use Rattle.rules.proofs.PackagesLaws.{value_none, value-some, value-small}
use Rattle.walker.specs.Records.{records_of}
use Rattle.walker.proofs.Heads.{front-shorter, records-none, records-some}
use Rattle.packages.specs.Found.{first_value}

picked : (a b : List ℕ) → pick true a b ≡ a
unfolding pick
picked a b = refl

left : (a b : List ℕ) → pick false a b ≡ b
unfolding pick
left a b = refl

pub value_first : (field : ℕ) (bytes : List ℕ) → first_value field (records_of bytes) ≡ value_of field bytes
value_first field bytes = go (suc (length bytes)) bytes (omega arith)
  where
    go : (f : ℕ) (bytes : List ℕ) → length bytes < f → first_value field (records_of bytes) ≡ value_of field bytes
    go zero bytes p = absurd (omega arith)
    go (suc f) bytes p = by (front bytes) refl (λ v l. go f v l)
      where
        chosen : (r : Front) → front bytes ≡ some r → (b : Bool) → eqb r.kind field ≡ b → first_value field (records_of r.rest) ≡ value_of field r.rest → first_value field (records_of bytes) ≡ value_of field bytes
        chosen r e true q ih = rw (records-some bytes r e, value-some field bytes r e, q) (sym (picked r.payload (value_of field r.rest)))
        chosen r e false q ih = rw (records-some bytes r e, value-some field bytes r e, q) (ih ∙ sym (left r.payload (value_of field r.rest)))

        by : (x : Option Front) → front bytes ≡ x → ((v : List ℕ) → length v < f → first_value field (records_of v) ≡ value_of field v) → first_value field (records_of bytes) ≡ value_of field bytes
        by none e ih = rw (records-none bytes e, value_none field bytes e) refl
        by (some r) e ih = chosen r e (eqb r.kind field) refl (ih r.rest (omega (arith, front-shorter bytes r e)))

-- the limit of every payload, for an attribute
pub ruleset values_small = (value-small)
