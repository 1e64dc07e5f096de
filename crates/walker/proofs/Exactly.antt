-- What `is_records` tells: the bytes are the records of fields in order, and no others (document 01, "Records and listing"). Assumes nothing.
use mathlib.Core.Path.{◌≡◌, refl}
use mathlib.Core.Logic.{◌↔◌}
use mathlib.Core.Bool.{true}
use mathlib.Core.List.{List}
use mathlib.Core.Option.{Option, none, some}
use Prim.Native.Nat.{ℕ}
use native.Mathlib.Omega.{arith}
use Rattle.rules.specs.Fields.{Present}
use Rattle.rules.specs.Records.{records}
use Rattle.rules.specs.Listing.{lines_of_records}
use Rattle.rules.proofs.ListingLaws.{InOrder, field_lines}
use Rattle.rules.proofs.FormLaws.{Octets, form-exactly}
use Rattle.walker.specs.Forms.{is_some}

some_is : {A : Type 0} (o : Option A) → is_some o ≡ true → (a : A) × (o ≡ some a)
unfolding is_some
some_is none e = let z : ◌≡◌ {A = ℕ} 0 1 = cc in absurd (omega arith)
some_is (some a) e = (a, refl)

pub records-exactly : (bytes : List ℕ) → Octets bytes → (is_some (lines_of_records bytes) ≡ true) ↔ ((ps : List Present) × InOrder 0 ps × (bytes ≡ records ps))
unfolding is_some lines_of_records
records-exactly bytes h = (
  λ e. let s = some_is (lines_of_records bytes) e in let x = (form-exactly bytes s.0 h).0 s.1 in (x.0, x.1, x.2),
  λ x. rw ((form-exactly bytes (field_lines x.0) h).1 (x.0, x.1, x.2, refl)) refl,
)
