-- The listing takes whatever the reader writes (document 01, "Records and listing"): never 18, and 17 exactly where its own output is short. Assumes nothing.
use Prim.Native.Nat.{ℕ, ◌<◌, ◌≤◌}
use mathlib.Core.Path.{◌≡◌}
use mathlib.Core.List.{List}
use mathlib.Core.Option.{some}
use lib.ListN.{length}
use borrow.Author.Tests.{lt-ltb, le-ltb}
use Rattle.rules.specs.Bytes.{overwrite}
use Rattle.rules.specs.Numbers as Rules
use Rattle.rules.specs.Reading.{reading}
use Rattle.rules.specs.Listing.{lines_of_records, listing, Listed}
use Rattle.rules.proofs.RecordsLaws.{reading-listed}
use Rattle.answers.specs.declared.Answer.{Answer}
use Rattle.answers.specs.Tells.{number_of}
use Rattle.listing.proofs.Answers.{Says}

-- the number and the value of an answer, and what is left in the output
pub record Gave (a : Answer) (after : List ℕ) (number value : ℕ) (output : List ℕ) : Type 0 where
  pub is_number : number_of a.number ≡ number
  pub is_value : a.detail.value ≡ value
  pub written : after ≡ output

gave : (a : Answer) (after : List ℕ) (l : Listed) → Says a after l → Gave a after (Rules.number l.answer) (Rules.detail l.answer).value l.output
gave a after l s = record { is_number = s.answer.is_number; is_value = s.answer.is_value; written = s.written }

-- What `listing` may answer, and leave in its output, on the records of a text that the reader accepts
pub reader-listed : (input records output : List ℕ) → length input < 65536 → reading input ≡ Rules.ok records → (a : Answer) (after : List ℕ) → Says a after (listing records output)
    → (shown : List ℕ) × (lines_of_records records ≡ some shown)
    × (length shown ≤ length output → Gave a after 0 (length shown) (overwrite shown output))
    × (length output < length shown → Gave a after 17 (length shown) output)
unfolding listing Rules.number Rules.detail Rules.details
reader-listed input records output l e a after s =
    let x = reading-listed input records l e in (
      x.0,
      x.1,
      λ h. rw (x.1, le-ltb (length output) (length x.0) h, listing) at (gave a after (listing records output) s),
      λ h. rw (x.1, lt-ltb (length output) (length x.0) h, listing) at (gave a after (listing records output) s),
    )
