-- The listing's answers, by the form of the records and the room for their lines. Assumes nothing.
use Prim.Native.Nat.{ℕ, ◌<◌, ◌≤◌}
use mathlib.Core.Path.{◌≡◌, refl, ◌∙◌}
use mathlib.Core.Bool.{true, false}
use mathlib.Core.List.{List}
use mathlib.Core.Option.{some}
use lib.ListN.{length}
use borrow.Author.Tests.{lt-ltb, le-ltb}
use Rattle.rules.specs.Bytes.{pick}
use Rattle.rules.specs.Numbers as Rules
use Rattle.rules.specs.Listing.{lines_of_records, listing, Listed}
use Rattle.answers.specs.declared.Number.TheVariants.{Accepted, OutputShort, NotRecords}
use Rattle.answers.specs.declared.Answer.{Answer}
use Rattle.answers.specs.Tells.{Tells, plain_answer}
use Rattle.answers.proofs.Telling.{tells-plain}
use Rattle.scan.specs.Stores.{puts}
use Rattle.scan.proofs.Stores.{puts-front}
use Rattle.walker.specs.Forms.{all_formed}
use Rattle.walker.specs.Walks.{items_of}
use Rattle.walker.specs.Lines.{lines_of}
use Rattle.walker.proofs.Rules.{lines-rules}

-- what the code answers and leaves in its output is what the definition says
pub record Says (a : Answer) (output : List ℕ) (l : Listed) : Type 0 where
  pub answer : Tells a l.answer
  pub written : output ≡ l.output

module _ (records output : List ℕ) where
  abbrev lines : List ℕ
  lines = lines_of (items_of records)

  pub says-broken : all_formed (items_of records) ≡ false → Says (plain_answer NotRecords 0) output (listing records output)
  unfolding listing pick Rules.number Rules.detail Rules.no_detail
  says-broken e = rw (lines-rules records, e, listing) (record { answer = tells-plain NotRecords 0 Rules.not_records refl refl; written = refl })

  module _ (e : all_formed (items_of records) ≡ true) where
    are_lines : lines_of_records records ≡ some lines
    unfolding pick
    are_lines = lines-rules records ∙ rw e refl

    pub says-short : length output < length lines → Says (plain_answer OutputShort (length lines)) output (listing records output)
    unfolding listing Rules.number Rules.detail
    says-short h =
        rw (are_lines, lt-ltb (length output) (length lines) h, listing)
        (record { answer = tells-plain OutputShort (length lines) (Rules.output_short (length lines)) refl refl; written = refl })

    pub says-written : length lines ≤ length output → Says (plain_answer Accepted (length lines)) (puts output 0 lines) (listing records output)
    unfolding listing Rules.number Rules.detail
    says-written h =
        rw (are_lines, le-ltb (length output) (length lines) h, listing)
        (record { answer = tells-plain Accepted (length lines) (Rules.accepted (length lines)) refl refl; written = puts-front output lines h })
