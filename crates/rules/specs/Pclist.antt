-- Document 01, "Records and listing": what the program `pclist` prints. Assumes nothing.
use Rattle.std.specs.Prelude.{ℕ, List, ◌++◌, take, replicate}
use Rattle.std.proofs.Math.Option.{Option, none, some}
use Rattle.rules.specs.Bytes.{bytes}
use Rattle.rules.specs.Numbers.{Answer, accepted, too_long, workspace_short, pool_short, not_utf8, refusal, output_short, not_records, detail_short, number}
use Rattle.rules.specs.Reader.{Outcome, read}
use Rattle.rules.specs.Listing.{Listed, listing, decimal}
use Rattle.rules.specs.Export.{own_entries}

-- "`pc`, the number, and the need"
unfoldable pub first_line : ℕ → ℕ → List ℕ
first_line number need = bytes "pc " ++ decimal number ++ bytes " " ++ decimal need ++ bytes "\n"

-- "0 unless the number is 0 or 17"
unfoldable pub need_of : Answer → ℕ
need_of (accepted written) = written
need_of too_long = 0
need_of workspace_short = 0
need_of pool_short = 0
need_of not_utf8 = 0
need_of (refusal r) = 0
need_of (output_short need) = need
need_of not_records = 0
need_of detail_short = 0

unfoldable pub pc_line : Answer → List ℕ
pc_line a = first_line (number a) (need_of a)

-- the bytes written, where the answer is 0
unfoldable pub bytes_written : Answer → Option ℕ
bytes_written (accepted written) = some written
bytes_written too_long = none
bytes_written workspace_short = none
bytes_written pool_short = none
bytes_written not_utf8 = none
bytes_written (refusal r) = none
bytes_written (output_short need) = none
bytes_written not_records = none
bytes_written detail_short = none

-- "then the listing"; "If the listing refuses, `pc 17` and the listing's need stand alone."
unfoldable pub with_listing : Answer → Listed → List ℕ
with_listing a l = elim (bytes_written l.answer) [ some written ↦ pc_line a ++ take written l.output | none ↦ pc_line l.answer ]

unfoldable pub printed : Outcome → List ℕ
printed o = elim (bytes_written o.answer) [
  | some written ↦ with_listing o.answer (listing (take written o.after.output) (replicate 65536 0))
  | none ↦ pc_line o.answer
]

-- "reads standard input up to 1,361 bytes"; "prepares 16,384 workspace entries at zero"; "Record and listing buffers are 65,536 bytes"
unfoldable pub pclist : List ℕ → List ℕ
pclist input = printed (read (take 1361 input) (record { workspace = replicate own_entries 0; pool = replicate 1361 0; output = replicate 65536 0 }))
