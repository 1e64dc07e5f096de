-- `utf8::row_of` meets its contract, row by row. Assumes nothing.
use Rattle.std.proofs.Common.{sym, [], take, drop, arith}
use Rattle.rules.specs.Utf8.{rows, ◌to◌}
use Rattle.utf8.proofs.Rows.{row, no_row}
use Rattle.utf8.specs.Dues.{ranges, due_of}
use Rattle.utf8.proofs.row_of.Goals as goal

pub returns-in-224 : goal.returns-in-224
unfolding due_of ranges rows ◌to◌
returns-in-224 c = rw c.bytes.ensures (sym (row c.args.b (take 2 rows) 0xE0 0xE0 (ranges 2 0xA0 0xBF) (drop 3 rows) (omega arith) (omega arith) (omega arith)))

pub returns-in-237 : goal.returns-in-237
unfolding due_of ranges rows ◌to◌
returns-in-237 c = rw c.bytes-in-237.ensures (sym (row c.args.b (take 4 rows) 0xED 0xED (ranges 2 0x80 0x9F) (drop 5 rows) (omega arith) (omega arith) (omega arith)))

pub returns-in-240 : goal.returns-in-240
unfolding due_of ranges rows ◌to◌
returns-in-240 c = rw c.bytes-in-240.ensures (sym (row c.args.b (take 6 rows) 0xF0 0xF0 (ranges 3 0x90 0xBF) (drop 7 rows) (omega arith) (omega arith) (omega arith)))

pub returns-in-244 : goal.returns-in-244
unfolding due_of ranges rows ◌to◌
returns-in-244 c = rw c.bytes-in-244.ensures (sym (row c.args.b (take 8 rows) 0xF4 0xF4 (ranges 3 0x80 0x8F) (drop 9 rows) (omega arith) (omega arith) (omega arith)))

pub returns-in-0-to-127 : goal.returns-in-0-to-127
unfolding due_of ranges rows ◌to◌
returns-in-0-to-127 c = rw c.bytes-in-0-to-127.ensures (sym (row c.args.b (take 0 rows) 0x00 0x7F (ranges 0 0x80 0xBF) (drop 1 rows) (omega arith) (omega arith) (omega arith)))

pub returns-in-225-to-236 : goal.returns-in-225-to-236
unfolding due_of ranges rows ◌to◌
returns-in-225-to-236 c = rw c.bytes-in-225-to-236.ensures (sym (row c.args.b (take 3 rows) 0xE1 0xEC (ranges 2 0x80 0xBF) (drop 4 rows) (omega arith) (omega arith) (omega arith)))

pub returns-in-238-to-239 : goal.returns-in-238-to-239
unfolding due_of ranges rows ◌to◌
returns-in-238-to-239 c = rw c.bytes-in-238-to-239.ensures (sym (row c.args.b (take 5 rows) 0xEE 0xEF (ranges 2 0x80 0xBF) (drop 6 rows) (omega arith) (omega arith) (omega arith)))

pub returns-in-241-to-243 : goal.returns-in-241-to-243
unfolding due_of ranges rows ◌to◌
returns-in-241-to-243 c = rw c.bytes-in-241-to-243.ensures (sym (row c.args.b (take 7 rows) 0xF1 0xF3 (ranges 3 0x80 0xBF) (drop 8 rows) (omega arith) (omega arith) (omega arith)))

pub returns-in_default : goal.returns-in_default
unfolding due_of rows ◌to◌
returns-in_default c = sym (no_row c.args.b (take 1 rows) (drop 1 rows) (omega arith) (omega arith))

pub returns-in_default-2 : goal.returns-in_default-2
unfolding due_of rows ◌to◌
returns-in_default-2 c = sym (no_row c.args.b rows [] (omega arith) (omega arith))
