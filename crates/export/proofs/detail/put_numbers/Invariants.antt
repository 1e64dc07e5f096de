-- `export::detail::put_numbers`: so far the numbers before the i-th are stored. Assumes nothing.
use Rattle.std.proofs.Common.{◌≡◌, take}
use Rattle.rules.specs.Bytes.{overwrite}
use Rattle.export.specs.Details.{numbers_bytes}
use Rattle.export.proofs.detail.put_numbers.Given as goal

abbrev pub invariant-loop-i : goal.invariant-loop-i
invariant-loop-i l = l.detail ≡ overwrite (numbers_bytes (take l.i l.numbers)) l.initial.detail
