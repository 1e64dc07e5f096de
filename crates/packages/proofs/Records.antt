-- Records in their pieces, and how long they are. Assumes nothing.
use Prim.Native.Nat.{ℕ, ◌+◌, ◌/◌, ◌%◌}
use mathlib.Core.Path.{◌≡◌, refl}
use mathlib.Core.List.{List, [], ◌∷◌, ◌++◌}
use native.Mathlib.Omega.{arith}
use lib.ListN.{length, get_or}
use Rattle.std.specs.Int.{w16, w32, to_le_bytes}
use Rattle.rules.specs.Bytes.{to_little}
use Rattle.rules.specs.Records.{record_bytes}
use Rattle.rules.specs.Packages.{Item, item_records}
use Rattle.rules.proofs.ListingLaws.{length-record}
use Rattle.rules.proofs.PackagesLaws.{item-need}

-- numbers by std's bytes: of a length the lowest four
four_bytes : (n : ℕ) → to_little 4 n ≡ to_le_bytes w32 (n % 4294967296)
unfolding to_little
four_bytes n =
    let first : n % 256 ≡ n % 4294967296 % 256 = omega arith in
    let second : n / 256 % 256 ≡ n % 4294967296 / 256 % 256 = omega arith in
    let third : n / 256 / 256 % 256 ≡ n % 4294967296 / 65536 % 256 = omega arith in
    let fourth : n / 256 / 256 / 256 % 256 ≡ n % 4294967296 / 16777216 % 256 = omega arith in
    rw (fourth, third, second, first) refl

two_bytes : (n : ℕ) → to_little 2 n ≡ to_le_bytes w16 n
unfolding to_little
two_bytes n = refl

pub record_made : (kind : ℕ) (payload size number : List ℕ) → size ≡ to_le_bytes w32 (length payload % 4294967296) → number ≡ to_le_bytes w16 kind
    → (get_or size 0 0 ∷ get_or size 1 0 ∷ get_or size 2 0 ∷ get_or size 3 0 ∷ get_or number 0 0 ∷ get_or number 1 0 ∷ []) ++ payload ≡ record_bytes kind payload
unfolding record_bytes
record_made kind payload size number p q = rw (four_bytes (length payload), two_bytes kind, p, q) refl

pub length_record : (kind : ℕ) (payload : List ℕ) → length (record_bytes kind payload) ≡ 6 + length payload
length_record = length-record

pub item_length : (field : ℕ) (i : Item) → length (item_records field i) ≡ 20 + length i.name + length i.version
item_length = item-need

pub ruleset record_pieces = (length_record, item_length)
