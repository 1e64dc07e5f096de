-- Laws of the listing: it reads back what the reader writes. Assumes nothing.
use Prim.Native.Nat.{ℕ, zero, suc, ◌+◌, ◌^◌, ◌/◌, ◌-◌, ◌<◌, ◌≤◌}
use mathlib.Core.Path.{◌≡◌, refl, ap, ◌∙◌}
use mathlib.Core.Bool.{false}
use mathlib.Core.List.{List, [], ◌∷◌, ◌++◌, append_assoc}
use mathlib.Core.Option.{Option, some}
use native.Mathlib.Omega.{arith}
use native.Mathlib.Nat.{zero-add, suc-add}
use lib.ListN.{length, take, drop, length-append}
use lib.Seq.{take_at, drop_at}
use lib.Dec.{eqb}
use borrow.Author.Tests.{le-leb, lt-leb, lt-ltb, ne_eqb}
use Rattle.rules.specs.Bytes.{pick, to_little, from_little}
use Rattle.rules.specs.Lines.{is_string}
use Rattle.rules.specs.Variables.{limit}
use Rattle.rules.specs.Fields.{Content, single, many, Present}
use Rattle.rules.specs.Records.{record_bytes, argument_records, records_of, records}
use Rattle.rules.specs.Listing.{decimal, listing_line, form, prefixed, less, front, listing_lines}

pub length-little : (k n : ℕ) → length (to_little k n) ≡ k
unfolding to_little
length-little zero n = refl
length-little (suc k) n = ap suc (length-little k (n / 256))

pub big-little : (k n : ℕ) → n < 256 ^ k → from_little (to_little k n) ≡ n
unfolding to_little from_little
big-little zero n h = omega arith
big-little (suc k) n h = let e : from_little (to_little k (n / 256)) ≡ n / 256 = big-little k (n / 256) (omega arith) in omega arith

small : limit < 256 ^ 4
unfolding limit
small = omega arith

four : 4 ≤ limit
unfolding limit
four = omega arith

front-is : (bytes payload rest : List ℕ) (size kind : ℕ) → from_little (take 4 bytes) ≡ size → from_little (take 2 (drop 4 bytes)) ≡ kind → take size (drop 6 bytes) ≡ payload
    → drop (6 + size) bytes ≡ rest → 6 + size ≤ length bytes → size ≤ limit → front bytes ≡ some (record { kind = kind; payload = payload; rest = rest })
unfolding front
front-is bytes payload rest size kind a b c d e f =
    rw (le-leb (6 + from_little (take 4 bytes)) (length bytes) (rw a e), le-leb (from_little (take 4 bytes)) limit (rw a f), front) (rw (a, b, c, d) refl)

pub length-record : (kind : ℕ) (payload : List ℕ) → length (record_bytes kind payload) ≡ 6 + length payload
unfolding record_bytes to_little
length-record kind payload = omega arith

-- a record at the front
pub front-record : (kind : ℕ) (payload rest : List ℕ) → kind < 256 ^ 2 → length payload ≤ limit → front (record_bytes kind payload ++ rest) ≡ some (record { kind = kind; payload = payload; rest = rest })
unfolding record_bytes to_little
front-record kind payload rest h l =
    front-is (record_bytes kind payload ++ rest) payload rest (length payload) kind
    (big-little 4 (length payload) (omega (arith, small)))
    (big-little 2 kind h)
    (take_at payload rest (length payload) refl)
    (drop_at (record_bytes kind payload) rest (6 + length payload) (length-record kind payload))
    (omega (arith, length-append (record_bytes kind payload) rest, length-record kind payload))
    l

some_bytes : (kind : ℕ) (payload rest : List ℕ) → eqb (length (record_bytes kind payload ++ rest)) 0 ≡ false
some_bytes kind payload rest =
    ne_eqb (length (record_bytes kind payload ++ rest)) 0 (λ e. omega (arith, length-append (record_bytes kind payload) rest, length-record kind payload))

lines-argument : (fuel last due : ℕ) (v rest : List ℕ) → length v ≤ limit
    → listing_lines (suc fuel) last (suc due) (record_bytes 11 v ++ rest) ≡ prefixed (listing_line 11 (length v) v) (listing_lines fuel last due rest)
unfolding listing_lines form less
lines-argument fuel last due v rest l = rw (some_bytes 11 v rest, front-record 11 v rest (omega arith) l, listing_lines) refl

lines-string : (fuel last kind : ℕ) (v rest : List ℕ) → last < kind → kind ≤ 7 → length v ≤ limit
    → listing_lines (suc fuel) last 0 (record_bytes kind v ++ rest) ≡ prefixed (listing_line kind (length v) v) (listing_lines fuel kind 0 rest)
unfolding listing_lines form is_string
lines-string fuel last kind v rest h k l = rw (some_bytes kind v rest, front-record kind v rest (omega arith) l, lt-ltb last kind h, le-leb kind 7 k, listing_lines) refl

lines-list : (fuel last kind count : ℕ) (rest : List ℕ) → last < kind → 7 < kind → kind ≤ 10 → count < 256 ^ 4
    → listing_lines (suc fuel) last 0 (record_bytes kind (to_little 4 count) ++ rest) ≡ prefixed (listing_line kind 4 (decimal count)) (listing_lines fuel kind count rest)
unfolding listing_lines form is_string
lines-list fuel last kind count rest h k m l =
    rw (
      some_bytes kind (to_little 4 count) rest,
      front-record kind (to_little 4 count) rest (omega arith) (rw length-little (omega (arith, four))),
      lt-ltb last kind h,
      lt-leb kind 7 k,
      le-leb kind 10 m,
      length-little 4 count,
      listing_lines,
    ) (rw (big-little 4 count l) refl)

-- the lines of the fields present
unfoldable pub argument_lines : List (List ℕ) → List ℕ
argument_lines [] = []
argument_lines (v ∷ vs) = listing_line 11 (length v) v ++ argument_lines vs

unfoldable pub content_lines : ℕ → Content → List ℕ
content_lines kind (single v) = listing_line kind (length v) v
content_lines kind (many vs) = listing_line kind 4 (decimal (length vs)) ++ argument_lines vs

unfoldable pub field_lines : List Present → List ℕ
field_lines [] = []
field_lines (p ∷ ps) = content_lines p.number p.content ++ field_lines ps

-- what the reader writes: fields in order, strings before lists, values within the limit
abbrev pub AllSmall : List (List ℕ) → Type 0
AllSmall [] = Unit {0}
AllSmall (v ∷ vs) = (length v ≤ limit) × AllSmall vs

abbrev pub Shape : ℕ → Content → Type 0
Shape kind (single v) = (kind ≤ 7) × (length v ≤ limit)
Shape kind (many vs) = (7 < kind) × (kind ≤ 10) × (length vs < 256 ^ 4) × AllSmall vs

abbrev pub InOrder : ℕ → List Present → Type 0
InOrder last [] = Unit {0}
InOrder last (p ∷ ps) = (last < p.number) × Shape p.number p.content × InOrder p.number ps

prefixed-some : (a b : List ℕ) (r : Option (List ℕ)) → r ≡ some b → prefixed a r ≡ some (a ++ b)
unfolding prefixed
prefixed-some a b r e = rw e refl

arguments-read : (vs : List (List ℕ)) (fuel last : ℕ) (rest shown : List ℕ) → AllSmall vs → listing_lines fuel last 0 rest ≡ some shown
    → listing_lines (length vs + fuel) last (length vs) (argument_records vs ++ rest) ≡ some (argument_lines vs ++ shown)
unfolding argument_records argument_lines
arguments-read [] fuel last rest shown s e = rw zero-add e
arguments-read (v ∷ vs) fuel last rest shown s e =
    rw (suc-add, append_assoc (record_bytes 11 v) (argument_records vs) rest, append_assoc (listing_line 11 (length v) v) (argument_lines vs) shown)
    (lines-argument (length vs + fuel) last (length vs) v (argument_records vs ++ rest) s.0 ∙ prefixed-some _ _ _ (arguments-read vs fuel last rest shown s.1 e))

counted : Content → ℕ
counted (single v) = 0
counted (many vs) = length vs

content-read : (kind : ℕ) (c : Content) (fuel last : ℕ) (rest shown : List ℕ) → last < kind → Shape kind c → listing_lines fuel kind 0 rest ≡ some shown
    → listing_lines (suc (counted c + fuel)) last 0 (records_of kind c ++ rest) ≡ some (content_lines kind c ++ shown)
unfolding records_of content_lines counted
content-read kind (single v) fuel last rest shown h s e =
    rw zero-add (lines-string fuel last kind v rest h s.0 s.1 ∙ prefixed-some (listing_line kind (length v) v) shown (listing_lines fuel kind 0 rest) e)
content-read kind (many vs) fuel last rest shown h s e =
    rw (append_assoc (record_bytes kind (to_little 4 (length vs))) (argument_records vs) rest, append_assoc (listing_line kind 4 (decimal (length vs))) (argument_lines vs) shown)
    (lines-list (length vs + fuel) last kind (length vs) (argument_records vs ++ rest) h s.0 s.1 s.2
    ∙ prefixed-some (listing_line kind 4 (decimal (length vs))) (argument_lines vs ++ shown) (listing_lines (length vs + fuel) kind (length vs) (argument_records vs ++ rest)) (arguments-read vs fuel kind rest shown s.3 e))

-- fuel for the records, with k to spare
fuel_for : List Present → ℕ → ℕ
fuel_for [] k = suc k
fuel_for (p ∷ ps) k = suc (counted p.content + fuel_for ps k)

lines_none : (k last : ℕ) → listing_lines (suc k) last 0 [] ≡ some []
unfolding listing_lines pick
lines_none k last = refl

records-read : (ps : List Present) (last k : ℕ) → InOrder last ps → listing_lines (fuel_for ps k) last 0 (records ps) ≡ some (field_lines ps)
unfolding fuel_for records field_lines
records-read [] last k s = lines_none k last
records-read (p ∷ ps) last k s = content-read p.number p.content (fuel_for ps k) last (records ps) (field_lines ps) s.0 s.1 (records-read ps p.number k s.2)

fuel-is : (ps : List Present) (k : ℕ) → fuel_for ps k ≡ fuel_for ps 0 + k
unfolding fuel_for
fuel-is [] k = omega arith
fuel-is (p ∷ ps) k = omega (arith, fuel-is ps k)

arguments-length : (vs : List (List ℕ)) → length vs ≤ length (argument_records vs)
unfolding argument_records
arguments-length [] = omega arith
arguments-length (v ∷ vs) = simp (length-append, length-record) (omega (arith, arguments-length vs))

content-length : (kind : ℕ) (c : Content) → suc (counted c) ≤ length (records_of kind c)
unfolding records_of counted
content-length kind (single v) = simp length-record (omega arith)
content-length kind (many vs) = simp (length-append, length-record) (omega (arith, arguments-length vs))

fuel-le : (ps : List Present) → fuel_for ps 0 ≤ suc (length (records ps))
unfolding fuel_for records
fuel-le [] = omega arith
fuel-le (p ∷ ps) = simp length-append (omega (arith, fuel-le ps, content-length p.number p.content))

-- the listing of what the reader writes is never refused for its form, and has a line for each record
pub listing-reads : (ps : List Present) → InOrder 0 ps → listing_lines (suc (length (records ps))) 0 0 (records ps) ≡ some (field_lines ps)
listing-reads ps s =
    let k = suc (length (records ps)) - fuel_for ps 0 in
    let e : suc (length (records ps)) ≡ fuel_for ps k = omega (arith, fuel-is ps k, fuel-le ps) in
    rw e (records-read ps 0 k s)
