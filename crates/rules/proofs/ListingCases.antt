-- Document 01, "Records and listing": cases of the listing and of the exported calls, each from the document's words. Assumes nothing.
use Prim.Native.Nat.{ℕ}
use Prim.Native.String.{String}
use mathlib.Core.Path.{◌≡◌, refl}
use mathlib.Core.List.{List, [], ◌∷◌, ◌++◌, map}
use lib.ListN.{length, replicate}
use Rattle.rules.specs.Bytes.{bytes, overwrite}
use Rattle.rules.specs.Numbers.{number, detail}
use Rattle.rules.specs.Listing.{listing, decimal}
use Rattle.rules.specs.Export.{exported_in, exported}
use Rattle.rules.proofs.Computed.{called, dirty}

-- a listing: the records, and the size of the output, which is not clean; the number, the value of its detail, and what stands at the front of the output
pub record Case : Type 0 where
  pub records : List ℕ
  pub room : ℕ
  pub number : ℕ
  pub value : ℕ
  pub output : String

abbrev lists : List ℕ → ℕ → String → Case
lists records room text = record { records = records; room = room; number = 0; value = length (bytes text); output = text }

-- 17 with the need
abbrev needs : List ℕ → ℕ → ℕ → Case
needs records room need = record { records = records; room = room; number = 17; value = need; output = "" }

-- 18, also where the output has no room
abbrev breaks : List ℕ → Case
breaks records = record { records = records; room = 3; number = 18; value = 0; output = "" }

-- a record with a short payload, written out
abbrev short : ℕ → List ℕ → List ℕ
short kind payload = length payload ∷ 0 ∷ 0 ∷ 0 ∷ kind ∷ 0 ∷ payload

-- a list's record, with so many arguments to come
abbrev counts : ℕ → ℕ → List ℕ
counts kind count = short kind (count ∷ 0 ∷ 0 ∷ 0 ∷ [])

-- a string of two bytes and a list of one argument of none
abbrev two : List ℕ
two = 2 ∷ 0 ∷ 0 ∷ 0 ∷ 1 ∷ 0 ∷ 97 ∷ 98 ∷ 4 ∷ 0 ∷ 0 ∷ 0 ∷ 8 ∷ 0 ∷ 1 ∷ 0 ∷ 0 ∷ 0 ∷ 0 ∷ 0 ∷ 0 ∷ 0 ∷ 11 ∷ 0 ∷ []

abbrev pub listings : List Case
listings =
    -- both sides of the need
    lists [] 1 ""
    ∷ lists [] 0 ""
    ∷ lists two 21 "1 2 ab\n8 4 1\n11 0 \n"
    ∷ lists two 19 "1 2 ab\n8 4 1\n11 0 \n"
    ∷ needs two 18 19
    ∷ needs two 0 19
    -- the first and the last kind of strings and of lists; a length and a kind of two digits
    ∷ lists (short 1 [] ++ short 7 (bytes "abcdefghij") ++ counts 8 0 ++ counts 10 0) 50 "1 0 \n7 10 abcdefghij\n8 4 0\n10 4 0\n"
    -- a length of two bytes, little-endian
    ∷ needs (1 ∷ 1 ∷ 0 ∷ 0 ∷ 1 ∷ 0 ∷ replicate 257 97) 263 264
    -- arguments, and a list after them
    ∷ lists (counts 8 2 ++ short 11 (bytes "a") ++ short 11 (bytes "b") ++ counts 9 1 ++ short 11 (bytes "c")) 40 "8 4 2\n11 1 a\n11 1 b\n9 4 1\n11 1 c\n"
    -- 18 before 17: lengths
    ∷ breaks (1 ∷ two)
    ∷ breaks (0 ∷ [])
    ∷ breaks (0 ∷ 0 ∷ 0 ∷ 0 ∷ 1 ∷ [])
    ∷ breaks (2 ∷ 0 ∷ 0 ∷ 0 ∷ 1 ∷ 0 ∷ 97 ∷ [])
    ∷ breaks (two ++ (0 ∷ []))
    -- kinds that there are not, or that begin nothing
    ∷ breaks (short 0 [])
    ∷ breaks (short 11 [])
    ∷ breaks (counts 11 0)
    ∷ breaks (short 12 [])
    ∷ breaks (0 ∷ 0 ∷ 0 ∷ 0 ∷ 1 ∷ 1 ∷ [])
    -- order and repeats
    ∷ breaks (short 2 [] ++ short 1 [])
    ∷ breaks (short 1 [] ++ short 1 [])
    ∷ breaks (counts 9 0 ++ counts 9 0)
    ∷ breaks (counts 8 0 ++ short 7 [])
    -- counts: their bytes, and the arguments that follow
    ∷ breaks (short 8 (0 ∷ 0 ∷ 0 ∷ []))
    ∷ breaks (short 8 (0 ∷ 0 ∷ 0 ∷ 0 ∷ 0 ∷ []))
    ∷ breaks (counts 8 1)
    ∷ breaks (counts 8 2 ++ short 11 [])
    ∷ breaks (counts 8 0 ++ short 11 [])
    ∷ breaks (counts 8 1 ++ short 11 [] ++ short 11 [])
    ∷ breaks (counts 8 1 ++ counts 9 0)
    ∷ breaks (counts 8 1 ++ short 12 [])
    ∷ breaks (short 1 [] ++ short 11 [])
    ∷ []

unfoldable pub seen : Case → List ℕ
unfolding called
seen c = let l = listing c.records (replicate c.room 252) in number l.answer ∷ (detail l.answer).value ∷ l.output

-- what is past the lines is unchanged; 17 and 18 write nothing
unfoldable pub says : Case → List ℕ
unfolding called
says c = c.number ∷ c.value ∷ overwrite (bytes c.output) (replicate c.room 252)

pub listings-say : map seen listings ≡ map says listings
unfolding seen says called
listings-say = refl

-- both sides of each digit more; a need above 32 bits has all its digits
pub decimals : map decimal (0 ∷ 9 ∷ 10 ∷ 99 ∷ 100 ∷ 14294189320 ∷ []) ≡ bytes "0" ∷ bytes "9" ∷ bytes "10" ∷ bytes "99" ∷ bytes "100" ∷ bytes "14294189320" ∷ []
unfolding called
decimals = refl

-- the exported call: number, detail, and the rest of the outcome as the reader leaves it
unfoldable pub exports : List ℕ → ℕ → List (List ℕ)
unfolding called
exports text d =
    let e = exported_in text (dirty 200 20 40) (replicate d 253) in
    (e.number ∷ []) ∷ e.detail ∷ e.after.pool ∷ e.after.output ∷ []

pub export-19 : exports (bytes "Name: a") 47 ≡ (19 ∷ []) ∷ replicate 47 253 ∷ replicate 20 251 ∷ replicate 40 252 ∷ []
unfolding exports called
export-19 = refl

-- six numbers of eight bytes; bytes past the 48th are untouched
pub export-15 : exports (bytes "a=${bc}") 50
    ≡ (15 ∷ [])
    ∷ (15 ∷ replicate 7 0 ++ replicate 8 0 ++ 1 ∷ replicate 7 0 ++ 2 ∷ replicate 7 0 ++ replicate 8 0 ++ 1 ∷ replicate 7 0 ++ 253 ∷ 253 ∷ [])
    ∷ (bytes "abc" ++ replicate 17 251) ∷ replicate 40 252 ∷ []
unfolding exports called
export-15 = refl

-- the first export has its own 16,384 entries: 1,360 bytes pass and 1,361 give 2
pub export-own : (exported (replicate 1360 35) (replicate 1360 0) [] (replicate 48 0)).number ≡ 0
unfolding called
export-own = refl

pub export-longer : (exported (replicate 1361 35) (replicate 1361 0) [] (replicate 48 0)).number ≡ 2
unfolding called
export-longer = refl

pub export-entries : (exported [] [] [] (replicate 48 0)).after.workspace ≡ replicate 16384 0
unfolding called
export-entries = refl
