-- Document 01, "Records and listing": what the program `pclist` prints, by cases from the document's words. Assumes nothing.
use Prim.Native.Nat.{ℕ}
use mathlib.Core.Path.{◌≡◌, refl}
use mathlib.Core.List.{List, [], ◌∷◌, ◌++◌, map}
use lib.ListN.{replicate}
use Rattle.rules.specs.Bytes.{bytes}
use Rattle.rules.specs.Numbers.{ended_after_key, accepted, too_long, workspace_short, pool_short, not_utf8, refusal, output_short, not_records, detail_short}
use Rattle.rules.specs.Pclist.{pc_line, pclist}
use Rattle.rules.proofs.Computed.{called}

-- the first line: the need is 0 unless the number is 0 or 17
pub first-lines : map pc_line (accepted 7 ∷ too_long ∷ workspace_short ∷ pool_short ∷ not_utf8 ∷ refusal ended_after_key ∷ output_short 12 ∷ not_records ∷ detail_short ∷ [])
    ≡ bytes "pc 0 7\n" ∷ bytes "pc 1 0\n" ∷ bytes "pc 2 0\n" ∷ bytes "pc 3 0\n" ∷ bytes "pc 4 0\n" ∷ bytes "pc 9 0\n" ∷ bytes "pc 17 12\n" ∷ bytes "pc 18 0\n" ∷ bytes "pc 19 0\n" ∷ []
unfolding called
first-lines = refl

pub prints-nothing-read : pclist [] ≡ bytes "pc 0 0\n"
unfolding called
prints-nothing-read = refl

pub prints-refusal : pclist (bytes "a=${b}") ≡ bytes "pc 15 0\n"
unfolding called
prints-refusal = refl

pub prints-longest : pclist (replicate 1360 35) ≡ bytes "pc 0 0\n"
unfolding called
prints-longest = refl

pub prints-too-long : pclist (replicate 5000 35) ≡ bytes "pc 2 0\n"
unfolding called
prints-too-long = refl

-- `a` has 64 bytes and each later name twice those of the one before it: `j` has 32,768
abbrev nine : List ℕ
nine = bytes "a=aaaaaaaaaaaaaaaaaaaaaaaaaaaaaaaaaaaaaaaaaaaaaaaaaaaaaaaaaaaaaaaa\nb=${a}${a}\nc=${b}${b}\nd=${c}${c}\ne=${d}${d}\nf=${e}${e}\ng=${f}${f}\nh=${g}${g}\ni=${h}${h}\nj=${i}${i}\n"

-- the values of all ten, one after another: 65,472 bytes
abbrev joined : List ℕ
joined = bytes "${j}${i}${h}${g}${f}${e}${d}${c}${b}${a}"

-- a value of 65,531 bytes: its record is one byte longer than the output
pub prints-need : pclist (nine ++ bytes "Name: " ++ joined ++ replicate 59 120) ≡ bytes "pc 17 65537\n"
unfolding called
prints-need = refl

-- a value of 65,528 bytes: its record fits, and its line is one byte longer than the listing's output
pub prints-listing-need : pclist (nine ++ bytes "Name: " ++ joined ++ replicate 56 120) ≡ bytes "pc 17 65537\n"
unfolding called
prints-listing-need = refl
