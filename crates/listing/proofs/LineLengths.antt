-- Lines in their pieces, and how long they are. Assumes nothing.
use Prim.Native.Nat.{ℕ, ◌+◌}
use mathlib.Core.Path.{◌≡◌, refl}
use mathlib.Core.List.{List, [], ◌∷◌, ◌++◌}
use Rattle.std.proofs.Common.{append_assoc}
use native.Mathlib.Omega.{arith}
use lib.ListN.{length, length-append}
use Rattle.rules.specs.Bytes.{bytes}
use Rattle.rules.specs.Listing.{decimal, listing_line}
use Rattle.walker.specs.Forms.{Item, value, count, all_formed}
use Rattle.walker.specs.Walks.{content_told}
use Rattle.walker.specs.declared.form.Content.{Content}
use Rattle.walker.specs.declared.form.Content.TheVariants.{Bytes, Count}
use Rattle.walker.specs.Lines.{line_of, lines_of}

-- a number, and a blank after it
abbrev pub number_of : ℕ → List ℕ
number_of n = decimal n ++ (32 ∷ [])

pub value_line : (kind : ℕ) (payload : List ℕ) → line_of (value kind payload) ≡ number_of kind ++ (number_of (length payload) ++ (payload ++ (10 ∷ [])))
unfolding line_of listing_line bytes
value_line kind payload = simp append_assoc

pub count_line : (kind n : ℕ) → line_of (count kind n) ≡ number_of kind ++ (number_of 4 ++ (decimal n ++ (10 ∷ [])))
unfolding line_of listing_line bytes
count_line kind n = simp append_assoc

pub length_number : (n after : ℕ) → length (decimal n ++ (after ∷ [])) ≡ length (decimal n) + 1
length_number n after = length-append (decimal n) (after ∷ [])

pub length_value : (kind : ℕ) (payload : List ℕ) → length (line_of (value kind payload)) ≡ length (number_of kind) + length (number_of (length payload)) + length payload + 1
length_value kind payload = rw value_line (omega (arith, length-append (number_of kind) (number_of (length payload) ++ (payload ++ (10 ∷ []))), length-append (number_of (length payload)) (payload ++ (10 ∷ [])), length-append payload (10 ∷ [])))

pub length_count : (kind n : ℕ) → length (line_of (count kind n)) ≡ length (number_of kind) + length (number_of 4) + length (decimal n) + 1
length_count kind n = rw count_line (omega (arith, length-append (number_of kind) (number_of 4 ++ (decimal n ++ (10 ∷ []))), length-append (number_of 4) (decimal n ++ (10 ∷ [])), length-append (decimal n) (10 ∷ [])))

pub ruleset line_lengths = (length_number, length_value, length_count)

-- a record's own line comes first
pub told_lines : (kind : ℕ) (content : Content) (is : List Item) → lines_of (content_told kind content ∷ is) ≡ line_of (content_told kind content) ++ lines_of is
told_lines kind (Bytes b) is = refl
told_lines kind (Count n) is = refl

pub told_formed : (kind : ℕ) (content : Content) (is : List Item) → all_formed (content_told kind content ∷ is) ≡ all_formed is
told_formed kind (Bytes b) is = refl
told_formed kind (Count n) is = refl
