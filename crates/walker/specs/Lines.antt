-- Items as lines (document 01, "Records and listing"). Assumes nothing.
use Rattle.std.specs.Prelude.{ℕ, List, [], ◌∷◌, ◌++◌, length}
use Rattle.rules.specs.Listing.{decimal, listing_line}
use Rattle.walker.specs.Forms.{Item, value, count, broken}

unfoldable pub line_of : Item → List ℕ
line_of (value kind payload) = listing_line kind (length payload) payload
line_of (count kind n) = listing_line kind 4 (decimal n)
line_of broken = []

-- the lines before bytes that break the form
abbrev pub lines_of : List Item → List ℕ
lines_of [] = []
lines_of (value kind payload ∷ is) = line_of (value kind payload) ++ lines_of is
lines_of (count kind n ∷ is) = line_of (count kind n) ++ lines_of is
lines_of (broken ∷ is) = []
