-- The numbers of the classes of bytes (document 01, "Lexing"): 3 to 9 are the kinds of the tokens that such a byte makes. Assumes nothing.
use Rattle.std.specs.Prelude.{ℕ, List, [], ◌∷◌}
use Rattle.rules.specs.Lexing.{Class, class, other, identifier, blank, line_end, hash, dollar, open_brace, close_brace, backslash, equals, colon, single, double}
use Rattle.scan.specs.declared.class.ByteClass.{ByteClass}
use Rattle.scan.specs.declared.class.ByteClass.TheVariants.{Other, Identifier, Blank, Equals, Colon, Single, Double, Backslash, LineEnd, Dollar, Hash, OpenBrace, CloseBrace, Past}

unfoldable pub class_number : Class → ℕ
class_number other = 0
class_number identifier = 1
class_number blank = 3
class_number equals = 4
class_number colon = 5
class_number single = 6
class_number double = 7
class_number backslash = 8
class_number line_end = 9
class_number dollar = 10
class_number hash = 11
class_number open_brace = 12
class_number close_brace = 13

-- the end of the text
abbrev pub past : ℕ
past = 15

-- the class of the first byte
unfoldable pub class_at : List ℕ → ℕ
class_at [] = past
class_at (b ∷ bs) = class_number (class b)

-- the same numbers, of the code's classes
abbrev pub number_of : ByteClass → ℕ
number_of Other = 0
number_of Identifier = 1
number_of Blank = 3
number_of Equals = 4
number_of Colon = 5
number_of Single = 6
number_of Double = 7
number_of Backslash = 8
number_of LineEnd = 9
number_of Dollar = 10
number_of Hash = 11
number_of OpenBrace = 12
number_of CloseBrace = 13
number_of Past = 15
