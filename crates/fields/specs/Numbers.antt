-- Fields by their numbers. Assumes nothing.
use Rattle.std.specs.Prelude.{ℕ, Bool, List, Option, Some, None, nat_eq}
use Rattle.std.specs.Cmp.Lexicographic.{pointwise}
use Rattle.rules.specs.Bytes.{bytes}
use Rattle.fields.specs.declared.Field.{Field}
use Rattle.fields.specs.declared.Field.TheVariants.{Name, Description, Url, Version, Requires, RequiresPrivate, Conflicts, Cflags, Libs, LibsPrivate}

-- document 01 numbers the fields from 1 to 10
abbrev pub number_of : Field → ℕ
number_of Name = 1
number_of Description = 2
number_of Url = 3
number_of Version = 4
number_of Requires = 5
number_of RequiresPrivate = 6
number_of Conflicts = 7
number_of Cflags = 8
number_of Libs = 9
number_of LibsPrivate = 10

-- 0 for none
abbrev pub number_or_zero : Option Field → ℕ
number_or_zero None = 0
number_or_zero (Some f) = number_of f

-- the key that gives the field
abbrev pub key_of : Field → List ℕ
key_of Name = bytes "Name"
key_of Description = bytes "Description"
key_of Url = bytes "URL"
key_of Version = bytes "Version"
key_of Requires = bytes "Requires"
key_of RequiresPrivate = bytes "Requires.private"
key_of Conflicts = bytes "Conflicts"
key_of Cflags = bytes "Cflags"
key_of Libs = bytes "Libs"
key_of LibsPrivate = bytes "Libs.private"

-- the key is the field's
abbrev pub has_key : List ℕ → Field → Bool
has_key key f = pointwise nat_eq (key_of f) key
