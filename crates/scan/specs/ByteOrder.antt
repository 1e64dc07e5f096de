-- Byte order of two names, three ways, as `a.cmp(b)` answers it. Assumes nothing.
use Rattle.std.specs.Prelude.{ℕ, List}
use Rattle.std.specs.declared.cmp.Ordering.{Ordering}
use Rattle.std.specs.Cmp.Lexicographic.{slice_cmp}
use Rattle.std.specs.Ordering.{nat_cmp}

-- the first byte that differs decides; a name that ends first is less
abbrev pub order_of : List ℕ → List ℕ → Ordering
order_of a b = slice_cmp nat_cmp a b
