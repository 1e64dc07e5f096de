-- The value of a field among the records of bytes. Assumes nothing.
use Rattle.std.specs.Prelude.{ℕ, List, [], ◌∷◌, ◌==◌, if◌then◌else◌}
use Rattle.walker.specs.Records.{Told}

abbrev pub first_value : ℕ → List Told → List ℕ
first_value field [] = []
first_value field (r ∷ rs) = if r.kind == field then r.payload else first_value field rs
