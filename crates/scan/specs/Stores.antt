-- A run of stores into lent memory: the form in which all writing is said. Assumes nothing.
use Rattle.std.specs.Prelude.{ℕ, ◌+◌, List, [], ◌∷◌, set}

-- l with vs stored from place i on; a store past the end does nothing
abbrev pub puts : List ℕ → ℕ → List ℕ → List ℕ
puts l i [] = l
puts l i (v ∷ vs) = puts (set l i v) (i + 1) vs
