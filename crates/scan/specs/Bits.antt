-- The bits of a number. Assumes nothing.
use Rattle.std.specs.Prelude.{ℕ, ◌/◌, ◌%◌, ◌^◌, Bool, eqb}

-- bit b of m
abbrev pub bit_at : ℕ → ℕ → Bool
bit_at m b = eqb (m / 2 ^ b % 2) 1
