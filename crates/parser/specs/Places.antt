-- Where lines begin. Assumes nothing.
use Rattle.std.specs.Prelude.{ℕ, ◌+◌, ltb}
use Rattle.rules.specs.Bytes.{pick}

-- the first token past the line that ends at `end`
abbrev pub past : ℕ → ℕ → ℕ
past count end = pick (ltb end count) (end + 1) end
