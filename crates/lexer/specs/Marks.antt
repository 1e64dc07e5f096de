-- What the contracts of the functions that pass a block at a time cite. No public contract rests on it. Assumes nothing.
use Rattle.std.specs.Prelude.{ℕ, ◌+◌, ◌≤◌, ◌≡◌, Bool, not, ◌||◌, List, length, drop, ltb}
use Rattle.rules.specs.Bytes.{is, run}

-- no other byte ends a run of bytes that are text by themselves; `(` comes after all blanks, line ends, quotes, `#` and `$`
unfoldable pub text_stop : ℕ → Bool
text_stop b = ltb b 40 || is ":" b || is "=" b || is "\\" b || is "{" b || is "}" b

-- only `$` can be refused, and only `#` and a backslash can hide one
unfoldable pub dollar_stop : ℕ → Bool
dollar_stop b = is "#" b || is "$" b || is "\\" b

-- such a byte stops nothing
abbrev pub free : (ℕ → Bool) → ℕ → Bool
free stop b = not (stop b)

-- the run from place i on goes on at place r
pub record OnRun (f : ℕ → Bool) (text : List ℕ) (i r : ℕ) : Type 0 where
  pub inside : r ≤ length text
  pub same_end : i + run f (drop i text) ≡ r + run f (drop r text)
