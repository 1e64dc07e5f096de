-- What a well-formed text reads as: its records, or the first refusal. Assumes nothing.
use Rattle.std.specs.Prelude.{ℕ, List}
use Rattle.rules.specs.Numbers.{Result, ok, ◌>>=◌}
use Rattle.rules.specs.Lexing.{tokens}
use Rattle.rules.specs.Lines.{File, no_lines, lines, read_lines}
use Rattle.rules.specs.Variables.{resolve_variables}
use Rattle.rules.specs.Fields.{resolve_fields}
use Rattle.rules.specs.Records.{records}

-- "Then the whole text is lexed, then lines in order"
unfoldable pub file : List ℕ → Result File
file text = tokens text >>= λ ts. read_lines no_lines (lines ts)

-- "then variables, then fields"
unfoldable pub records_of_file : File → Result (List ℕ)
records_of_file f = resolve_variables f.variables >>= λ vals. resolve_fields f vals >>= λ ps. ok (records ps)

unfoldable pub reading : List ℕ → Result (List ℕ)
reading text = file text >>= records_of_file
