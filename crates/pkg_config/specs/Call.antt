-- What the reader's call leaves in the lent buffers, and what it answers (document 01, "Buffers" and "Numbers returned"). Assumes nothing.
use Rattle.std.specs.Prelude.{ℕ, ◌+◌, ◌*◌, ◌≤◌, ◌≡◌, List, Result, length, drop}
use Rattle.rules.specs.Numbers as Rules
use Rattle.rules.specs.Lexing.{tokens}
use Rattle.rules.specs.Tokens.{Token}
use Rattle.rules.specs.Lines.{no_lines, lines, read_lines}
use Rattle.rules.specs.Reading.{records_of_file, reading}
use Rattle.rules.specs.Reader as Reader
use Rattle.answers.specs.declared.Refusal.{Refusal}
use Rattle.answers.specs.Refusals.{answer_of}
use Rattle.answers.specs.Tells.{Tells}

-- the lent buffers
abbrev pub lent : List ℕ → List ℕ → List ℕ → Reader.Buffers
lent ws pool out = record { workspace = ws; pool = pool; output = out }

-- THE PROMISE: the answer, and the final contents of all that is lent, on every input
pub record Reads (text ws pool out ws' pool' out' : List ℕ) (r : Result ℕ Refusal) : Type 0 where
  pub is_answer : Tells (answer_of r) (Reader.read text (lent ws pool out)).answer
  pub is_workspace : ws' ≡ (Reader.read text (lent ws pool out)).after.workspace
  pub is_pool : pool' ≡ (Reader.read text (lent ws pool out)).after.pool
  pub is_output : out' ≡ (Reader.read text (lent ws pool out)).after.output

-- what a stage that ends in `x` answers, and leaves in the output and past the workspace's part for a text of n bytes
pub record Ends (n : ℕ) (x : Rules.Result (List ℕ)) (ws out ws' out' : List ℕ) (r : Result ℕ Refusal) : Type 0 where
  pub is_answer : Tells (answer_of r) (Reader.written x (lent ws out out)).answer
  pub is_output : out' ≡ (Reader.written x (lent ws out out)).after.output
  pub beyond : drop (12 * n + 64) ws' ≡ drop (12 * n + 64) ws

-- a text that the tests 1 to 3 let pass
pub record Lent (text ws pool : List ℕ) : Type 0 where
  pub short : length text ≤ 65535
  pub space : 12 * length text + 64 ≤ length ws
  pub pools : length text ≤ length pool

-- what reading such a text does
pub record ReadsText (text ws pool out ws' pool' out' : List ℕ) (r : Result ℕ Refusal) : Type 0 where
  pub ends : Ends (length text) (reading text) ws out ws' out' r
  pub is_pool : pool' ≡ Reader.pool_after (tokens text) pool

-- what tokens read as: their records, or the first refusal
unfoldable pub lines_read : List Token → Rules.Result (List ℕ)
lines_read ts = Rules.◌>>=◌ (read_lines no_lines (lines ts)) records_of_file
