-- The passes on lengths: document 01, "Variables, then fields". Assumes nothing.
use Rattle.std.specs.Prelude.{ℕ, zero, suc, ◌*◌, ◌-◌, ◌≤◌, ◌<◌, ◌≡◌, true, false, List, ◌++◌, length, take, replicate, Option, None, Some, Result, Ok, Err}
use Rattle.rules.specs.Variables.{Piece}
use Rattle.rules.proofs.Lengths.{Lens, pass_lens, stopped, passed, Settles, settled, too_large_at, lacks, resolve_lens}
use Rattle.scan.specs.Stores.{puts}
use Rattle.scan.specs.Bits.{bit_at}
use Rattle.tokens.specs.Entries.{decode}
use Rattle.workspace.specs.Map.{rules_in}
use Rattle.passes.specs.Visits.{Reads, rules_of, State, zeros, pass_from, Stuck, Settled, said, meaning}
use Rattle.passes.specs.Blocks.{Block, Rests}
use Rattle.passes.specs.declared.blocks.Blocks.{Blocks}
use Rattle.passes.specs.declared.visits.TooLarge.{TooLarge}

-- all that may find something new stand in the blocks of m, of w variables each
pub record Covers (R : Reads) (w m : ℕ) (lens stops waiters : List ℕ) : Type 0 where
  pub at : (t b : ℕ) → t < length R.keys → Block w t b → bit_at m b ≡ false → Rests R lens stops waiters t b

-- there are at most 32 blocks
pub record Wide (v w : ℕ) : Type 0 where
  pub some : 1 ≤ w
  pub wide : v ≤ 32 * w
  pub narrow : w ≤ 65535

pub record Turning (R : Reads) (w m : ℕ) (lens stops sums waiters : List ℕ) : Type 0 where
  pub state : State R lens stops sums
  pub waiters_long : length waiters ≡ length R.keys
  pub blocks : Wide (length R.keys) w
  pub covers : Covers R w m lens stops waiters

-- one pass
abbrev pub Passes : Reads → ℕ → List ℕ → List ℕ → List ℕ → List ℕ → Result (Option Blocks) TooLarge → Type 0
Passes R w lens lens' stops' waiters' (Err k) = pass_from R 0 false lens ≡ Lens.stopped k.0
Passes R w lens lens' stops' waiters' (Ok (Some m)) =
    (zeros lens' < zeros lens) × (pass_from R 0 false lens ≡ Lens.passed true lens') × Covers R w m.0 lens' stops' waiters'
Passes R w lens lens' stops' waiters' (Ok None) = Stuck R lens' × (pass_from R 0 false lens ≡ Lens.passed false lens')

-- how many passes are made, the last idle one included
unfoldable pub count_lens : ℕ → List (List Piece) → List ℕ → ℕ
count_lens zero rules lens = 0
count_lens (suc k) rules lens = elim (pass_lens 0 rules false lens) [
  | stopped i ↦ 1
  | passed found after ↦ elim found [ true ↦ suc (count_lens k rules after) | false ↦ 1 ]
]

unfoldable pub pass_count : List (List Piece) → ℕ
pass_count rules = count_lens (suc (length rules)) rules (replicate (length rules) 0)

-- no variable has a value, and each starts anew
pub record Ready (R : Reads) (w : ℕ) (lens stops sums waiters : List ℕ) : Type 0 where
  pub state : State R lens stops sums
  pub waiters_long : length waiters ≡ length R.keys
  pub none : lens ≡ replicate (length R.keys) 0
  pub blocks : Wide (length R.keys) w

-- the answer of all passes
pub record Runs (R : Reads) (lens' : List ℕ) (r : Settled) (passes : ℕ) : Type 0 where
  pub is_answer : said R.tokens lens' r ≡ resolve_lens (rules_of R)
  pub is_count : passes ≡ pass_count (rules_of R)

-- four columns of v entries, all 0, for as many variables
pub record Clear (R : Reads) (v : ℕ) (cells : List ℕ) : Type 0 where
  pub tokens : length R.tokens ≤ 65535
  pub few : v ≤ 65535
  pub keys : length R.keys ≡ v
  pub clear : cells ≡ replicate (4 * v) 0

-- a map of v variables, and four columns of v entries
pub record Mapped (n count v : ℕ) (map cells : List ℕ) : Type 0 where
  pub small : n ≤ 65535
  pub long : length map ≡ 8 * n
  pub tokens : count ≤ n
  pub few : v ≤ n
  pub room : length cells ≡ 4 * v

-- how many lengths stay
abbrev pub kept_of : Settled → ℕ → ℕ
kept_of (Ok u) v = v
kept_of (Err e) v = 0

-- what the four columns of v entries from 8n on hold at the end: the lengths, where all have values, and zeros
unfoldable pub columns : ℕ → Settles → List ℕ
columns v (settled lens) = lens ++ replicate (4 * v - length lens) 0
columns v (too_large_at i) = replicate (4 * v) 0
columns v (lacks i m) = replicate (4 * v) 0

-- the answer, the number of passes, and all four columns
pub record Resolved (n count v : ℕ) (pool map cells : List ℕ) (r : Settled) (passes : ℕ) : Type 0 where
  pub is_answer : said (decode count map pool) (take v cells) r ≡ resolve_lens (rules_in n count v map pool)
  pub is_count : passes ≡ pass_count (rules_in n count v map pool)
  pub is_columns : cells ≡ columns v (resolve_lens (rules_in n count v map pool))

-- The answer, the number of passes, and the whole workspace
pub record Resolves (n count v : ℕ) (pool ws ws' : List ℕ) (r : Settled) (passes : ℕ) : Type 0 where
  pub is_answer : meaning n count v ws' pool r ≡ resolve_lens (rules_in n count v ws pool)
  pub is_count : passes ≡ pass_count (rules_in n count v ws pool)
  pub is_workspace : ws' ≡ puts ws (8 * n) (columns v (resolve_lens (rules_in n count v ws pool)))
