-- Visits of variables on lengths, and what the columns hold between them: document 01, "Variables, then fields". Assumes nothing.
use Rattle.std.specs.Prelude.{ℕ, zero, suc, ◌+◌, ◌-◌, ◌≤◌, ◌<◌, ◌≡◌, Bool, true, List, [], ◌∷◌, map, length, get_or, drop, set, Result, Ok, Err}
use Rattle.rules.specs.Tokens.{Token}
use Rattle.rules.specs.Variables.{Piece}
use Rattle.rules.proofs.Lengths.{Sum, add, Lens, pass_lens, Settles}
use Rattle.tokens.specs.Entries.{decode, token_at}
use Rattle.workspace.specs.Map.{keys_of, starts_of, ends_of, ranks_of, lengths_of, pieces_between, rule_at}
use Rattle.passes.specs.Sums.{top, size_in, Advance, advance, Reaches}
use Rattle.passes.specs.declared.visits.Progress.{Progress}
use Rattle.passes.specs.declared.visits.Rules.{Rules}
use Rattle.passes.specs.declared.visits.Visited.{Visited}
use Rattle.passes.specs.declared.visits.Visited.TheVariants.{Known, Blocked, Valued}
use Rattle.passes.specs.declared.visits.TooLarge.{TooLarge}
use Rattle.passes.specs.declared.visits.Unresolved.{Unresolved}
use Rattle.passes.specs.declared.visits.Unresolved.TheVariants as Variable

-- What the passes read: the tokens; by token the rank of the variable that it refers to; by rank the variable's key token; by key token the value's first
-- token, and the token past it
pub record Reads : Type 0 where
  pub tokens : List Token
  pub ranks : List ℕ
  pub keys : List ℕ
  pub starts : List ℕ
  pub ends : List ℕ

abbrev pub reads : Rules → Reads
reads r = record { tokens = r.tokens.now; ranks = r.ranks.now; keys = r.keys.now; starts = r.starts.now; ends = r.ends.now }

-- in the map of the workspace
abbrev pub held : ℕ → ℕ → ℕ → List ℕ → List ℕ → Reads
held n count v ws pool = record { tokens = decode count ws pool; ranks = ranks_of n ws; keys = keys_of n v ws; starts = starts_of n ws; ends = ends_of n ws }

-- each variable's pieces, by rank
unfoldable pub rules_of : Reads → List (List Piece)
rules_of R = map (rule_at R.tokens R.ranks R.starts R.ends) R.keys

abbrev pub rule : Reads → ℕ → List Piece
rule R i = get_or (rules_of R) i []

-- where a visit goes on: at the value's first token, or where the last one stopped
unfoldable pub resume_at : ℕ → ℕ → ℕ
resume_at start zero = start
resume_at start (suc k) = k

-- of the variable of rank i: the value's first token, and the token past it
abbrev pub start_at : Reads → ℕ → ℕ
start_at R i = get_or R.starts (get_or R.keys i 0) 0

abbrev pub end_at : Reads → ℕ → ℕ
end_at R i = get_or R.ends (get_or R.keys i 0) 0

-- its pieces from where a visit goes on
unfoldable pub rest_of : Reads → ℕ → ℕ → List Piece
rest_of R i stop = pieces_between R.tokens R.ranks (resume_at (start_at R i) stop) (end_at R i)

abbrev pub size_at : Reads → List ℕ → ℕ → ℕ
size_at R lens = size_in R.tokens R.ranks lens

-- going on with its sum
abbrev pub advance_in : Reads → List ℕ → List ℕ → List ℕ → ℕ → Advance
advance_in R lens stops sums i =
    advance (size_at R lens) (resume_at (start_at R i) (get_or stops i 0)) (get_or sums i 0) (end_at R i - resume_at (start_at R i) (get_or stops i 0))

-- to go on with the sum s at `rest` is to start anew
pub record Resumes (lens : List ℕ) (ps rest : List Piece) (s : ℕ) : Type 0 where
  pub same : Reaches lens 0 ps s rest
  pub fits : s ≤ top

-- By rank: the lengths of the values + 1, the tokens at which the sums stopped + 1, and the sums up to there. Each variable can go on where it stopped
pub record State (R : Reads) (lens stops sums : List ℕ) : Type 0 where
  pub tokens : length R.tokens ≤ 65535
  pub few : length R.keys ≤ 65535
  pub lens_long : length lens ≡ length R.keys
  pub stops_long : length stops ≡ length R.keys
  pub sums_long : length sums ≡ length R.keys
  pub resumes : (i : ℕ) → i < length R.keys → Resumes lens (rule R i) (rest_of R i (get_or stops i 0)) (get_or sums i 0)

-- of what the passes write
abbrev pub Stands : Reads → Progress → Type 0
Stands R p = State R p.lengths.now p.stops.now p.sums.now

-- what the passes write is the same lent memory
abbrev pub SameColumns : Progress → Progress → Type 0
SameColumns p q =
    (q.lengths.ghost_name ≡ p.lengths.ghost_name) × (q.stops.ghost_name ≡ p.stops.ghost_name) × (q.sums.ghost_name ≡ p.sums.ghost_name) × (q.waiters.ghost_name ≡ p.waiters.ghost_name)

-- a visit of variable i, which has no value
abbrev pub Visits : Reads → List ℕ → List ℕ → List ℕ → List ℕ → ℕ → Result Visited TooLarge → Type 0
Visits R lens stops lens' stops' i (Err k) = (k.0 ≡ i) × (add lens 0 (rule R i) ≡ Sum.over)
Visits R lens stops lens' stops' i (Ok Known) = ⊥
Visits R lens stops lens' stops' i (Ok (Blocked k)) =
    (lens' ≡ lens) × (stops' ≡ set stops i (suc k)) × (k < end_at R i) × (size_at R lens k ≡ 0) × (add lens 0 (rule R i) ≡ Sum.missing (token_at R.tokens k))
Visits R lens stops lens' stops' i (Ok Valued) =
    (t : ℕ) × (add lens 0 (rule R i) ≡ Sum.sum t) × (lens' ≡ set lens i (suc t)) × (stops' ≡ stops)

-- how many have no value
unfoldable pub zeros : List ℕ → ℕ
zeros [] = zero
zeros (zero ∷ l) = suc (zeros l)
zeros (suc k ∷ l) = zeros l

-- what a pass comes to from the variable of rank i on
abbrev pub pass_from : Reads → ℕ → Bool → List ℕ → Lens
pass_from R i found lens = pass_lens i (drop i (rules_of R)) found lens

-- variable i's turn in a pass: all stays where it has a value
abbrev pub Steps : Reads → List ℕ → List ℕ → List ℕ → List ℕ → List ℕ → List ℕ → ℕ → Result Visited TooLarge → Type 0
Steps R lens stops sums lens' stops' sums' i (Err k) = (k.0 ≡ i) × ((f : Bool) → pass_from R i f lens ≡ Lens.stopped i)
Steps R lens stops sums lens' stops' sums' i (Ok Known) =
    (lens' ≡ lens) × (stops' ≡ stops) × (sums' ≡ sums) × (get_or lens i 0 ≡ 0 → ⊥) × ((f : Bool) → pass_from R i f lens ≡ pass_from R (i + 1) f lens)
Steps R lens stops sums lens' stops' sums' i (Ok (Blocked k)) =
    (lens' ≡ lens) × (stops' ≡ set stops i (suc k)) × (k < end_at R i) × (size_at R lens k ≡ 0) × ((f : Bool) → pass_from R i f lens ≡ pass_from R (i + 1) f lens)
Steps R lens stops sums lens' stops' sums' i (Ok Valued) =
    (x : ℕ) × (zeros lens' < zeros lens) × (lens' ≡ set lens i (suc x)) × (stops' ≡ stops) × ((f : Bool) → pass_from R i f lens ≡ pass_from R (i + 1) true lens')

-- variable i has a reference without a value
pub record Lacking (R : Reads) (lens : List ℕ) (i : ℕ) : Type 0 where
  pub token : Token
  pub is : add lens 0 (rule R i) ≡ Sum.missing token

-- each variable that has no value lacks one
abbrev pub Stuck : Reads → List ℕ → Type 0
Stuck R lens = (i : ℕ) → i < length R.keys → get_or lens i 0 ≡ 0 → (m : Token) × (add lens 0 (rule R i) ≡ Sum.missing m)

-- all variables have values, or why not
abbrev pub Settled : Type 0
Settled = Result (Unit {0}) Unresolved

-- what the answer says, of these tokens and these lengths
abbrev pub said : List Token → List ℕ → Settled → Settles
said ts lens (Ok u) = Settles.settled lens
said ts lens (Err (Variable.TooLarge i)) = Settles.too_large_at i
said ts lens (Err (Variable.Lacks i j)) = Settles.lacks i (token_at ts j)

abbrev pub meaning : ℕ → ℕ → ℕ → List ℕ → List ℕ → Settled → Settles
meaning n count v ws pool r = said (decode count ws pool) (lengths_of n v ws) r
