-- Blocks of variables, and which variables wait for a value. Assumes nothing.
use Rattle.std.specs.Prelude.{ℕ, suc, ◌+◌, ◌*◌, ◌^◌, ◌≤◌, ◌<◌, ◌≡◌, Bool, true, false, List, length, get_or, set, Option, None, Some, Result, Ok, Err}
use Rattle.std.specs.Int.Bits.{bit_or}
use Rattle.rules.proofs.Lengths.{Lens}
use Rattle.scan.specs.Bits.{bit_at}
use Rattle.passes.specs.Visits.{Reads, end_at, size_at, zeros, pass_from}
use Rattle.passes.specs.declared.blocks.Blocks.{Blocks}
use Rattle.passes.specs.declared.visits.TooLarge.{TooLarge}

-- the variable of rank t stands in block b, of w variables
abbrev pub Block : ℕ → ℕ → ℕ → Type 0
Block w t b = (b * w ≤ t) × (t < b * w + w)

-- by rank the blocks in which a variable waits for the value, where block b is marked at the variable to which token j refers
abbrev pub marked_at : List ℕ → ℕ → ℕ → List ℕ → List ℕ
marked_at ranks j b waiters = set waiters (get_or ranks j 0) (bit_or (get_or waiters (get_or ranks j 0) 0) (2 ^ b))

-- Variable t waits: its sum stopped at this token, before the end of its value; the token refers to no value, and block b is marked there
pub record Waiting (R : Reads) (lens stops waiters : List ℕ) (t b : ℕ) : Type 0 where
  pub token : ℕ
  pub stop : get_or stops t 0 ≡ suc token
  pub inside : token < end_at R t
  pub lacks : size_at R lens token ≡ 0
  pub marked : get_or R.ranks token 0 < length R.keys → bit_at (get_or waiters (get_or R.ranks token 0) 0) b ≡ true

-- it has a value or waits, so that a visit would find nothing new
abbrev pub Rests : Reads → List ℕ → List ℕ → List ℕ → ℕ → ℕ → Type 0
Rests R lens stops waiters t b = get_or lens t 0 ≡ 0 → Waiting R lens stops waiters t b

-- what the turn of variable i of block b leaves, where the blocks of m waited for it: it rests, and so do all others that did, but in the blocks of m
pub record Leaves (R : Reads) (lens stops waiters lens' stops' waiters' : List ℕ) (i b m : ℕ) : Type 0 where
  pub own : Rests R lens' stops' waiters' i b
  pub others : (t c : ℕ) → (t ≡ i → ⊥) → bit_at m c ≡ false → Rests R lens stops waiters t c → Rests R lens' stops' waiters' t c

abbrev pub Turns : Reads → List ℕ → List ℕ → List ℕ → List ℕ → List ℕ → List ℕ → ℕ → ℕ → Result (Option Blocks) TooLarge → Type 0
Turns R lens stops waiters lens' stops' waiters' i b (Err k) = (k.0 ≡ i) × ((f : Bool) → pass_from R i f lens ≡ Lens.stopped i)
Turns R lens stops waiters lens' stops' waiters' i b (Ok None) =
    (lens' ≡ lens) × Leaves R lens stops waiters lens' stops' waiters' i b 0 × ((f : Bool) → pass_from R i f lens ≡ pass_from R (i + 1) f lens)
Turns R lens stops waiters lens' stops' waiters' i b (Ok (Some m)) =
    (zeros lens' < zeros lens) × Leaves R lens stops waiters lens' stops' waiters' i b m.0 × ((f : Bool) → pass_from R i f lens ≡ pass_from R (i + 1) true lens')
