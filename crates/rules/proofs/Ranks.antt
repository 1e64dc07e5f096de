-- Demand 3: what a value is, with no word of passes. A variable is its place in byte order; `rules` has each variable's parts by place.
-- Assumes nothing.
use Prim.Native.Nat.{ℕ, ◌<◌}
use mathlib.Core.Path.{◌≡◌}
use mathlib.Core.List.{List, [], ◌∷◌, ◌++◌}
use mathlib.Core.Option.{Option, none, some}
use lib.ListN.{length, get_or}
use Rattle.rules.specs.Tokens.{Token}
use Rattle.rules.specs.Variables.{Piece, limit, Found, found_at, Resolved, too_large_at, lacks, resolved}

-- the parts joined, references replaced by their values
pub data Joined (rules : List (List Piece)) : List Piece → List ℕ → Type 0 where
  nil : Joined rules [] []
  text : {s v : List ℕ} {ps : List Piece} → Joined rules ps v → Joined rules (Piece.text s ∷ ps) (s ++ v)
  ref : {n : Token} {j : ℕ} {u v : List ℕ} {ps : List Piece} → j < length rules → Joined rules (get_or rules j []) u → Joined rules ps v
      → Joined rules (Piece.ref n j ∷ ps) (u ++ v)

-- the k-th name is referred to in the parts
pub data Refers : List Piece → ℕ → Type 0 where
  here : {n : Token} {k : ℕ} {ps : List Piece} → Refers (Piece.ref n k ∷ ps) k
  there : {p : Piece} {k : ℕ} {ps : List Piece} → Refers ps k → Refers (p ∷ ps) k

module _ (rules : List (List Piece)) where
  -- v is the value of the j-th name, which is assigned
  abbrev pub Value : ℕ → List ℕ → Type 0
  Value j v = (j < length rules) × Joined rules (get_or rules j []) v

  abbrev pub HasValue : ℕ → Type 0
  HasValue j = (v : List ℕ) × Value j v

  -- each name numbered, so that each reference is to an assigned name with a smaller number
  abbrev pub Numbered : (ℕ → ℕ) → Type 0
  Numbered num = (j : ℕ) → j < length rules → (k : ℕ) → Refers (get_or rules j []) k → (k < length rules) × (num k < num j)

-- v is what the parts give up to the first reference without a value, and e is that reference (none, where all have values)
pub data Upto (rules : List (List Piece)) : List Piece → List ℕ → Option Token → Type 0 where
  whole : Upto rules [] [] none
  text : {s v : List ℕ} {ps : List Piece} {e : Option Token} → Upto rules ps v e → Upto rules (Piece.text s ∷ ps) (s ++ v) e
  ref : {n : Token} {j : ℕ} {u v : List ℕ} {ps : List Piece} {e : Option Token} → Value rules j u → Upto rules ps v e → Upto rules (Piece.ref n j ∷ ps) (u ++ v) e
  stop : {n : Token} {j : ℕ} {ps : List Piece} → (HasValue rules j → ⊥) → Upto rules (Piece.ref n j ∷ ps) [] (some n)

module _ (rules : List (List Piece)) where
  -- the j-th name is assigned, and its value up to its first reference without a value is too large
  abbrev pub TooLargeAt : ℕ → Type 0
  TooLargeAt j = (j < length rules) × ((v : List ℕ) × (e : Option Token) × Upto rules (get_or rules j []) v e × (limit < length v))

  abbrev pub TooLarge : Type 0
  TooLarge = (j : ℕ) × TooLargeAt j

  -- the smallest assigned name without a value is the j-th, and its first reference without one is n
  pub record LacksAt (j : ℕ) (n : Token) : Type 0 where
    pub assigned : j < length rules
    pub without : HasValue rules j → ⊥
    pub smallest : (i : ℕ) → i < j → HasValue rules i
    pub first : (v : List ℕ) × Upto rules (get_or rules j []) v (some n)

  -- every assigned name has its value in `vals`
  pub record HasAll (vals : Found) : Type 0 where
    pub size : length vals ≡ length rules
    pub each : (j : ℕ) → j < length rules → (v : List ℕ) × Value rules j v × (found_at vals j ≡ some v)

  -- what an answer of `resolve` says
  abbrev pub Says : Resolved → Type 0
  Says (too_large_at j) = TooLargeAt j
  Says (lacks j n) = (TooLarge → ⊥) × LacksAt j n
  Says (resolved vals) = (TooLarge → ⊥) × HasAll vals
