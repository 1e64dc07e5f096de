-- Document 02, R-1: versions compared by runs, and whether a version meets what was asked for. Assumes nothing.
use Rattle.std.specs.Prelude.{ℕ, zero, suc, ◌+◌, ◌*◌, ◌-◌, Bool, true, false, ◌||◌, List, [], ◌∷◌, take, eqb, ltb}
use Rattle.rules.specs.Bytes.{pick, within, run}

-- how the first stands to the second
pub data Order : Type 0 where
  lower equal higher : Order

unfoldable pub is_digit : ℕ → Bool
is_digit b = within 48 57 b

unfoldable pub is_letter : ℕ → Bool
is_letter b = within 65 90 b || within 97 122 b

-- a run of digits is a number, of any length; a run of letters is its bytes
pub data Run : Type 0 where
  number : ℕ → Run
  letters : List ℕ → Run

-- the number that digits make, after those that made n
unfoldable pub value : ℕ → List ℕ → ℕ
value n [] = n
value n (d ∷ ds) = value (10 * n + (d - 48)) ds

-- "cut each into runs of ASCII digits or of ASCII letters, all other bytes only separate"; `skip` is how many bytes the last run still takes
unfoldable pub cut : ℕ → List ℕ → List Run
cut skip [] = []
cut (suc skip) (b ∷ bs) = cut skip bs
cut zero (b ∷ bs) = elim (is_digit b) [
  | true ↦ number (value 0 (b ∷ take (run is_digit bs) bs)) ∷ cut (run is_digit bs) bs
  | false ↦ elim (is_letter b) [
    | true ↦ letters (b ∷ take (run is_letter bs) bs) ∷ cut (run is_letter bs) bs
    | false ↦ cut zero bs
  ]
]

unfoldable pub runs : List ℕ → List Run
runs version = cut 0 version

unfoldable pub compare_numbers : ℕ → ℕ → Order
compare_numbers m n = pick (ltb m n) lower (pick (ltb n m) higher equal)

-- the first that is not equal
unfoldable pub or_else : Order → Order → Order
or_else lower o = lower
or_else equal o = o
or_else higher o = higher

-- the first pair that differs decides; what has some left over is higher
unfoldable pub compare_lists : {A : Type 0} → (A → A → Order) → List A → List A → Order
compare_lists f [] [] = equal
compare_lists f [] (y ∷ ys) = lower
compare_lists f (x ∷ xs) [] = higher
compare_lists f (x ∷ xs) (y ∷ ys) = or_else (f x y) (compare_lists f xs ys)

-- "Digit runs compare as numbers of any length, letter runs by bytes, a digit run is above a letter run"
unfoldable pub compare_run : Run → Run → Order
compare_run (number m) (number n) = compare_numbers m n
compare_run (number m) (letters y) = higher
compare_run (letters x) (number n) = lower
compare_run (letters x) (letters y) = compare_lists compare_numbers x y

-- "and the version with runs left over is higher"
unfoldable pub compare_versions : List ℕ → List ℕ → Order
compare_versions a b = compare_lists compare_run (runs a) (runs b)

-- an operator, by how the version stands to the one asked for: whether it holds of a lower, an equal and a higher version
unfoldable pub among : Bool → Bool → Bool → Order → Bool
among l e h lower = l
among l e h equal = e
among l e h higher = h

-- whether a version meets an operator and a version asked for; or there is no such operator
pub data Met : Type 0 where
  met not_met no_operator : Met

unfoldable pub as_met : Bool → Met
as_met true = met
as_met false = not_met

-- the operators `=`, `<`, `>`, `<=`, `>=`, `!=` are 1 to 6; 0 asks for no version
unfoldable pub meets : List ℕ → ℕ → List ℕ → Met
meets version operator asked =
    let o = compare_versions version asked in
    pick (eqb operator 0) met
    (pick (eqb operator 1) (as_met (among false true false o))
    (pick (eqb operator 2) (as_met (among true false false o))
    (pick (eqb operator 3) (as_met (among false false true o))
    (pick (eqb operator 4) (as_met (among true true false o))
    (pick (eqb operator 5) (as_met (among false true true o))
    (pick (eqb operator 6) (as_met (among true false true o)) no_operator))))))

-- the numbers that the calls for C answer
unfoldable pub order_number : Order → ℕ
order_number equal = 0
order_number lower = 1
order_number higher = 2

unfoldable pub met_number : Met → ℕ
met_number not_met = 0
met_number met = 1
met_number no_operator = 2
