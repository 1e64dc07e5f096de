-- The kinds of runs by their bytes, and where a version's first run stands. Assumes nothing.
use Rattle.std.specs.Prelude.{ℕ, ◌≡◌, List, [], ◌∷◌, take, drop, Option, Some, None}
use Rattle.std.specs.Borrow.{Bor}
use Rattle.rules.specs.Bytes.{pick, run}
use Rattle.rules.specs.Versions.{is_digit, is_letter, value, runs}
use Rattle.rules.specs.Versions as Rules
use Rattle.versions.specs.declared.runs.Kind.{Kind}
use Rattle.versions.specs.declared.runs.Kind.TheVariants.{Letters, Digits}

-- digits, letters, or none: the byte only separates
abbrev pub kind_of : ℕ → Option Kind
kind_of b = pick (is_digit b) (Some Digits) (pick (is_letter b) (Some Letters) None)

-- the run of this kind at the front of a text, and what comes after it
abbrev pub run_of : Kind → List ℕ → Rules.Run
run_of Letters t = Rules.letters (take (run is_letter t) t)
run_of Digits t = Rules.number (value 0 (take (run is_digit t) t))

abbrev pub after : Kind → List ℕ → List ℕ
after Letters t = drop (run is_letter t) t
after Digits t = drop (run is_digit t) t

-- a text's first run, of this kind and where it stands; or there is no run
abbrev pub Fronts : List ℕ → Option (Kind × Bor (List ℕ)) → Type 0
Fronts t None = runs t ≡ []
Fronts t (Some r) = runs t ≡ run_of r.0 r.1.now ∷ runs (after r.0 r.1.now)
