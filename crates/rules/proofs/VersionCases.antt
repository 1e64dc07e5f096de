-- Document 02, R-1: worked cases of the comparison and of the operators, each from the words of the request. Assumes nothing.
use Prim.Native.Nat.{ℕ}
use Prim.Native.String.{String}
use mathlib.Core.Path.{◌≡◌, refl}
use mathlib.Core.List.{List, [], ◌∷◌, ◌++◌, map}
use Rattle.rules.specs.Bytes.{bytes, pick, within, run}
use Rattle.rules.specs.Versions.{Order, lower, equal, higher, Run, number, letters, Met, met, not_met, no_operator, is_digit, is_letter, value, cut, runs, compare_numbers, or_else, compare_lists, compare_run, compare_versions, among, as_met, meets, order_number, met_number}

-- a version and the runs that it is cut into
pub record Cut : Type 0 where
  pub version : String
  pub runs : List Run

abbrev pub cuts : List Cut
cuts =
    record { version = ""; runs = [] }
    ∷ record { version = "."; runs = [] }
    ∷ record { version = "12"; runs = number 12 ∷ [] }
    ∷ record { version = "0907"; runs = number 907 ∷ [] }
    ∷ record { version = "1.2-rc10+AZ"; runs = number 1 ∷ number 2 ∷ letters (bytes "rc") ∷ number 10 ∷ letters (bytes "AZ") ∷ [] }
    ∷ []

pub cuts-say : map (λ (c : Cut). runs (bytes c.version)) cuts ≡ map (λ (c : Cut). c.runs) cuts
unfolding bytes pick within run is_digit is_letter value cut runs
cuts-say = refl

pub record Pair : Type 0 where
  pub first : String
  pub second : String
  pub order : Order

abbrev pub pairs : List Pair
pairs =
    record { first = "1.10"; second = "1.9"; order = higher }
    ∷ record { first = "1.2.10"; second = "1.2.9"; order = higher }
    ∷ record { first = "1.2.3"; second = "1.2.4"; order = lower }
    ∷ record { first = "2"; second = "10"; order = lower }
    ∷ record { first = "1.0"; second = "1"; order = higher }
    ∷ record { first = "1.2"; second = "1.2.0"; order = lower }
    ∷ record { first = "1.0a"; second = "1.0"; order = higher }
    ∷ record { first = "1.a"; second = "1.1"; order = lower }
    ∷ record { first = "1.0"; second = "1.a"; order = higher }
    ∷ record { first = "v1.2"; second = "1.2"; order = lower }
    ∷ record { first = "0"; second = "a"; order = higher }
    ∷ record { first = "0a"; second = "a"; order = higher }
    ∷ record { first = "007"; second = "7"; order = equal }
    ∷ record { first = "0"; second = "000"; order = equal }
    ∷ record { first = "1.01"; second = "1.1"; order = equal }
    ∷ record { first = "1.010"; second = "1.1"; order = higher }
    ∷ record { first = "10"; second = "010"; order = equal }
    ∷ record { first = "100"; second = "0099"; order = higher }
    ∷ record { first = "1..2"; second = "1.2"; order = equal }
    ∷ record { first = "-1-"; second = "1"; order = equal }
    ∷ record { first = ""; second = "..."; order = equal }
    ∷ record { first = ""; second = ""; order = equal }
    ∷ record { first = ""; second = "0"; order = lower }
    ∷ record { first = "~"; second = "a"; order = lower }
    ∷ record { first = "1.0-1"; second = "1.0.1"; order = equal }
    ∷ record { first = "1~2"; second = "1.2"; order = equal }
    ∷ record { first = "1~rc1"; second = "1"; order = higher }
    ∷ record { first = "1/2"; second = "1:2"; order = equal }
    ∷ record { first = "a@b"; second = "a[b"; order = equal }
    ∷ record { first = "a`b"; second = "a{b"; order = equal }
    ∷ record { first = "1\n2"; second = "1 2"; order = equal }
    ∷ record { first = "1a"; second = "1.a"; order = equal }
    ∷ record { first = "1a2"; second = "1.a.2"; order = equal }
    ∷ record { first = "1a"; second = "11"; order = lower }
    ∷ record { first = "1a"; second = "1b"; order = lower }
    ∷ record { first = "1.2rc10"; second = "1.2rc9"; order = higher }
    ∷ record { first = "1.2rc"; second = "1.2.0"; order = lower }
    ∷ record { first = "ab"; second = "abc"; order = lower }
    ∷ record { first = "b"; second = "abc"; order = higher }
    ∷ record { first = "Z"; second = "a"; order = lower }
    ∷ record { first = "aB"; second = "ab"; order = lower }
    ∷ record { first = "99999999999999999999"; second = "100000000000000000000"; order = lower }
    ∷ record { first = "4294967296"; second = "0"; order = higher }
    ∷ record { first = "18446744073709551616"; second = "0"; order = higher }
    ∷ record { first = "18446744073709551617"; second = "1"; order = higher }
    ∷ record { first = "123456789012345678901234567890"; second = "123456789012345678901234567891"; order = lower }
    ∷ []

pub pairs-say : map (λ (p : Pair). compare_versions (bytes p.first) (bytes p.second)) pairs ≡ map (λ (p : Pair). p.order) pairs
unfolding bytes pick within run is_digit is_letter value cut runs compare_numbers or_else compare_lists compare_run compare_versions
pairs-say = refl

-- what an operator says of a version that is lower than, equal to and higher than the one asked for
pub record Operator : Type 0 where
  pub operator : ℕ
  pub of : List Met

abbrev pub operators : List Operator
operators =
    record { operator = 0; of = met ∷ met ∷ met ∷ [] }
    ∷ record { operator = 1; of = not_met ∷ met ∷ not_met ∷ [] }
    ∷ record { operator = 2; of = met ∷ not_met ∷ not_met ∷ [] }
    ∷ record { operator = 3; of = not_met ∷ not_met ∷ met ∷ [] }
    ∷ record { operator = 4; of = met ∷ met ∷ not_met ∷ [] }
    ∷ record { operator = 5; of = not_met ∷ met ∷ met ∷ [] }
    ∷ record { operator = 6; of = met ∷ not_met ∷ met ∷ [] }
    ∷ record { operator = 7; of = no_operator ∷ no_operator ∷ no_operator ∷ [] }
    ∷ record { operator = 4294967295; of = no_operator ∷ no_operator ∷ no_operator ∷ [] }
    ∷ []

-- 1.1, 1.02 and 1.10, where 1.2 is asked for
abbrev pub asked : ℕ → List Met
asked n = meets (bytes "1.1") n (bytes "1.2") ∷ meets (bytes "1.02") n (bytes "1.2") ∷ meets (bytes "1.10") n (bytes "1.2") ∷ []

pub operators-say : map (λ (o : Operator). asked o.operator) operators ≡ map (λ (o : Operator). o.of) operators
unfolding bytes pick within run is_digit is_letter value cut runs compare_numbers or_else compare_lists compare_run compare_versions among as_met meets
operators-say = refl

-- the numbers that the calls for C answer, as their header gives them
pub numbers-say : map order_number (equal ∷ lower ∷ higher ∷ []) ++ map met_number (not_met ∷ met ∷ no_operator ∷ []) ≡ 0 ∷ 1 ∷ 2 ∷ 0 ∷ 1 ∷ 2 ∷ []
unfolding order_number met_number
numbers-say = refl
