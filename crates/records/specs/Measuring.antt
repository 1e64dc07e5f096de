-- What the records of all fields need, by lengths alone; or the first refusal (document 01, "Variables, then fields": 15 and 16 with the field number).
-- Assumes nothing.
use Rattle.std.specs.Prelude.{ℕ, zero, suc, ◌+◌, ◌-◌, List, get_or, Result, Ok, Err}
use Rattle.rules.specs.Bytes.{pick}
use Rattle.rules.specs.Lines.{is_string}
use Rattle.workspace.specs.Map.{starts_of, ends_of}
use Rattle.passes.specs.Sums.{size_at, Advance, advance}
use Rattle.passes.specs.declared.sums.Stop.TheVariants as Sum
use Rattle.records.specs.Contents.{fields_of}
use Rattle.records.specs.declared.measure.Stop.{Stop}
use Rattle.records.specs.declared.measure.Stop.TheVariants.{Undefined, TooLarge}

-- so many bytes, or the first refusal
abbrev pub Measured : Type 0
Measured = Result ℕ Stop

-- the sum, or its refusal in the field f
unfoldable pub on_sum : ℕ → Advance → (ℕ → Measured) → Measured
on_sum f (Err Sum.Over) go = Err (TooLarge f)
on_sum f (Err (Sum.Missing j s)) go = Err (Undefined f j)
on_sum f (Ok x) go = go x

unfoldable pub on_need : Measured → (ℕ → Measured) → Measured
on_need (Ok x) go = go x
on_need (Err e) go = Err e

-- with these sizes of tokens, and these columns of starts and ends
module _ (size : ℕ → ℕ) (starts ends : List ℕ) where
  abbrev pub sum_of_row : ℕ → Advance
  sum_of_row i = advance size (get_or starts i 0) 0 (get_or ends i 0 - get_or starts i 0)

  -- `need` bytes, and the records of m arguments of the field f, from row i on
  unfoldable pub measure_rows : ℕ → ℕ → ℕ → ℕ → Measured
  measure_rows f need i zero = Ok need
  measure_rows f need i (suc m) = on_sum f (sum_of_row i) (λ x. measure_rows f (need + (6 + x)) (suc i) m)

  -- `need` bytes, and those of the field f with this entry
  unfoldable pub measure_entry : ℕ → ℕ → ℕ → Measured
  measure_entry f need zero = Ok need
  measure_entry f need (suc k) =
      pick (is_string f) (on_sum f (sum_of_row k) (λ x. Ok (need + (6 + x)))) (measure_rows f (need + 10) (get_or starts k 0) (get_or ends k 0))

  -- `need` bytes, and those of m fields from the f-th on
  unfoldable pub measure_fields : List ℕ → ℕ → ℕ → ℕ → Measured
  measure_fields entries need f zero = Ok need
  measure_fields entries need f (suc m) = on_need (measure_entry f need (get_or entries f 0)) (λ x. measure_fields entries x (suc f) m)

abbrev pub measure_in : ℕ → ℕ → ℕ → List ℕ → List ℕ → Measured
measure_in n count v ws pool = measure_fields (size_at n count v ws pool) (starts_of n ws) (ends_of n ws) (fields_of n ws) 0 1 10
