-- The records of the items of a value. Assumes nothing.
use Rattle.std.specs.Prelude.{ℕ, ◌+◌, ◌≤◌, ◌≡◌, List, [], length}
use Rattle.rules.specs.Packages.{Item, Items, items, malformed_at, items_records}

-- the records of the items, where all are well formed
unfoldable pub records_of : ℕ → Items → List ℕ
records_of field (items is) = items_records field is
records_of field (malformed_at k) = []

-- all items are well formed, and the output has room for their records from `at` on
pub record Fitting (field : ℕ) (r : Items) (output : List ℕ) (at : ℕ) : Type 0 where
  pub list : List Item
  pub are : r ≡ items list
  pub fits : at + length (items_records field list) ≤ length output
