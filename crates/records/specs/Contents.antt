-- The fields' values as the tables have them. Assumes nothing.
use Rattle.std.specs.Prelude.{ℕ, zero, suc, ◌+◌, ◌*◌, ◌≤◌, ◌<◌, ◌≡◌, List, [], ◌∷◌, get_or, take, drop}
use Rattle.rules.specs.Bytes.{pick}
use Rattle.rules.specs.Lines.{is_string}
use Rattle.rules.specs.Variables.{Expansion, expand}
use Rattle.rules.specs.Fields.{Content, single, many, Present}
use Rattle.writer.specs.Tables.{Tables, pieces, value_between}

-- the fields' entries of the map, by number: the key token + 1, 0 for none
abbrev pub fields_of : ℕ → List ℕ → List ℕ
fields_of n ws = take 11 (drop (12 * n) ws)

-- the values of m arguments, those of the rows from i on
unfoldable pub values_from : Tables → ℕ → ℕ → List (List ℕ)
values_from t i zero = []
values_from t i (suc m) = value_between t (get_or t.starts i 0) (get_or t.ends i 0) ∷ values_from t (suc i) m

-- the value of the field f whose key is token k
unfoldable pub content_at : Tables → ℕ → ℕ → Content
content_at t f k =
    pick (is_string f) (single (value_between t (get_or t.starts k 0) (get_or t.ends k 0))) (many (values_from t (get_or t.starts k 0) (get_or t.ends k 0)))

-- the field f, by its entry, before others
unfoldable pub present_at : Tables → ℕ → ℕ → List Present → List Present
present_at t f zero more = more
present_at t f (suc k) more = record { number = f; content = content_at t f k } ∷ more

-- the fields present of m from the f-th on, where `entries` are all fields' entries
unfoldable pub presents : Tables → List ℕ → ℕ → ℕ → List Present
presents t entries f zero = []
presents t entries f (suc m) = present_at t f (get_or entries f 0) (presents t entries (suc f) m)

-- The tokens from `from` up to `to` are tokens, and have a value by the rules: every reference is to a name that has one, and no sum is above the limit
pub record Valued (count : ℕ) (t : Tables) (from to : ℕ) : Type 0 where
  pub in_table : to ≤ count
  pub expands : expand t.values [] (pieces t from to) ≡ Expansion.value (value_between t from to)

-- so have m arguments, those of the rows from `row` on
pub record Listed (count : ℕ) (t : Tables) (row m : ℕ) : Type 0 where
  pub few : row + m ≤ 65536
  pub each : (i : ℕ) → row ≤ i → i < row + m → Valued count t (get_or t.starts i 0) (get_or t.ends i 0)

-- so has the field f, where this is its entry
pub record Entered (count : ℕ) (t : Tables) (f entry : ℕ) : Type 0 where
  pub strings : (k : ℕ) → f ≤ 7 → entry ≡ suc k → Valued count t (get_or t.starts k 0) (get_or t.ends k 0)
  pub lists : (k : ℕ) → 7 < f → entry ≡ suc k → Listed count t (get_or t.starts k 0) (get_or t.ends k 0)

-- and m fields from the f-th on
pub record Fielded (count : ℕ) (t : Tables) (entries : List ℕ) (f m : ℕ) : Type 0 where
  pub strings : (g k : ℕ) → f ≤ g → g < f + m → g ≤ 7 → get_or entries g 0 ≡ suc k → Valued count t (get_or t.starts k 0) (get_or t.ends k 0)
  pub lists : (g k : ℕ) → f ≤ g → g < f + m → 7 < g → get_or entries g 0 ≡ suc k → Listed count t (get_or t.starts k 0) (get_or t.ends k 0)

-- where the fields' tokens and rows are, as the lines' reader leaves them: all are tokens, and the rows of a list's arguments stand below the tokens' count
pub record Spans (count : ℕ) (t : Tables) (entries : List ℕ) : Type 0 where
  pub strings : (f k : ℕ) → 1 ≤ f → f ≤ 7 → get_or entries f 0 ≡ suc k → get_or t.ends k 0 ≤ count
  pub lists : (f k : ℕ) → 7 < f → f ≤ 10 → get_or entries f 0 ≡ suc k → get_or t.starts k 0 + get_or t.ends k 0 ≤ 65536
  pub rows : (f k i : ℕ) → 7 < f → f ≤ 10 → get_or entries f 0 ≡ suc k → get_or t.starts k 0 ≤ i → i < get_or t.starts k 0 + get_or t.ends k 0 → get_or t.ends i 0 ≤ count
