-- What the writers of records need, and what they do. Assumes nothing.
use Rattle.std.specs.Prelude.{ℕ, zero, suc, ◌+◌, ◌*◌, ◌≤◌, ◌<◌, ◌≡◌, List, [], ◌++◌, length, take, drop}
use Rattle.rules.specs.Bytes.{to_little}
use Rattle.rules.specs.Records.{record_bytes, argument_records, records_of, records}
use Rattle.scan.specs.Stores.{puts}
use Rattle.workspace.specs.Map.{Room}
use Rattle.writer.specs.Tables.{Tables}
use Rattle.writer.specs.Writing.{Ready, Remembered, Suffices}
use Rattle.records.specs.Contents.{values_from, content_at, presents, Fielded}

-- a record's head: the payload's length, and the kind
abbrev pub head : ℕ → ℕ → List ℕ
head size kind = to_little 4 size ++ to_little 2 kind

-- the record of a list of m arguments, and theirs
abbrev pub list_bytes : Tables → ℕ → ℕ → ℕ → List ℕ
list_bytes t kind row m = record_bytes kind (to_little 4 m) ++ argument_records (values_from t row m)

-- the records of the field f, by its entry
unfoldable pub entry_bytes : Tables → ℕ → ℕ → List ℕ
entry_bytes t f zero = []
entry_bytes t f (suc k) = records_of f (content_at t f k)

-- the tables are ready, what is remembered is right, and there is room for the bytes bs from place `at` on
pub record Standing (t : Tables) (places stack out : List ℕ) (at : ℕ) (bs : List ℕ) : Type 0 where
  pub room : Suffices t places stack
  pub ready : Ready (length t.tokens) (length t.keys) t
  pub remembered : Remembered t places out at
  pub fits : at + length bs ≤ length out
  pub small : at + length bs < 4611686018427387904

-- what is needed to write the records of all fields, of which `entries` are the entries: `front` is the workspace up to the scratch
pub record Presentable (n v : ℕ) (t : Tables) (front entries places stack out : List ℕ) : Type 0 where
  pub long : length front ≡ 9 * n
  pub ready : Ready (length t.tokens) (length t.keys) t
  pub fielded : Fielded (length t.tokens) t entries 1 10
  pub known : 11 ≤ length entries
  pub for_places : 2 * v ≤ length places
  pub for_frames : 3 * v ≤ length stack
  pub fits : length (records (presents t entries 1 10)) ≤ length out

-- what `write_fields` asks
pub record Fieldable (n count v : ℕ) (t : Tables) (entries ws out : List ℕ) : Type 0 where
  pub room : Room n count v ws
  pub ready : Ready count v t
  pub fielded : Fielded count t entries 1 10
  pub fits : length (records (presents t entries 1 10)) ≤ length out

-- the workspace is as it was but for the writer's scratch, the entries from 9n up to 12n
pub record Apart (n : ℕ) (ws ws' : List ℕ) : Type 0 where
  pub long : length ws' ≡ length ws
  pub before : take (9 * n) ws' ≡ take (9 * n) ws
  pub past : drop (12 * n) ws' ≡ drop (12 * n) ws

-- and does: the bytes bs stand at the output's front, and the workspace is as it was but for the scratch
pub record Recorded (n : ℕ) (ws out bs ws' out' : List ℕ) (end : ℕ) : Type 0 where
  pub is_end : end ≡ length bs
  pub bytes : out' ≡ puts out 0 bs
  pub apart : Apart n ws ws'
