-- What reading lines leaves in the workspace, and what it answers. Assumes nothing.
use Rattle.std.specs.Prelude as Std
use Rattle.std.specs.Prelude.{ℕ, zero, suc, ◌+◌, ◌*◌, ◌/◌, ◌^◌, ◌≤◌, ◌<◌, ◌≡◌, true, false, List, Ok, Err, ltb, length, get_or, take, drop, set}
use Rattle.std.proofs.Math.Option.{some}
use Rattle.std.specs.Int.Bits.{bit_or}
use Rattle.rules.specs.Tokens.{Token, shown_name}
use Rattle.rules.specs.Numbers.{Refusal, Result, duplicate_field, refused, ok, ◌>>=◌}
use Rattle.rules.specs.Lines.{File, Item, no_lines, lines, keep, read_assignment, read_field, read_lines, is_string, field, field_keys}
use Rattle.rules.proofs.TableLaws.{Sorted}
use Rattle.answers.specs.declared.Refusal as Answers
use Rattle.answers.specs.Refusals.{Refuses}
use Rattle.tokens.specs.Entries.{decode, token_at, kind_at}
use Rattle.workspace.specs.Map.{dropped_kind, keys_from, keys_of, starts_of, ends_of, variables_from, variables_in, HoldsFrom, Holds, Room}
use Rattle.names.specs.Store.{All, Texts}
use Rattle.fields.specs.Seen.{bit_at, Marks}
use Rattle.lines.specs.Line.{EndsLine, Stands, ending_at}
use Rattle.lines.specs.Rows.{RowWithin}
use Rattle.parser.specs.declared.Progress.{Progress}
use Rattle.parser.specs.declared.places.Layout.{Layout}
use Rattle.parser.specs.declared.places.Line.{Line}
use Rattle.parser.specs.Places.{past}

-- the value of the variable whose key is token k lies before token j
pub record VariableWithin (n j : ℕ) (ws : List ℕ) (k : ℕ) : Type 0 where
  pub key : k < j
  pub order : get_or (starts_of n ws) k 0 ≤ get_or (ends_of n ws) k 0
  pub high : get_or (ends_of n ws) k 0 ≤ j

-- the value of field f, whose key is token k, lies before token j: its tokens, or its rows and their tokens
pub record FieldWithin (n f j : ℕ) (ws : List ℕ) (k : ℕ) : Type 0 where
  pub key : k < j
  pub string : is_string f ≡ true → VariableWithin n j ws k
  pub rows : is_string f ≡ false → get_or (starts_of n ws) k 0 + get_or (ends_of n ws) k 0 ≤ j
  pub arguments : is_string f ≡ false → (i : ℕ) → get_or (starts_of n ws) k 0 ≤ i → i < get_or (starts_of n ws) k 0 + get_or (ends_of n ws) k 0 → RowWithin n 0 j ws i

-- by what the field's entry holds
abbrev pub EntryWithin : ℕ → ℕ → ℕ → List ℕ → ℕ → Type 0
EntryWithin n f j ws zero = Unit {0}
EntryWithin n f j ws (suc k) = FieldWithin n f j ws k

-- all that the map reads lies before token j
pub record Within (first n v j : ℕ) (ws : List ℕ) : Type 0 where
  pub variables : All (VariableWithin n j ws) (keys_from first v ws)
  pub fields : (f : ℕ) → 1 ≤ f → f ≤ 10 → EntryWithin n f j ws (get_or ws (12 * n + f) 0)

-- tokens from j on that are yet to be read: none was dropped
abbrev pub Fresh : ℕ → ℕ → List ℕ → Type 0
Fresh count j ws = (k : ℕ) → j ≤ k → k < count → kind_at count ws k ≡ dropped_kind → ⊥

-- the lines before token j are read; the v keys stand from place `first` on, about the middle of their column
pub record Ready (first n count v j : ℕ) (ws pool : List ℕ) : Type 0 where
  pub small : n ≤ 65535
  pub room : 12 * n + 64 ≤ length ws
  pub tokens : count ≤ n
  pub on : j ≤ count
  pub few : 3 * v ≤ j + 1
  pub few_more : j < count → 3 * v ≤ j
  pub low : 4 * n + n / 2 ≤ first + v
  pub high : first ≤ 4 * n + n / 2
  pub sorted : Sorted (variables_from first n count v ws pool)
  pub texts : Texts (decode count ws pool) (keys_from first v ws)
  pub within : Within first n v j ws
  pub fresh : Fresh count j ws

-- and this is the file that they say; `seen` has its fields
pub record Held (first n count v seen : ℕ) (ws pool : List ℕ) (file : File) : Type 0 where
  pub holds : HoldsFrom first n count v ws pool file
  pub marks : Marks seen file.fields

-- what a line that reads as `item` makes of the lines before it
abbrev pub Takes : ℕ → ℕ → ℕ → List ℕ → List ℕ → List ℕ → Progress → Result Item → Std.Result Progress Answers.Refusal → Type 0
Takes n count end ws ws' pool s item (Ok t) =
    (t.next ≡ past count end) × Ready t.first n count t.variables t.next ws' pool × (drop t.next (decode count ws' pool) ≡ drop t.next (decode count ws pool))
    × ((file : File) → Held s.first n count s.variables s.seen.0 ws pool file
    → (more : File) × ((item >>= keep file) ≡ ok more) × Held t.first n count t.variables t.seen.0 ws' pool more)
Takes n count end ws ws' pool s item (Err a) =
    (file : File) → Held s.first n count s.variables s.seen.0 ws pool file → (r : Refusal) × ((item >>= keep file) ≡ refused r) × Refuses a r

-- a line whose key and value stand at `key` and `from`
pub record AtValue (n count end key from : ℕ) (ws pool : List ℕ) (s : Progress) : Type 0 where
  pub ready : Ready s.first n count s.variables s.next ws pool
  pub ends : EndsLine (decode count ws pool) s.next end
  pub in_tokens : end ≤ count
  pub stands : Stands (decode count ws pool) end s.next key from

-- the same by layout and line: where it stands, what it makes, and what it says with `=` or `:`
abbrev pub AtLine : Layout → Line → List ℕ → List ℕ → Progress → Type 0
AtLine layout line ws pool s = AtValue layout.n layout.count line.end line.key line.from ws pool s

abbrev pub TakesLine : Layout → Line → List ℕ → List ℕ → List ℕ → Progress → Result Item → Std.Result Progress Answers.Refusal → Type 0
TakesLine layout line ws ws' pool s item r = Takes layout.n layout.count line.end ws ws' pool s item r

abbrev pub assignment_in : Layout → Line → List ℕ → List ℕ → Result Item
assignment_in layout line ws pool = let ts = decode layout.count ws pool in read_assignment (token_at ts line.key) (ending_at ts line.end) (drop line.from (take line.end ts))

abbrev pub field_in_line : Layout → Line → List ℕ → List ℕ → Result Item
field_in_line layout line ws pool = let ts = decode layout.count ws pool in read_field (token_at ts line.key) (ending_at ts line.end) (drop line.from (take line.end ts))

-- f is the number of the key's field
pub record IsField (f : ℕ) (key : Token) : Type 0 where
  pub low : 1 ≤ f
  pub high : f ≤ 10
  pub is : field 1 field_keys key.text ≡ some f

-- what keeping a field does, whose value's entries are a and b
abbrev pub kept_field : ℕ → ℕ → ℕ → ℕ → ℕ → List ℕ → List ℕ
kept_field n key a b f ws = set (set (set ws (5 * n + key) a) (6 * n + key) b) (12 * n + f) (key + 1)

abbrev pub KeepsField : ℕ → ℕ → ℕ → ℕ → ℕ → ℕ → ℕ → List ℕ → List ℕ → List ℕ → Progress → Std.Result Progress Answers.Refusal → Type 0
KeepsField n count end key a b f ws ws' pool s (Ok t) =
    (bit_at s.seen.0 f ≡ false) × (t.variables ≡ s.variables) × (t.first ≡ s.first) × (t.seen.0 ≡ bit_or s.seen.0 (2 ^ f)) × (t.next ≡ past count end) × (ws' ≡ kept_field n key a b f ws)
KeepsField n count end key a b f ws ws' pool s (Err x) = (bit_at s.seen.0 f ≡ true) × Refuses x (duplicate_field (shown_name (token_at (decode count ws pool) key)))

-- what is past the workspace's part for a text of n bytes is as it was
abbrev pub Beyond : ℕ → List ℕ → List ℕ → Type 0
Beyond n ws ws' = drop (12 * n + 64) ws' ≡ drop (12 * n + 64) ws

-- what one line makes of the lines before it
abbrev pub Steps : ℕ → ℕ → List ℕ → List ℕ → List ℕ → Progress → Std.Result Progress Answers.Refusal → Type 0
Steps n count ws ws' pool s (Ok t) =
    Ready t.first n count t.variables t.next ws' pool × (s.next < t.next)
    × ((file : File) → Held s.first n count s.variables s.seen.0 ws pool file
    → (more : File) × (read_lines file (lines (drop s.next (decode count ws pool))) ≡ read_lines more (lines (drop t.next (decode count ws' pool)))) × Held t.first n count t.variables t.seen.0 ws' pool more)
Steps n count ws ws' pool s (Err a) =
    (file : File) → Held s.first n count s.variables s.seen.0 ws pool file → (r : Refusal) × (read_lines file (lines (drop s.next (decode count ws pool))) ≡ refused r) × Refuses a r

-- no field is in the workspace
abbrev pub NoFields : ℕ → List ℕ → Type 0
NoFields n ws = (f : ℕ) → f ≤ 10 → get_or ws (12 * n + f) 0 ≡ 0

-- what reading all lines asks: no token has the kind of those dropped
pub record Parsable (n count : ℕ) (ws : List ℕ) : Type 0 where
  pub small : n ≤ 65535
  pub room : 12 * n + 64 ≤ length ws
  pub tokens : count ≤ n
  pub fresh : Fresh count 0 ws

-- what the layers above are given: the file, where it lies, and what looking up asks
pub record FileHeld (n count v : ℕ) (ws pool : List ℕ) (file : File) : Type 0 where
  pub holds : Holds n count v ws pool file
  pub room : Room n count v ws
  pub within : Within (4 * n) n v count ws
  pub texts : Texts (decode count ws pool) (keys_of n v ws)
  pub sorted : Sorted (variables_in n count v ws pool)

-- THE ANSWER: the file that the workspace holds, or the first refusal
abbrev pub Parses : ℕ → ℕ → List ℕ → List ℕ → List ℕ → Std.Result ℕ Answers.Refusal → Type 0
Parses n count ws ws' pool (Ok v) = (file : File) × (read_lines no_lines (lines (decode count ws pool)) ≡ ok file) × FileHeld n count v ws' pool file
Parses n count ws ws' pool (Err a) = (r : Refusal) × (read_lines no_lines (lines (decode count ws pool)) ≡ refused r) × Refuses a r
