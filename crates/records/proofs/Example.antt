-- A workspace on which `measure` and `write_fields` may be called, as `a=x` and `Libs: ${a}` leave it: what they require can be met. Assumes nothing.
use Prim.Native.Nat.{ℕ, zero, suc, ◌<◌, ◌≤◌}
use mathlib.Core.Path.{◌≡◌, refl}
use mathlib.Core.List.{List, [], ◌∷◌}
use native.Mathlib.Decide.{dec_lt}
use native.Mathlib.Omega.{arith}
use lib.ListN.{length, get_or, replicate}
use Rattle.rules.specs.Bytes.{pick, to_little}
use Rattle.rules.specs.Tokens.{token, is_a}
use Rattle.rules.specs.Lines.{is_string}
use Rattle.rules.specs.Variables.{limit, bounded, expand, pass, left, passes, resolve}
use Rattle.rules.specs.Records.{record_bytes, argument_records, records_of, records}
use Rattle.rules.proofs.Lengths.{entry, entries}
use Rattle.tokens.specs.Entries.{from_entry, decode}
use Rattle.workspace.specs.Map.{pieces_of, rules_in}
use Rattle.passes.specs.Sums.{size_of, advance}
use Rattle.writer.specs.Tables.{Tables, values_of, value, joined, tables_in}
use Rattle.writer.specs.Writing.{Ready}
use Rattle.records.specs.Contents.{fields_of, values_from, content_at, present_at, presents, Valued, Listed}
use Rattle.records.specs.Measuring.{on_sum, on_need, measure_rows, measure_entry, measure_fields, measure_in}
use Rattle.records.specs.Recording.{Fieldable}
use Rattle.std.specs.Prelude.{Ok}

-- the map for n = 5: tokens, then a line a column; the fields' entries; the rest
abbrev ws : List ℕ
ws =
    1 ∷ 0 ∷ 1 ∷ 0 ∷ 4 ∷ 61 ∷ 1 ∷ 1 ∷ 1 ∷ 1 ∷ 1 ∷ 2 ∷ 1 ∷ 2 ∷ 4 ∷ 4 ∷ 2 ∷ 6 ∷ 1 ∷ 10
    ∷ 0 ∷ 0 ∷ 0 ∷ 0 ∷ 0
    ∷ 2 ∷ 0 ∷ 0 ∷ 4 ∷ 4
    ∷ 3 ∷ 0 ∷ 0 ∷ 1 ∷ 5
    ∷ 0 ∷ 0 ∷ 0 ∷ 0 ∷ 0
    ∷ 2 ∷ 0 ∷ 0 ∷ 0 ∷ 0
    ∷ 9 ∷ 9 ∷ 9 ∷ 9 ∷ 9 ∷ 9 ∷ 9 ∷ 9 ∷ 9 ∷ 9 ∷ 9 ∷ 9 ∷ 9 ∷ 9 ∷ 9
    ∷ 0 ∷ 0 ∷ 0 ∷ 0 ∷ 0 ∷ 0 ∷ 0 ∷ 0 ∷ 0 ∷ 4 ∷ 0
    ∷ replicate 53 9

abbrev pool : List ℕ
pool = 97 ∷ 120 ∷ 76 ∷ 105 ∷ 98 ∷ 115 ∷ 97 ∷ []

abbrev t : Tables
t = tables_in 5 5 1 ws pool

ready : Ready 5 1 t
unfolding values_of rules_in decode from_entry token pieces_of is_a pick resolve passes pass left expand bounded limit entries entry
ready = record { resolves = refl; lengths = refl; in_table = λ j h. below j h }
  where
    below : (j : ℕ) → j < 1 → get_or t.ends (get_or t.keys j 0) 0 ≤ 5
    below zero h = omega arith
    below (suc j) h = absurd (omega arith)

valued : Valued 5 t 4 5
unfolding values_of rules_in decode from_entry token pieces_of is_a pick resolve passes pass left expand bounded limit joined value
valued = record { in_table = omega arith; expands = refl }

pub needs : measure_in 5 5 1 ws pool ≡ Ok 17
unfolding measure_fields measure_entry measure_rows on_sum on_need advance size_of is_string decode from_entry token is_a pick
needs = refl

length-is : length (records (presents t (fields_of 5 ws) 1 10)) ≡ 17
unfolding records records_of record_bytes argument_records to_little presents present_at content_at values_from is_string values_of rules_in decode from_entry token pieces_of is_a pick resolve passes pass left expand bounded limit joined value
length-is = refl

none_of : (g k : ℕ) → g ≤ 8 → get_or (fields_of 5 ws) g 0 ≡ suc k → ⊥
none_of zero k h e = omega arith
none_of (suc zero) k h e = omega arith
none_of (suc (suc zero)) k h e = omega arith
none_of (suc (suc (suc zero))) k h e = omega arith
none_of (suc (suc (suc (suc zero)))) k h e = omega arith
none_of (suc (suc (suc (suc (suc zero))))) k h e = omega arith
none_of (suc (suc (suc (suc (suc (suc zero)))))) k h e = omega arith
none_of (suc (suc (suc (suc (suc (suc (suc zero))))))) k h e = omega arith
none_of (suc (suc (suc (suc (suc (suc (suc (suc zero)))))))) k h e = omega arith
none_of (suc (suc (suc (suc (suc (suc (suc (suc (suc g))))))))) k h e = omega arith

listed : Listed 5 t 4 1
listed = record { few = omega arith; each = λ i a b. (let e : i ≡ 4 = omega arith in rw e valued) }

list_of : (g k : ℕ) → 7 < g → g < 11 → get_or (fields_of 5 ws) g 0 ≡ suc k → Listed 5 t (get_or t.starts k 0) (get_or t.ends k 0)
list_of g k a b e = go (dec_lt g 9) (dec_lt 9 g)
  where
    go : Dec (g < 9) → Dec (9 < g) → Listed 5 t (get_or t.starts k 0) (get_or t.ends k 0)
    go (yes l) d = absurd (none_of g k (omega arith) e)
    go (no l) (yes h) = absurd (let q : g ≡ 10 = omega arith in let z : 0 ≡ suc k = rw q at e in omega arith)
    go (no l) (no h) = let q : g ≡ 9 = omega arith in let z : 4 ≡ suc k = rw q at e in let y : k ≡ 3 = omega arith in rw y listed

pub fieldable : Fieldable 5 5 1 t (fields_of 5 ws) ws (replicate 17 0)
fieldable =
    record {
      room = record { small = omega arith; room = omega arith; tokens = omega arith; few = omega arith };
      ready = ready;
      fielded = record { strings = λ g k a b c e. absurd (none_of g k (omega arith) e); lists = λ g k a b c e. list_of g k c (omega arith) e };
      fits = omega (arith, length-is);
    }
