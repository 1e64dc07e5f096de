-- What measuring answers is what the rules resolve the fields to, and where it answers a need, the records can be written. Assumes nothing.
use Prim.Native.Nat.{ℕ, zero, suc, ◌+◌, ◌*◌, ◌-◌, ◌≤◌, ◌<◌}
use mathlib.Core.Path.{◌≡◌, refl, sym, ◌∙◌, ap, subst}
use mathlib.Core.Bool.{Bool, true, false}
use mathlib.Core.List.{List, [], map}
use mathlib.Core.Option.{none, some}
use native.Mathlib.Decide.{dec_lt}
use native.Mathlib.Omega.{arith}
use lib.ListN.{length, get_or, drop, length-append}
use lib.Seq.{get_or-take, get_or-drop}
use Rattle.rules.specs.Bytes.{pick, to_little}
use Rattle.rules.specs.Tokens.{Token}
use Rattle.rules.specs.Numbers.{WhileResolving, in_field, undefined_variable, content_too_large, Result, refused, ok, ◌>>=◌}
use Rattle.rules.specs.Lines.{Part, is_string, File, field_at}
use Rattle.rules.specs.Variables.{Expansion, large, missing, expand, look_up}
use Rattle.rules.specs.Fields.{expanded, Content, resolve_parts, resolve_arguments, resolve_template, fields_from, resolve_fields}
use Rattle.rules.specs.Records.{record_bytes, argument_records, records_of, records}
use Rattle.scan.proofs.Littles.{length-little}
use Rattle.tokens.specs.Entries.{decode, token_at}
use Rattle.workspace.specs.Map.{Room, starts_of, ends_of, parts_between, arguments_from, template_at, field_of_entry, field_in, Looked, Holds}
use Rattle.workspace.proofs.Links.{between-looked, keys_length}
use Rattle.passes.specs.Sums.{size_at, Advance}
use Rattle.passes.specs.declared.sums.Stop.TheVariants.{Over, Missing}
use Rattle.passes.proofs.FieldSums as sums
use Rattle.writer.specs.Tables.{Tables, tables_in, pieces, value_between}
use Rattle.writer.specs.Writing.{Ready}
use Rattle.writer.proofs.Uses as uses
use Rattle.records.specs.Contents.{fields_of, values_from, content_at, present_at, presents, Spans}
use Rattle.records.specs.Measuring.{Measured, on_sum, on_need, sum_of_row, measure_rows, measure_entry, measure_fields, measure_in}
use Rattle.records.specs.Recording.{entry_bytes, Fieldable}
use Rattle.std.specs.Prelude.{Ok, Err}
use Rattle.records.specs.declared.measure.Stop.TheVariants.{Undefined, TooLarge}
use Rattle.records.proofs.Lists.{record-long}
use Rattle.records.proofs.Fieldings.{records-front, string-number, list-number}

expanded-ok : (w : WhileResolving) (x : Expansion) (u : List ℕ) → expanded w x ≡ ok u → x ≡ Expansion.value u
unfolding expanded
expanded-ok w large u e = let z : ◌≡◌ {A = ℕ} 0 1 = cc in absurd (omega arith)
expanded-ok w (missing n) u e = let z : ◌≡◌ {A = ℕ} 0 1 = cc in absurd (omega arith)
expanded-ok w (Expansion.value v) u e = let q : v ≡ u = cc in ap Expansion.value q

-- the workspace holds the file, its references are looked up, and its variables are resolved
module _ (n count v : ℕ) (ws pool : List ℕ) (file : File) (room : Room n count v ws) (ready : Ready count v (tables_in n count v ws pool)) (holds : Holds n count v ws pool file)
    (looked : Looked n count ws pool file.variables) where
  abbrev t : Tables
  t = tables_in n count v ws pool

  abbrev ts : List Token
  ts = decode count ws pool

  abbrev parts : ℕ → List Part
  parts i = parts_between ts (get_or (starts_of n ws) i 0) (get_or (ends_of n ws) i 0)

  abbrev bytes_of : ℕ → List ℕ
  bytes_of i = value_between t (get_or (starts_of n ws) i 0) (get_or (ends_of n ws) i 0)

  -- the tokens of row i have a value
  abbrev Expands : ℕ → Type 0
  Expands i = expand t.values [] (pieces t (get_or (starts_of n ws) i 0) (get_or (ends_of n ws) i 0)) ≡ Expansion.value (bytes_of i)

  module _ (w : WhileResolving) (i : ℕ) where
    row-value : (u : List ℕ) → resolve_parts file.variables t.values w (parts i) ≡ ok u → (u ≡ bytes_of i) × Expands i
    unfolding resolve_parts
    row-value u e =
        let from : ℕ = get_or (starts_of n ws) i 0 in
        let to : ℕ = get_or (ends_of n ws) i 0 in
        let k = keys_length n count v ws pool (omega (arith, room.room, room.few, room.tokens)) in
        let x : expand t.values [] (pieces t from to) ≡ Expansion.value u
        = ap (expand t.values []) (between-looked n count ws pool file.variables looked from to) ∙ expanded-ok w (expand t.values [] (map (look_up file.variables) (parts i))) u e in
        let y = (uses.expanded ready k (pieces t from to) u x).1 in
        (y, x ∙ ap Expansion.value y)

    abbrev RowSays : Advance → Type 0
    RowSays (Err Over) = resolve_parts file.variables t.values w (parts i) ≡ refused (content_too_large w)
    RowSays (Err (Missing j s)) = resolve_parts file.variables t.values w (parts i) ≡ refused (undefined_variable (token_at ts j) w)
    RowSays (Ok x) = (resolve_parts file.variables t.values w (parts i) ≡ ok (bytes_of i)) × (x ≡ length (bytes_of i)) × Expands i

    row_by : (a : Advance) → sums.Measured n count v ws pool file.variables t.values looked ready.lengths w (get_or (starts_of n ws) i 0) (get_or (ends_of n ws) i 0) a → RowSays a
    row_by (Err Over) m = m
    row_by (Err (Missing j s)) m = m
    row_by (Ok x) m = let y = row-value m.0 m.1 in (m.1 ∙ ap ok y.0, sym m.2 ∙ ap length y.0, y.1)

    row-says : RowSays (sum_of_row (size_at n count v ws pool) (starts_of n ws) (ends_of n ws) i)
    row-says =
        row_by (sum_of_row (size_at n count v ws pool) (starts_of n ws) (ends_of n ws) i)
        (sums.measured n count v ws pool file.variables t.values looked ready.lengths w (get_or (starts_of n ws) i 0) (get_or (ends_of n ws) i 0) _ refl)

  -- the field f whose key is token `key`
  module _ (f : ℕ) (key : Token) where
    abbrev rest : ℕ → ℕ → Result (List (List ℕ))
    rest i m = resolve_arguments file.variables t.values (in_field f key) (arguments_from ts (starts_of n ws) (ends_of n ws) i m)

    abbrev RowsSay : ℕ → ℕ → ℕ → Measured → Type 0
    RowsSay need i m (Ok x) = (rest i m ≡ ok (values_from t i m)) × (x ≡ need + length (argument_records (values_from t i m))) × ((k : ℕ) → i ≤ k → k < i + m → Expands k)
    RowsSay need i m (Err (Undefined g j)) = (g ≡ f) × (rest i m ≡ refused (undefined_variable (token_at ts j) (in_field f key)))
    RowsSay need i m (Err (TooLarge g)) = (g ≡ f) × (rest i m ≡ refused (content_too_large (in_field f key)))

    -- one argument more
    more : (need i m x : ℕ) → (resolve_parts file.variables t.values (in_field f key) (parts i) ≡ ok (bytes_of i)) × (x ≡ length (bytes_of i)) × Expands i
        → (r : Measured) → RowsSay (need + (6 + x)) (suc i) m r → RowsSay need i (suc m) r
    unfolding arguments_from resolve_arguments ◌>>=◌ values_from argument_records
    more need i m x h (Ok y) q = (
      rw (h.0, q.0) refl,
      omega (arith, q.1, h.1, length-append (record_bytes 11 (bytes_of i)) (argument_records (values_from t (suc i) m)), record-long 11 (bytes_of i)),
      λ k a b. first k a b,
    )
      where
        first : (k : ℕ) → i ≤ k → k < i + suc m → Expands k
        first k a b = elim (dec_lt i k) [ yes l ↦ q.2 k (omega arith) (omega arith) | no l ↦ (let e : i ≡ k = omega arith in subst Expands e h.2) ]
    more need i m x h (Err (Undefined g j)) q = (q.0, rw (h.0, q.1) refl)
    more need i m x h (Err (TooLarge g)) q = (q.0, rw (h.0, q.1) refl)

    rows-say : (m need i : ℕ) → RowsSay need i m (measure_rows (size_at n count v ws pool) (starts_of n ws) (ends_of n ws) f need i m)
    unfolding measure_rows on_sum arguments_from resolve_arguments ◌>>=◌ values_from argument_records
    rows-say zero need i = (refl, omega arith, λ k a b. absurd (omega arith))
    rows-say (suc m) need i =
        go (sum_of_row (size_at n count v ws pool) (starts_of n ws) (ends_of n ws) i) (row-says (in_field f key) i) (λ x. rows-say m (need + (6 + x)) (suc i))
      where
        go : (a : Advance) → RowSays (in_field f key) i a
            → ((x : ℕ) → RowsSay (need + (6 + x)) (suc i) m (measure_rows (size_at n count v ws pool) (starts_of n ws) (ends_of n ws) f (need + (6 + x)) (suc i) m))
            → RowsSay need i (suc m) (on_sum f a (λ x. measure_rows (size_at n count v ws pool) (starts_of n ws) (ends_of n ws) f (need + (6 + x)) (suc i) m))
        go (Err Over) h ih = (refl, rw h refl)
        go (Err (Missing j s)) h ih = (refl, rw h refl)
        go (Ok x) h ih = more need i m x h (measure_rows (size_at n count v ws pool) (starts_of n ws) (ends_of n ws) f (need + (6 + x)) (suc i) m) (ih x)

  -- what the rules resolve the field f whose key is token k to
  abbrev whole : ℕ → ℕ → Result Content
  whole f k = resolve_template file.variables t.values (in_field f (token_at ts k)) (template_at ts (starts_of n ws) (ends_of n ws) f k)

  -- its tokens have values
  abbrev Shown : ℕ → ℕ → Type 0
  Shown f k = (f ≤ 7 → Expands k) × (7 < f → (i : ℕ) → get_or (starts_of n ws) k 0 ≤ i → i < get_or (starts_of n ws) k 0 + get_or (ends_of n ws) k 0 → Expands i)

  module _ (f need k : ℕ) where
    abbrev EntrySays : Measured → Type 0
    EntrySays (Ok x) = (whole f k ≡ ok (content_at t f k)) × (x ≡ need + length (records_of f (content_at t f k))) × Shown f k
    EntrySays (Err (Undefined g j)) = (g ≡ f) × (whole f k ≡ refused (undefined_variable (token_at ts j) (in_field f (token_at ts k))))
    EntrySays (Err (TooLarge g)) = (g ≡ f) × (whole f k ≡ refused (content_too_large (in_field f (token_at ts k))))

    string-says : is_string f ≡ true → (a : Advance) → RowSays (in_field f (token_at ts k)) k a → EntrySays (on_sum f a (λ x. Ok (need + (6 + x))))
    unfolding on_sum template_at content_at resolve_template records_of ◌>>=◌ pick
    string-says q (Err Over) h = (refl, rw (q, h) refl)
    string-says q (Err (Missing j s)) h = (refl, rw (q, h) refl)
    string-says q (Ok x) h = (
      rw (q, h.0) refl,
      rw q (omega (arith, h.1, record-long f (bytes_of k))),
      ((λ l. h.2), λ l. absurd (omega (arith, string-number f q))),
    )

    values-long : (m i : ℕ) → length (values_from t i m) ≡ m
    unfolding values_from
    values-long zero i = refl
    values-long (suc m) i = ap suc (values-long m (suc i))

    list-says : is_string f ≡ false → (r : Measured) → RowsSay f (token_at ts k) (need + 10) (get_or (starts_of n ws) k 0) (get_or (ends_of n ws) k 0) r → EntrySays r
    unfolding template_at content_at resolve_template records_of ◌>>=◌ pick
    list-says q (Ok x) h =
        let l = values-long (get_or (ends_of n ws) k 0) (get_or (starts_of n ws) k 0) in
        let vs : List (List ℕ) = values_from t (get_or (starts_of n ws) k 0) (get_or (ends_of n ws) k 0) in (
          rw (q, h.0) refl,
          rw (q, records_of)
              (omega (arith, h.1, length-append (record_bytes f (to_little 4 (length vs))) (argument_records vs), record-long f (to_little 4 (length vs)), length-little 4 (length vs))),
          ((λ l. absurd (omega (arith, list-number f q))), λ l. h.2),
        )
    list-says q (Err (Undefined g j)) h = (h.0, rw (q, h.1) refl)
    list-says q (Err (TooLarge g)) h = (h.0, rw (q, h.1) refl)

    entry-says : EntrySays (measure_entry (size_at n count v ws pool) (starts_of n ws) (ends_of n ws) f need (suc k))
    unfolding measure_entry pick
    entry-says = go (is_string f) refl
      where
        go : (b : Bool) → is_string f ≡ b → EntrySays (measure_entry (size_at n count v ws pool) (starts_of n ws) (ends_of n ws) f need (suc k))
        go true q =
            let e : on_sum f (sum_of_row (size_at n count v ws pool) (starts_of n ws) (ends_of n ws) k) (λ x. Ok (need + (6 + x)))
            ≡ measure_entry (size_at n count v ws pool) (starts_of n ws) (ends_of n ws) f need (suc k) = rw q refl in
            subst EntrySays e (string-says q (sum_of_row (size_at n count v ws pool) (starts_of n ws) (ends_of n ws) k) (row-says (in_field f (token_at ts k)) k))
        go false q =
            let e : measure_rows (size_at n count v ws pool) (starts_of n ws) (ends_of n ws) f (need + 10) (get_or (starts_of n ws) k 0) (get_or (ends_of n ws) k 0)
            ≡ measure_entry (size_at n count v ws pool) (starts_of n ws) (ends_of n ws) f need (suc k) = rw q refl in
            subst EntrySays e
            (list-says q (measure_rows (size_at n count v ws pool) (starts_of n ws) (ends_of n ws) f (need + 10) (get_or (starts_of n ws) k 0) (get_or (ends_of n ws) k 0))
            (rows-say f (token_at ts k) (get_or (ends_of n ws) k 0) (need + 10) (get_or (starts_of n ws) k 0)))

  -- the key token of the field g, where it is there
  abbrev key_of : ℕ → Token
  key_of g = token_at ts (get_or (fields_of n ws) g 0 - 1)

  abbrev FieldsSay : ℕ → ℕ → ℕ → Measured → Type 0
  FieldsSay need f m (Ok x) =
      (fields_from m f file t.values ≡ ok (presents t (fields_of n ws) f m)) × (x ≡ need + length (records (presents t (fields_of n ws) f m)))
      × ((g k : ℕ) → f ≤ g → g < f + m → get_or (fields_of n ws) g 0 ≡ suc k → Shown g k)
  FieldsSay need f m (Err (Undefined g j)) = fields_from m f file t.values ≡ refused (undefined_variable (token_at ts j) (in_field g (key_of g)))
  FieldsSay need f m (Err (TooLarge g)) = fields_from m f file t.values ≡ refused (content_too_large (in_field g (key_of g)))

  field_is : (f : ℕ) → 1 ≤ f → f ≤ 10 → field_at f file.fields ≡ field_of_entry ts (starts_of n ws) (ends_of n ws) f (get_or (fields_of n ws) f 0)
  unfolding field_in
  field_is f a b =
      sym (holds.fields f a b)
      ∙ ap (field_of_entry ts (starts_of n ws) (ends_of n ws) f) (sym (get_or-take 11 (drop (12 * n) ws) f 0 (omega arith) ∙ get_or-drop (12 * n) ws f 0))

  module _ (f need m k : ℕ) (e : get_or (fields_of n ws) f 0 ≡ suc k) (is : field_at f file.fields ≡ some (record { number = f; key = token_at ts k; value = template_at ts (starts_of n ws) (ends_of n ws) f k })) where
    next : (x : ℕ) → (whole f k ≡ ok (content_at t f k)) × (x ≡ need + length (records_of f (content_at t f k))) × Shown f k → (r : Measured) → FieldsSay x (suc f) m r → FieldsSay need f (suc m) r
    unfolding fields_from presents present_at entry_bytes ◌>>=◌
    next x h (Ok y) q = (
      rw (is, fields_from, h.0, q.0, e) refl,
      omega (arith, q.1, h.1, ap length (records-front t (fields_of n ws) f m), length-append (entry_bytes t f (get_or (fields_of n ws) f 0)) (records (presents t (fields_of n ws) (suc f) m)), ap (λ (j : ℕ). length (entry_bytes t f j)) e),
      λ g i a b p. first g i a b p,
    )
      where
        first : (g i : ℕ) → f ≤ g → g < f + suc m → get_or (fields_of n ws) g 0 ≡ suc i → Shown g i
        first g i a b p = elim (dec_lt f g) [
          | yes l ↦ q.2 g i (omega arith) (omega arith) p
          | no l ↦ (
              let z : f ≡ g = omega arith in
              let y : get_or (fields_of n ws) f 0 ≡ suc i = subst (λ (j : ℕ). get_or (fields_of n ws) j 0 ≡ suc i) (sym z) p in
              let w : k ≡ i = omega arith in
              subst (λ (j : ℕ). Shown j i) z (subst (λ (j : ℕ). Shown f j) w h.2))
        ]
    next x h (Err (Undefined g j)) q = rw (is, fields_from, h.0, q) refl
    next x h (Err (TooLarge g)) q = rw (is, fields_from, h.0, q) refl

    key-is : key_of f ≡ token_at ts k
    key-is = ap (λ (j : ℕ). token_at ts j) (omega (arith, e))

    one : (r : Measured) → EntrySays f need k r → ((x : ℕ) → FieldsSay x (suc f) m (measure_fields (size_at n count v ws pool) (starts_of n ws) (ends_of n ws) (fields_of n ws) x (suc f) m))
        → FieldsSay need f (suc m) (on_need r (λ x. measure_fields (size_at n count v ws pool) (starts_of n ws) (ends_of n ws) (fields_of n ws) x (suc f) m))
    unfolding on_need fields_from ◌>>=◌
    one (Ok x) h ih = next x h (measure_fields (size_at n count v ws pool) (starts_of n ws) (ends_of n ws) (fields_of n ws) x (suc f) m) (ih x)
    one (Err (Undefined g j)) h ih = let z : g ≡ f = h.0 in rw (is, fields_from, h.1, z, key-is) refl
    one (Err (TooLarge g)) h ih = let z : g ≡ f = h.0 in rw (is, fields_from, h.1, z, key-is) refl

  fields-say : (m need f : ℕ) → 1 ≤ f → f + m ≤ 11 → FieldsSay need f m (measure_fields (size_at n count v ws pool) (starts_of n ws) (ends_of n ws) (fields_of n ws) need f m)
  unfolding measure_fields measure_entry on_need fields_from field_of_entry presents present_at records
  fields-say zero need f a b = (refl, omega arith, λ g k c d. absurd (omega arith))
  fields-say (suc m) need f a b = go (get_or (fields_of n ws) f 0) refl (λ x. fields-say m x (suc f) (omega arith) (omega arith))
    where
      absent : (r : Measured) → get_or (fields_of n ws) f 0 ≡ 0 → FieldsSay need (suc f) m r → FieldsSay need f (suc m) r
      absent (Ok x) q h =
          let is : field_at f file.fields ≡ none = field_is f a (omega arith) ∙ ap (field_of_entry ts (starts_of n ws) (ends_of n ws) f) q in (
            rw (is, fields_from, q) h.0,
            rw q h.1,
            λ g k c d p.
                elim (dec_lt f g) [
                  | yes l ↦ h.2 g k (omega arith) (omega arith) p
                  | no l ↦ absurd (let z : f ≡ g = omega arith in let y : get_or (fields_of n ws) f 0 ≡ suc k = subst (λ (j : ℕ). get_or (fields_of n ws) j 0 ≡ suc k) (sym z) p in omega arith)
                ],
          )
      absent (Err (Undefined g j)) q h =
          let is : field_at f file.fields ≡ none = field_is f a (omega arith) ∙ ap (field_of_entry ts (starts_of n ws) (ends_of n ws) f) q in
          rw (is, fields_from) h
      absent (Err (TooLarge g)) q h =
          let is : field_at f file.fields ≡ none = field_is f a (omega arith) ∙ ap (field_of_entry ts (starts_of n ws) (ends_of n ws) f) q in
          rw (is, fields_from) h

      go : (k : ℕ) → get_or (fields_of n ws) f 0 ≡ k → ((x : ℕ) → FieldsSay x (suc f) m (measure_fields (size_at n count v ws pool) (starts_of n ws) (ends_of n ws) (fields_of n ws) x (suc f) m))
          → FieldsSay need f (suc m) (on_need (measure_entry (size_at n count v ws pool) (starts_of n ws) (ends_of n ws) f need (get_or (fields_of n ws) f 0)) (λ x. measure_fields (size_at n count v ws pool) (starts_of n ws) (ends_of n ws) (fields_of n ws) x (suc f) m))
      go zero q ih =
          subst (λ (j : ℕ). FieldsSay need f (suc m) (on_need (measure_entry (size_at n count v ws pool) (starts_of n ws) (ends_of n ws) f need j) (λ x. measure_fields (size_at n count v ws pool) (starts_of n ws) (ends_of n ws) (fields_of n ws) x (suc f) m))) (sym q)
          (absent (measure_fields (size_at n count v ws pool) (starts_of n ws) (ends_of n ws) (fields_of n ws) need (suc f) m) q (ih need))
      go (suc k) q ih =
          subst (λ (j : ℕ). FieldsSay need f (suc m) (on_need (measure_entry (size_at n count v ws pool) (starts_of n ws) (ends_of n ws) f need j) (λ x. measure_fields (size_at n count v ws pool) (starts_of n ws) (ends_of n ws) (fields_of n ws) x (suc f) m))) (sym q)
          (one f need m k q (field_is f a (omega arith) ∙ ap (field_of_entry ts (starts_of n ws) (ends_of n ws) f) q) (measure_entry (size_at n count v ws pool) (starts_of n ws) (ends_of n ws) f need (suc k)) (entry-says f need k) ih)

  -- THE MEANING of what `measure` answers
  abbrev pub Means : Measured → Type 0
  Means (Ok x) = (resolve_fields file t.values ≡ ok (presents t (fields_of n ws) 1 10)) × (x ≡ length (records (presents t (fields_of n ws) 1 10)))
  Means (Err (Undefined f j)) = resolve_fields file t.values ≡ refused (undefined_variable (token_at ts j) (in_field f (key_of f)))
  Means (Err (TooLarge f)) = resolve_fields file t.values ≡ refused (content_too_large (in_field f (key_of f)))

  by : (r : Measured) → FieldsSay 0 1 10 r → Means r
  unfolding resolve_fields
  by (Ok x) h = (h.0, omega (arith, h.1))
  by (Err (Undefined f j)) h = h
  by (Err (TooLarge f)) h = h

  pub measured-is : (r : Measured) → r ≡ measure_in n count v ws pool → Means r
  measured-is r e = by r (subst (FieldsSay 0 1 10) (sym e) (fields-say 10 0 1 (omega arith) (omega arith)))

  -- where it answers a need that the output has, the records can be written
  pub fieldable : Spans count t (fields_of n ws) → (x : ℕ) → Ok x ≡ measure_in n count v ws pool → (out : List ℕ) → x ≤ length out → Fieldable n count v t (fields_of n ws) ws out
  fieldable s x e out l =
      let h : FieldsSay 0 1 10 (Ok x) = subst (FieldsSay 0 1 10) (sym e) (fields-say 10 0 1 (omega arith) (omega arith)) in
      record {
        room = room;
        ready = ready;
        fielded = record {
          strings = λ g k a b c d. record { in_table = s.strings g k a c d; expands = (h.2 g k a b d).0 c };
          lists = λ g k a b c d. record {
            few = s.lists g k c (omega arith) d;
            each = λ i p q. record { in_table = s.rows g k i c (omega arith) d p q; expands = (h.2 g k a b d).1 c i p q };
          };
        };
        fits = omega (arith, h.1);
      }
