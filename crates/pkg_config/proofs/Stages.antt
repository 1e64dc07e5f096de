-- Laws of the stages after the lines: what each ends in. Assumes nothing.
use Rattle.std.specs.Prelude as Std
use Rattle.std.specs.Prelude.{Ok, Err}
use Prim.Native.Nat.{ℕ, zero, suc, ◌+◌, ◌*◌, ◌-◌, ◌<◌, ◌≤◌}
use mathlib.Core.Path.{◌≡◌, refl, ap, sym, ◌∙◌, subst}
use mathlib.Core.List.{List, [], ◌∷◌, map}
use mathlib.Core.Option.{Option, none, some}
use native.Mathlib.Omega.{arith}
use lib.ListN.{length, get_or, take, drop}
use lib.Seq.{drop-drop}
use Rattle.rules.specs.Bytes.{overwrite}
use Rattle.rules.specs.Tokens.{Token, no_name}
use Rattle.rules.specs.Numbers as Rules
use Rattle.rules.specs.Numbers.{Refusal, in_variable, in_field, undefined_variable, content_too_large, number, detail, details, refusal_number, refusal_detail, field_of, variable_of, Result, refused, ok, ◌>>=◌}
use Rattle.rules.specs.Lines.{Assignment, Field, File}
use Rattle.rules.specs.Variables.{Found, resolved, resolve, key_at, resolve_variables}
use Rattle.rules.specs.Fields.{Present, resolve_fields}
use Rattle.rules.specs.Records.{records}
use Rattle.rules.specs.Reading.{records_of_file}
use Rattle.rules.specs.Reader.{written}
use Rattle.rules.proofs.CallLaws.{written-short, written_all}
use Rattle.rules.proofs.RefusalLaws.{after_variables}
use Rattle.scan.specs.Stores.{puts}
use Rattle.scan.proofs.Stores.{puts-front, take-puts, drop-puts, length-puts}
use Rattle.answers.specs.declared.Name.{Name}
use Rattle.answers.specs.declared.Refusal as Answers
use Rattle.answers.specs.declared.Refusal.TheVariants as Told
use Rattle.answers.specs.Tells.{Names, Tells}
use Rattle.answers.specs.Refusals as Ours
use Rattle.answers.specs.Refusals.{Refuses, refusal_answer, answer_of}
use Rattle.answers.proofs.Telling.{no-names}
use Rattle.tokens.specs.Entries.{decode, token_at}
use Rattle.tokens.proofs.TokenLaws.{length-decode}
use Rattle.workspace.specs.Map.{Room, keys_of, starts_of, ends_of, lengths_of, variable_at, variables_from, variables_in, rules_in, field_in, fields_in, file_in, Looked, Holds}
use Rattle.workspace.proofs.Frames.{Kept, take-low, column-low, decode-low, variables-low, field-low, variables-kept, rules-kept, looked-kept}
use Rattle.workspace.proofs.Files.{file-fields}
use Rattle.names.specs.Named.{named}
use Rattle.names.specs.Store.{Lookable, ranks}
use Rattle.names.proofs.Lookups.{length-ranks, looked-up}
use Rattle.passes.specs.Passes.{Resolves}
use Rattle.passes.specs.declared.visits.Unresolved.{Unresolved}
use Rattle.passes.specs.declared.visits.Unresolved.TheVariants as Unr
use Rattle.passes.proofs.Corollary.{Says, resolve-keeps, resolve-long, resolve-says}
use Rattle.writer.specs.Tables.{tables_in}
use Rattle.writer.proofs.Uses.{found_in, values-are, ready}
use Rattle.records.specs.Contents.{fields_of, presents, Spans}
use Rattle.records.specs.Recording.{Fieldable, Recorded}
use Rattle.records.specs.Measuring.{measure_in}
use Rattle.records.specs.declared.measure.Stop.{Stop}
use Rattle.records.specs.declared.measure.Stop.TheVariants.{Undefined, TooLarge}
use Rattle.records.proofs.Meanings.{Means, measured-is, fieldable}
use Rattle.pkg_config.specs.Call.{lent, Ends}
use Rattle.pkg_config.specs.Stages.{Filed, Solved, Measures, unresolved, stopped}
use Rattle.pkg_config.proofs.Calls.{same_answer}

-- the key of the variable of rank i
key-map : (f : ℕ → Assignment) (ks : List ℕ) (i : ℕ) → i < length ks → key_at (map f ks) i ≡ (f (get_or ks i 0)).key
unfolding key_at
key-map f [] i h = absurd (omega arith)
key-map f (k ∷ ks) zero h = refl
key-map f (k ∷ ks) (suc i) h = key-map f ks i (omega arith)

key-past : (f : ℕ → Assignment) (ks : List ℕ) (i : ℕ) → length ks ≤ i → key_at (map f ks) i ≡ no_name
unfolding key_at
key-past f [] i h = refl
key-past f (k ∷ ks) zero h = absurd (omega arith)
key-past f (k ∷ ks) (suc i) h = key-past f ks i (omega arith)

pub key-names : (ts : List Token) (keys : List ℕ) (i k : ℕ) (r : Name) → i < length keys → k ≡ get_or keys i 0 → Names r (token_at ts k) → Names r (key_at (named ts keys) i)
unfolding named
key-names ts keys i k r h e m = subst (Names r) (ap (token_at ts) e ∙ sym (key-map (variable_at ts [] []) keys i h)) m

pub no_key : (ts : List Token) (keys : List ℕ) (i : ℕ) (r : Name) → length keys ≤ i → r ≡ Ours.no_name → Names r (key_at (named ts keys) i)
unfolding named
no_key ts keys i r h e = subst (Names r) (sym (key-past (variable_at ts [] []) keys i h)) (rw e no-names)

-- the key of a rank, whatever the values
key-any : (f g : ℕ → Assignment) → ((k : ℕ) → (f k).key ≡ (g k).key) → (ks : List ℕ) (i : ℕ) → key_at (map f ks) i ≡ key_at (map g ks) i
unfolding key_at
key-any f g h [] i = refl
key-any f g h (k ∷ ks) zero = h k
key-any f g h (k ∷ ks) (suc i) = key-any f g h ks i

key-named : (n count v : ℕ) (ws pool : List ℕ) (i : ℕ) → key_at (named (decode count ws pool) (keys_of n v ws)) i ≡ key_at (variables_in n count v ws pool) i
unfolding named variables_from
key-named n count v ws pool i =
    key-any (variable_at (decode count ws pool) [] []) (variable_at (decode count ws pool) (starts_of n ws) (ends_of n ws)) (λ k. refl) (keys_of n v ws) i

-- what the document's counts tell
short-tells : (need m : ℕ) → need ≡ m → Tells (refusal_answer (Told.OutputShort need)) (Rules.output_short m)
unfolding number detail details
short-tells need m e = record { is_number = refl; is_value = e; is_first = no-names; is_second = no-names }

all-tells : (need m : ℕ) → need ≡ m → Tells (answer_of (Ok need)) (Rules.accepted m)
unfolding number detail details
all-tells need m e = record { is_number = refl; is_value = e; is_first = no-names; is_second = no-names }

-- how a stage ends
module _ (n : ℕ) (x : Result (List ℕ)) (ws out ws' : List ℕ) (beyond : drop (12 * n + 64) ws' ≡ drop (12 * n + 64) ws) where
  pub ends-refused : (r : Refusal) (e : Answers.Refusal) → x ≡ refused r → Refuses e r → Ends n x ws out ws' out (Err e)
  unfolding written
  ends-refused r e q t = record { is_answer = rw q t; is_output = rw q refl; beyond = beyond }

  ends-short : (rs : List ℕ) (need : ℕ) → x ≡ ok rs → length out < length rs → need ≡ length rs → Ends n x ws out ws' out (Err (Told.OutputShort need))
  ends-short rs need e h m =
      let q : written x (lent ws out out) ≡ record { answer = Rules.output_short (length rs); after = lent ws out out } = ap (λ (y : Result (List ℕ)). written y (lent ws out out)) e ∙ written-short rs (lent ws out out) h in
      record { is_answer = rw q (short-tells need (length rs) m); is_output = rw q refl; beyond = beyond }

  ends-all : (rs out' : List ℕ) (need : ℕ) → x ≡ ok rs → length rs ≤ length out → out' ≡ puts out 0 rs → need ≡ length rs → Ends n x ws out ws' out' (Ok need)
  ends-all rs out' need e h o m =
      let q : written x (lent ws out out) ≡ record { answer = Rules.accepted (length rs); after = lent ws out (overwrite rs out) } = ap (λ (y : Result (List ℕ)). written y (lent ws out out)) e ∙ written_all rs (lent ws out out) h in
      record { is_answer = rw q (all-tells need (length rs) m); is_output = rw q (o ∙ puts-front out rs h); beyond = beyond }

undefined-tells : (t : Token) (w : Rules.WhileResolving) (x : ℕ) (a b : Name) → x ≡ field_of w → Names a t → Names b (variable_of w) → Refuses (Told.UndefinedVariable x a b) (undefined_variable t w)
unfolding number detail refusal_number refusal_detail details
undefined-tells t w x a b e p q = record { is_number = refl; is_value = e; is_first = p; is_second = q }

large-tells : (w : Rules.WhileResolving) (x : ℕ) (b : Name) → x ≡ field_of w → Names b (variable_of w) → Refuses (Told.ContentTooLarge x b) (content_too_large w)
unfolding number detail refusal_number refusal_detail details
large-tells w x b e q = record { is_number = refl; is_value = e; is_first = no-names; is_second = q }

-- what the code tells of a variable, and of a field
pub told-large : (ts : List Token) (vs : List Assignment) (i : ℕ) (key : Name) (u : Unresolved) → u ≡ Unr.TooLarge i → Names key (key_at vs i) → Refuses (Told.ContentTooLarge 0 key) (unresolved ts vs u)
unfolding field_of variable_of
told-large ts vs i key u e m = rw e (large-tells (in_variable (key_at vs i)) 0 key refl m)

pub told-lacks : (ts : List Token) (vs : List Assignment) (i j : ℕ) (reference key : Name) (u : Unresolved) → u ≡ Unr.Lacks i j → Names reference (token_at ts j) → Names key (key_at vs i)
    → Refuses (Told.UndefinedVariable 0 reference key) (unresolved ts vs u)
unfolding field_of variable_of
told-lacks ts vs i j reference key u e t m = rw e (undefined-tells (token_at ts j) (in_variable (key_at vs i)) 0 reference key refl t m)

pub told-in : (ts ts' : List Token) (keys keys' : List ℕ) (e : Answers.Refusal) (u : Unresolved) → ts' ≡ ts → keys' ≡ keys → Refuses e (unresolved ts' (named ts' keys') u) → Refuses e (unresolved ts (named ts keys) u)
told-in ts ts' keys keys' e u p q h = rw (← p, ← q) h

pub told-undefined : (ts : List Token) (f j : ℕ) (reference : Name) (u : Stop) → u ≡ Undefined f j → Names reference (token_at ts j) → (k : Token) → Refuses (Told.UndefinedVariable f reference Ours.no_name) (stopped ts k u)
unfolding field_of variable_of
told-undefined ts f j reference u e t k = rw e (undefined-tells (token_at ts j) (in_field f k) f reference Ours.no_name refl t no-names)

pub told-too-large : (ts : List Token) (f : ℕ) (u : Stop) → u ≡ TooLarge f → (k : Token) → Refuses (Told.ContentTooLarge f Ours.no_name) (stopped ts k u)
unfolding field_of variable_of
told-too-large ts f u e k = rw e (large-tells (in_field f k) f Ours.no_name refl no-names)

after-ok : (x : File) (vals : Found) (ps : List Present) → resolve_fields x vals ≡ ok ps → after_variables x vals ≡ ok (records ps)
unfolding after_variables ◌>>=◌
after-ok x vals ps e = rw (e, after_variables, ◌>>=◌) refl

after-refused : (x : File) (vals : Found) (r : Refusal) → resolve_fields x vals ≡ refused r → after_variables x vals ≡ refused r
unfolding after_variables ◌>>=◌
after-refused x vals r e = rw (e, after_variables, ◌>>=◌) refl

holds-self : (n count v : ℕ) (ws pool : List ℕ) → Holds n count v ws pool (file_in n count v ws pool)
unfolding file_in
holds-self n count v ws pool = record { variables = refl; fields = λ f a b. sym (file-fields n count v ws pool f a b) }

past_room : (n : ℕ) (ws ws' : List ℕ) → drop (12 * n) ws' ≡ drop (12 * n) ws → drop (12 * n + 64) ws' ≡ drop (12 * n + 64) ws
past_room n ws ws' q = sym (drop-drop 64 (12 * n) ws') ∙ ap (drop 64) q ∙ drop-drop 64 (12 * n) ws

-- the fields
module _ (n count v : ℕ) (ws pool : List ℕ) where
  abbrev vals : Found
  vals = (tables_in n count v ws pool).values

  abbrev field_records : List ℕ
  field_records = records (presents (tables_in n count v ws pool) (fields_of n ws) 1 10)

  looked-file : Solved n count v ws pool → Looked n count ws pool (file_in n count v ws pool).variables
  unfolding file_in
  looked-file s = s.looked

  means : (s : Solved n count v ws pool) (r : Std.Result ℕ Stop) → r ≡ measure_in n count v ws pool
      → Means n count v ws pool (file_in n count v ws pool) s.room s.ready (holds-self n count v ws pool) (looked-file s) r
  means s r e = measured-is n count v ws pool (file_in n count v ws pool) s.room s.ready (holds-self n count v ws pool) (looked-file s) r e

  pub records-short : (out : List ℕ) (room need : ℕ) → Measures n count v need ws pool → room ≡ length out → room < need → Ends n (after_variables (file_in n count v ws pool) vals) ws out ws out (Err (Told.OutputShort need))
  records-short out room need m r h =
      let x = means m.solved (Ok need) m.is_need in
      ends-short n (after_variables (file_in n count v ws pool) vals) ws out ws refl field_records need
      (after-ok (file_in n count v ws pool) vals (presents (tables_in n count v ws pool) (fields_of n ws) 1 10) x.0) (omega (arith, r, h, x.1)) x.1

  pub records-fit : (out : List ℕ) (room need : ℕ) → Measures n count v need ws pool → room ≡ length out → need ≤ room → Fieldable n count v (tables_in n count v ws pool) (fields_of n ws) ws out
  records-fit out room need m r h =
      fieldable n count v ws pool (file_in n count v ws pool) m.solved.room m.solved.ready (holds-self n count v ws pool) (looked-file m.solved) m.solved.spans need m.is_need out (omega (arith, r, h))

  pub records-written : (out ws' out' : List ℕ) (room need end : ℕ) → Measures n count v need ws pool → room ≡ length out → need ≤ room → Recorded n ws out field_records ws' out' end
      → Ends n (after_variables (file_in n count v ws pool) vals) ws out ws' out' (Ok need)
  records-written out ws' out' room need end m r h w =
      let x = means m.solved (Ok need) m.is_need in
      let b : drop (12 * n + 64) ws' ≡ drop (12 * n + 64) ws = past_room n ws ws' w.apart.past in
      ends-all n (after_variables (file_in n count v ws pool) vals) ws out ws' b field_records out' need
      (after-ok (file_in n count v ws pool) vals (presents (tables_in n count v ws pool) (fields_of n ws) 1 10) x.0) (omega (arith, r, h, x.1)) w.bytes x.1

  pub need-measures : (m : Std.Result ℕ Stop) (need : ℕ) → Solved n count v ws pool → m ≡ measure_in n count v ws pool → m ≡ Ok need → Measures n count v need ws pool
  need-measures m need s e q = record { solved = s; is_need = sym q ∙ e }

  pub field-stops : (out : List ℕ) (m : Std.Result ℕ Stop) (why : Stop) (e : Answers.Refusal) → Solved n count v ws pool → m ≡ measure_in n count v ws pool → m ≡ Err why
      → ((key : Token) → Refuses e (stopped (decode count ws pool) key why)) → Ends n (after_variables (file_in n count v ws pool) vals) ws out ws out (Err e)
  field-stops out m (Undefined f j) e s q w t =
      let k = token_at (decode count ws pool) (get_or (fields_of n ws) f 0 - 1) in
      let y = undefined_variable (token_at (decode count ws pool) j) (in_field f k) in
      ends-refused n (after_variables (file_in n count v ws pool) vals) ws out ws refl y e (after-refused (file_in n count v ws pool) vals y (means s (Err (Undefined f j)) (sym w ∙ q))) (t k)
  field-stops out m (TooLarge f) e s q w t =
      let k = token_at (decode count ws pool) (get_or (fields_of n ws) f 0 - 1) in
      let y = content_too_large (in_field f k) in
      ends-refused n (after_variables (file_in n count v ws pool) vals) ws out ws refl y e (after-refused (file_in n count v ws pool) vals y (means s (Err (TooLarge f)) (sym w ∙ q))) (t k)

fields-same : (n count : ℕ) (ws ws' pool : List ℕ) → ((f : ℕ) → field_in n count ws' pool f ≡ field_in n count ws pool f) → (k f : ℕ) → fields_in n count ws' pool k f ≡ fields_in n count ws pool k f
unfolding fields_in
fields-same n count ws ws' pool h zero f = refl
fields-same n count ws ws' pool h (suc k) f = go (field_in n count ws pool f) refl (fields-same n count ws ws' pool h k (suc f))
  where
    go : (o : Option Field) → field_in n count ws pool f ≡ o → fields_in n count ws' pool k (suc f) ≡ fields_in n count ws pool k (suc f) → fields_in n count ws' pool (suc k) f ≡ fields_in n count ws pool (suc k) f
    go none q ih = rw (h f ∙ q, q, fields_in) ih
    go (some g) q ih = rw (h f ∙ q, q, fields_in) (ap (λ (l : List Field). g ∷ l) ih)

file-refused : (x : File) (r : Refusal) → resolve_variables x.variables ≡ refused r → records_of_file x ≡ refused r
unfolding records_of_file ◌>>=◌
file-refused x r e = rw (e, records_of_file, ◌>>=◌) refl

file-after : (x : File) (vals : Found) → resolve_variables x.variables ≡ ok vals → records_of_file x ≡ after_variables x vals
unfolding records_of_file ◌>>=◌ after_variables
file-after x vals e = rw (e, records_of_file, ◌>>=◌) refl

-- a stage that goes on with another's end
pub ends_on : (n : ℕ) (x y : Result (List ℕ)) (ws ws₁ ws₂ out out' : List ℕ) (a : Std.Result ℕ Answers.Refusal) → y ≡ x → drop (12 * n + 64) ws₁ ≡ drop (12 * n + 64) ws → Ends n x ws₁ out ws₂ out' a → Ends n y ws out ws₂ out' a
ends_on n x y ws ws₁ ws₂ out out' a e b h =
    let s = same_answer x (lent ws₁ out out) (lent ws out out) refl in
    record {
      is_answer = rw (e, ← s.0) h.is_answer;
      is_output = rw e (h.is_output ∙ s.1);
      beyond = h.beyond ∙ b;
    }

-- the variables
module _ (n count v : ℕ) (ws pool : List ℕ) (F : Filed n count v ws pool) where
  few : v ≤ n
  few = omega (arith, F.room.few, F.room.tokens)

  pub lookable : Lookable n count v ws pool
  lookable = record {
    search = record { room = omega (arith, F.room.room); tokens = F.room.tokens; few = omega (arith, few); texts = F.texts; sorted = F.sorted };
    room = omega (arith, F.room.room);
    small = F.room.small;
  }

  abbrev xs : List ℕ
  xs = ranks (variables_in n count v ws pool) (decode count ws pool)

  xs-long : length xs ≤ n
  xs-long = omega (arith, length-ranks (variables_in n count v ws pool) (decode count ws pool), length-decode count ws pool, F.room.tokens)

  module _ (ws₁ : List ℕ) (e : ws₁ ≡ puts ws (7 * n) xs) where
    pub room-looked : Room n count v ws₁
    room-looked = record { small = F.room.small; room = omega (arith, F.room.room, ap length e ∙ length-puts ws (7 * n) xs); tokens = F.room.tokens; few = F.room.few }

    low-looked : take (7 * n) ws₁ ≡ take (7 * n) ws
    low-looked = ap (take (7 * n)) e ∙ take-puts (7 * n) ws (7 * n) xs (omega arith)

    high-looked : drop (12 * n) ws₁ ≡ drop (12 * n) ws
    high-looked = ap (drop (12 * n)) e ∙ drop-puts (12 * n) ws (7 * n) xs (omega (arith, xs-long))

    variables-looked : variables_in n count v ws₁ pool ≡ variables_in n count v ws pool
    variables-looked = variables-low n count v ws ws₁ pool F.room.tokens few low-looked

    is-looked : Looked n count ws₁ pool (variables_in n count v ws₁ pool)
    is-looked =
        subst (λ (vs : List Assignment). Looked n count ws₁ pool vs) (sym variables-looked)
        (subst (λ (l : List ℕ). Looked n count l pool (variables_in n count v ws pool)) (sym e) (looked-up n count v ws pool lookable))

    module _ (ws₂ : List ℕ) (r : Std.Result (Unit {0}) Unresolved) (passes : ℕ) (A : Resolves n count v pool ws₁ ws₂ r passes) where
      keeps : Kept n ws₁ ws₂
      keeps = resolve-keeps room-looked A

      says : Says (variables_in n count v ws₁ pool) (decode count ws₁ pool) (lengths_of n v ws₂) r
      says = resolve-says room-looked A is-looked

      low : take (7 * n) ws₂ ≡ take (7 * n) ws
      low = take-low (8 * n) ws₁ ws₂ keeps.low (7 * n) (omega arith) ∙ low-looked

      high : drop (12 * n) ws₂ ≡ drop (12 * n) ws
      high = keeps.high ∙ high-looked

      pub past-kept : drop (12 * n + 64) ws₂ ≡ drop (12 * n + 64) ws
      past-kept = past_room n ws ws₂ high

      same-tokens : decode count ws₂ pool ≡ decode count ws₁ pool
      same-tokens = decode-low (8 * n) ws₁ ws₂ keeps.low count pool (omega (arith, F.room.tokens))

      same-variables : variables_in n count v ws₂ pool ≡ variables_in n count v ws₁ pool
      same-variables = variables-kept n count v ws₁ ws₂ pool F.room.tokens few keeps

      same-file : file_in n count v ws₂ pool ≡ file_in n count v ws pool
      unfolding file_in
      same-file = rw (variables-low n count v ws ws₂ pool F.room.tokens few low, fields-same n count ws ws₂ pool (field-low n count v ws ws₂ pool F.room.tokens few low high) 10 1)

      pub room_settled : Room n count v ws₂
      room_settled = record { small = F.room.small; room = omega (arith, room-looked.room, resolve-long room-looked A); tokens = F.room.tokens; few = F.room.few }

      same-starts : starts_of n ws₂ ≡ starts_of n ws
      same-starts = column-low (7 * n) ws ws₂ low n (5 * n) (omega arith)

      same_ends : ends_of n ws₂ ≡ ends_of n ws
      same_ends = column-low (7 * n) ws ws₂ low n (6 * n) (omega arith)

      same_keys : keys_of n v ws₂ ≡ keys_of n v ws
      same_keys = column-low (7 * n) ws ws₂ low v (4 * n) (omega (arith, few))

      same-fields : fields_of n ws₂ ≡ fields_of n ws
      same-fields = ap (take 11) high

      spans-kept : Spans count (tables_in n count v ws₂ pool) (fields_of n ws₂)
      spans-kept = record {
        strings = λ f k a b c. rw same_ends (F.spans.strings f k a b (rw same-fields at c));
        lists = λ f k a b c. rw (same-starts, same_ends) (F.spans.lists f k a b (rw same-fields at c));
        rows = λ f k i a b c p q. rw same_ends (F.spans.rows f k i a b (rw same-fields at c) (rw same-starts at p) (rw (same-starts, same_ends) at q));
      }

      file-variables : (file_in n count v ws pool).variables ≡ variables_in n count v ws₁ pool
      unfolding file_in
      file-variables = sym variables-looked

      -- a variable without a value is told by the workspace as it is then
      pub ends-unresolved : (out : List ℕ) (why : Unresolved) (e : Answers.Refusal) → r ≡ Err why
          → Refuses e (unresolved (decode count ws₂ pool) (named (decode count ws₂ pool) (keys_of n v ws₂)) why) → Ends n (records_of_file (file_in n count v ws pool)) ws out ws₂ out (Err e)
      ends-unresolved out why e q t =
          let y = unresolved (decode count ws₁ pool) (variables_in n count v ws₁ pool) why in
          ends-refused n (records_of_file (file_in n count v ws pool)) ws out ws₂ past-kept y e
          (file-refused (file_in n count v ws pool) y (ap resolve_variables file-variables ∙ said why (rw q at says)))
          (subst (Refuses e) (same why) t)
        where
          said : (u : Unresolved) → Says (variables_in n count v ws₁ pool) (decode count ws₁ pool) (lengths_of n v ws₂) (Err u)
              → resolve_variables (variables_in n count v ws₁ pool) ≡ refused (unresolved (decode count ws₁ pool) (variables_in n count v ws₁ pool) u)
          said (Unr.TooLarge i) h = h
          said (Unr.Lacks i j) h = h

          same-key : (i : ℕ) → key_at (named (decode count ws₂ pool) (keys_of n v ws₂)) i ≡ key_at (variables_in n count v ws₁ pool) i
          same-key i = key-named n count v ws₂ pool i ∙ ap (λ (vs : List Assignment). key_at vs i) same-variables

          same : (u : Unresolved) → unresolved (decode count ws₂ pool) (named (decode count ws₂ pool) (keys_of n v ws₂)) u ≡ unresolved (decode count ws₁ pool) (variables_in n count v ws₁ pool) u
          same (Unr.TooLarge i) = ap (λ (t : Token). content_too_large (in_variable t)) (same-key i)
          same (Unr.Lacks i j) =
              ap (λ (ts : List Token). undefined_variable (token_at ts j) (in_variable (key_at (named (decode count ws₂ pool) (keys_of n v ws₂)) i))) same-tokens
              ∙ ap (λ (t : Token). undefined_variable (token_at (decode count ws₁ pool) j) (in_variable t)) (same-key i)

      module _ (q : r ≡ Ok tt) where
        settled_says : Says (variables_in n count v ws₁ pool) (decode count ws₁ pool) (lengths_of n v ws₂) (Ok tt)
        settled_says = rw q at says

        resolves : resolve (rules_in n count v ws₂ pool) ≡ resolved settled_says.0
        resolves =
            ap resolve (rules-kept n count v ws₁ ws₂ pool F.room.tokens few keeps) ∙ found_in n count v ws₁ pool settled_says.0 is-looked settled_says.1

        pub is-solved : Solved n count v ws₂ pool
        is-solved = record {
          room = room_settled;
          ready = ready n count v ws₂ pool settled_says.0 resolves settled_says.2 (λ j h. rw (same_ends, same_keys) (F.in_table j h));
          looked = subst (λ (vs : List Assignment). Looked n count ws₂ pool vs) (sym same-variables) (looked-kept n count v ws₁ ws₂ pool F.room.tokens few keeps (variables_in n count v ws₁ pool) is-looked);
          spans = spans-kept;
        }

        pub ends-resolved : (out ws₃ out' : List ℕ) (a : Std.Result ℕ Answers.Refusal) → Ends n (after_variables (file_in n count v ws₂ pool) (tables_in n count v ws₂ pool).values) ws₂ out ws₃ out' a
            → Ends n (records_of_file (file_in n count v ws pool)) ws out ws₃ out' a
        ends-resolved out ws₃ out' a h =
            let x : records_of_file (file_in n count v ws pool) ≡ after_variables (file_in n count v ws₂ pool) (tables_in n count v ws₂ pool).values =
            file-after (file_in n count v ws pool) settled_says.0 (ap resolve_variables file-variables ∙ settled_says.1)
            ∙ ap (λ (f : File). after_variables f settled_says.0) (sym same-file) ∙ ap (after_variables (file_in n count v ws₂ pool)) (sym (values-are n count v ws₂ pool settled_says.0 resolves)) in
            ends_on n (after_variables (file_in n count v ws₂ pool) (tables_in n count v ws₂ pool).values) (records_of_file (file_in n count v ws pool)) ws ws₂ ws₃ out out' a x past-kept h
