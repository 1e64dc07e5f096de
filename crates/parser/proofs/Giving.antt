-- A line with `:`. Assumes nothing.
use Rattle.std.specs.Prelude as Std
use Rattle.std.specs.Prelude.{Ok, Err}
use Prim.Native.Nat.{ℕ, suc, ◌+◌, ◌*◌, ◌^◌, ◌≤◌, ◌<◌}
use mathlib.Core.Path.{◌≡◌, refl, sym, ◌∙◌, ap, ap₂, subst}
use mathlib.Core.Bool.{Bool, true, false}
use mathlib.Core.List.{List, [], ◌∷◌, ◌++◌, map}
use mathlib.Core.Option.{none, some}
use native.Mathlib.Decide.{dec_lt}
use native.Mathlib.Numerals.{add-one}
use native.Mathlib.Omega.{arith}
use lib.Bits.{bit_or}
use lib.Dec.{eqb}
use lib.ListN.{length, get_or, take, drop, set, length-set, length-take, length-drop}
use lib.Seq.{ext_get_or, get_or-take, get_or-drop, get_or-set_same, get_or-set_other}
use borrow.Author.Tests.{eq-eqb, ne_eqb}
use Rattle.rules.specs.Bytes.{pick}
use Rattle.rules.proofs.BytesLaws.{false-true}
use Rattle.rules.specs.Tokens.{Token, no_name, is_a, text_kind, shown_name}
use Rattle.rules.specs.Numbers.{Result, ok, ◌>>=◌, refusal_number, refusal_detail, no_detail, unknown_field, duplicate_field, unterminated_quote}
use Rattle.rules.specs.Lines.{Part, Template, string, list, Field, File, Item, given, is_string, field_at, keep, list_value, read_field}
use Rattle.answers.specs.declared.Name.{Name}
use Rattle.answers.specs.declared.Refusal as Answers
use Rattle.answers.specs.declared.Refusal.TheVariants as Told
use Rattle.answers.specs.Tells.{Names}
use Rattle.answers.specs.Refusals as Ours
use Rattle.answers.specs.Refusals.{Refuses}
use Rattle.answers.proofs.Telling.{refuses, no-names}
use Rattle.scan.proofs.Lists.{cell_in}
use Rattle.tokens.specs.Entries.{decode, token_at, pool_text}
use Rattle.tokens.proofs.TokenLaws.{decode-same, decode-take}
use Rattle.workspace.specs.Map.{parts_of, parts_between, keys_from, starts_of, ends_of, arguments_from, template_at, variables_from, field_in, field_of_entry}
use Rattle.names.proofs.Places.{text-pooled}
use Rattle.fields.specs.Seen.{bit_at, field_number}
use Rattle.fields.specs.declared.Field as Coded
use Rattle.fields.specs.Numbers.{number_of}
use Rattle.fields.proofs.Keys.{of_none, of_some, number-within}
use Rattle.fields.proofs.Bits.{marks-more, given_by, absent_by}
use Rattle.lines.specs.Line.{EndsValue, ending_at}
use Rattle.lines.specs.Rows.{NoneDropped, Keeps, Lists}
use Rattle.lines.proofs.Tokens.{kind-inside, between-inside}
use Rattle.lines.proofs.Starts.{a_kind}
use Rattle.lines.proofs.Parts.{keeps-none, arguments-same, start-same, end_same}
use Rattle.lines.proofs.Turns.{token-same}
use Rattle.parser.specs.declared.Progress.{Progress}
use Rattle.parser.specs.Places.{past}
use Rattle.parser.specs.Parse.{VariableWithin, FieldWithin, EntryWithin, Ready, Held, Takes, AtValue, IsField, kept_field, KeepsField}
use Rattle.parser.proofs.Answering.{text-shows}
use Rattle.parser.proofs.Frames.{Frame, all_map, variables-same, variable-within, texts-same, field-same, entry-within, left-same, fresh-same}
use Rattle.parser.proofs.Lines.{past-on, past-in}
use Rattle.parser.proofs.Assigning.{value-parts}

dec_eq : (a b : ℕ) → Dec (a ≡ b)
dec_eq a b = elim (dec_lt a b) [
  | yes h ↦ no (λ e. omega arith)
  | no h ↦ elim (dec_lt b a) [ yes l ↦ no (λ e. omega arith) | no l ↦ yes (omega arith) ]
]

-- a part of a list, by its entries
part_same : (b m : ℕ) (ws ws' : List ℕ) → length ws' ≡ length ws → ((k : ℕ) → b ≤ k → k < b + m → get_or ws' k 0 ≡ get_or ws k 0) → take m (drop b ws') ≡ take m (drop b ws)
part_same b m ws ws' l s =
    let e : length (take m (drop b ws')) ≡ length (take m (drop b ws)) = omega (arith, length-take m (drop b ws'), length-take m (drop b ws), length-drop b ws', length-drop b ws) in
    ext_get_or 0 (take m (drop b ws')) (take m (drop b ws)) e
    (λ i h.
    let q : i < m = omega (arith, length-take m (drop b ws')) in
    get_or-take m (drop b ws') i 0 q ∙ get_or-drop b ws' i 0 ∙ s (b + i) (omega arith) (omega arith) ∙ sym (get_or-drop b ws i 0) ∙ sym (get_or-take m (drop b ws) i 0 q))

-- one field more at the end
field-new : (f : ℕ) (fields : List Field) (g : Field) → g.number ≡ f → field_at f fields ≡ none → field_at f (fields ++ g ∷ []) ≡ some g
unfolding field_at
field-new f [] g e n = rw (eq-eqb f g.number (sym e), field_at) refl
field-new f (h ∷ fields) g e n = go (eqb f h.number) refl (λ x. field-new f fields g e x)
  where
    go : (b : Bool) → eqb f h.number ≡ b → (field_at f fields ≡ none → field_at f (fields ++ g ∷ []) ≡ some g) → field_at f (h ∷ fields ++ g ∷ []) ≡ some g
    go true q ih = let z : some h ≡ none = sym (rw (q, field_at) refl) ∙ n in let y : ◌≡◌ {A = ℕ} 0 1 = cc in absurd (omega arith)
    go false q ih = rw (q, field_at) (ih (sym (rw (q, field_at) refl) ∙ n))

field-old : (f : ℕ) (fields : List Field) (g : Field) → (f ≡ g.number → ⊥) → field_at f (fields ++ g ∷ []) ≡ field_at f fields
unfolding field_at
field-old f [] g e = rw (ne_eqb f g.number e, field_at) refl
field-old f (h ∷ fields) g e = go (eqb f h.number) refl (field-old f fields g e)
  where
    go : (b : Bool) → eqb f h.number ≡ b → field_at f (fields ++ g ∷ []) ≡ field_at f fields → field_at f (h ∷ fields ++ g ∷ []) ≡ field_at f (h ∷ fields)
    go true q ih = rw (q, field_at) refl
    go false q ih = rw (q, field_at) ih

module _ (n count end key from : ℕ) (ws pool : List ℕ) (s : Progress) (A : AtValue n count end key from ws pool s) where
  pub key-is-text : is_a text_kind (token_at (decode count ws pool) key) ≡ true
  key-is-text = a_kind (decode count ws pool) key text_kind A.stands.is_text

  key-shows : shown_name (token_at (decode count ws pool) key) ≡ token_at (decode count ws pool) key
  key-shows = text-shows (token_at (decode count ws pool) key) key-is-text

  -- what `of_key` said of the key's text
  module _ (text : List ℕ) (t : text ≡ pool_text (token_at (decode count ws pool) key)) where
    key_number : field_number text ≡ field_number (token_at (decode count ws pool) key).text
    key_number = ap field_number (t ∙ text-pooled (token_at (decode count ws pool) key) key-is-text)

    pub give-unknown : (k : Name) (ws' : List ℕ) → 0 ≡ field_number text → Names k (shown_name (token_at (decode count ws pool) key))
        → Takes n count end ws ws' pool s (read_field (token_at (decode count ws pool) key) (ending_at (decode count ws pool) end) (drop from (take end (decode count ws pool)))) (Err (Told.UnknownField k))
    unfolding read_field ◌>>=◌ refusal_number refusal_detail
    give-unknown k ws' z S = λ file H. (
      unknown_field (token_at (decode count ws pool) key),
      rw (of_none (token_at (decode count ws pool) key).text (z ∙ key_number), read_field, ◌>>=◌) refl,
      refuses (Told.UnknownField k) (unknown_field (token_at (decode count ws pool) key)) 0 k Ours.no_name (token_at (decode count ws pool) key) no_name refl refl refl (rw key-shows at S) no-names,
    )

    pub give-known : (g : Coded.Field) → number_of g ≡ field_number text → IsField (number_of g) (token_at (decode count ws pool) key)
    give-known g e = let w = number-within g in record { low = w.0; high = w.1; is = of_some (token_at (decode count ws pool) key).text g (e ∙ key_number) }

  -- what reading its value as a list asks
  pub list-fresh : NoneDropped from end ws
  list-fresh = λ k p q e. A.ready.fresh k (omega (arith, A.stands.key_on, A.stands.value_on)) (omega (arith, A.in_tokens)) (sym (kind-inside end count ws k A.in_tokens q) ∙ e)

  -- the line's numbers
  key_in : key < count
  key_in = omega (arith, A.stands.value_on, A.stands.inside, A.in_tokens)

  module _ (f : ℕ) (K : IsField f (token_at (decode count ws pool) key)) where
    -- the workspace after the value is read, and after the field is kept
    module _ (w : List ℕ) (keeps : Keeps n from end ws w) (a b : ℕ) where
      w' : List ℕ
      w' = kept_field n key a b f w

      kept-other : (k : ℕ) → (k ≡ 5 * n + key → ⊥) → (k ≡ 6 * n + key → ⊥) → (k ≡ 12 * n + f → ⊥) → get_or w' k 0 ≡ get_or w k 0
      unfolding w'
      kept-other k x y z =
          get_or-set_other (set (set w (5 * n + key) a) (6 * n + key) b) (12 * n + f) k (key + 1) 0 z ∙ get_or-set_other (set w (5 * n + key) a) (6 * n + key) k b 0 y ∙ get_or-set_other w (5 * n + key) k a 0 x

      kept-long : length w' ≡ length ws
      unfolding w'
      kept-long = simp length-set keeps.long

      roomy : 12 * n + 64 ≤ length w
      roomy = omega (arith, A.ready.room, keeps.long)

      small-key : key < n
      small-key = omega (arith, key_in, A.ready.tokens)

      kept-start : get_or (starts_of n w') key 0 ≡ a
      unfolding w'
      kept-start =
          let i = small-key in
          let r = roomy in
          sym (cell_in w' (5 * n) n key i) ∙ get_or-set_other (set (set w (5 * n + key) a) (6 * n + key) b) (12 * n + f) (5 * n + key) (key + 1) 0 (λ e. omega arith)
          ∙ get_or-set_other (set w (5 * n + key) a) (6 * n + key) (5 * n + key) b 0 (λ e. omega arith) ∙ get_or-set_same w (5 * n + key) a 0 (omega arith)

      kept-end : get_or (ends_of n w') key 0 ≡ b
      unfolding w'
      kept-end =
          let i = small-key in
          let r = roomy in
          let l : length (set w (5 * n + key) a) ≡ length w = length-set w (5 * n + key) a in
          sym (cell_in w' (6 * n) n key i) ∙ get_or-set_other (set (set w (5 * n + key) a) (6 * n + key) b) (12 * n + f) (6 * n + key) (key + 1) 0 (λ e. omega arith)
          ∙ get_or-set_same (set w (5 * n + key) a) (6 * n + key) b 0 (omega arith)

      kept_entry : get_or w' (12 * n + f) 0 ≡ suc key
      unfolding w'
      kept_entry =
          let r = roomy in
          let l : length (set (set w (5 * n + key) a) (6 * n + key) b) ≡ length w = length-set (set w (5 * n + key) a) (6 * n + key) b ∙ length-set w (5 * n + key) a in
          get_or-set_same (set (set w (5 * n + key) a) (6 * n + key) b) (12 * n + f) (key + 1) 0 (omega (arith, K.high)) ∙ add-one key

      all-other : (k : ℕ) → (4 * from ≤ k → k < 4 * end → ⊥) → (5 * n + from ≤ k → k < 5 * n + end → ⊥) → (6 * n + from ≤ k → k < 6 * n + end → ⊥)
          → (k ≡ 5 * n + key → ⊥) → (k ≡ 6 * n + key → ⊥) → (k ≡ 12 * n + f → ⊥) → get_or w' k 0 ≡ get_or ws k 0
      all-other k p q r x y z = kept-other k x y z ∙ keeps.same k p q r

      frame : Frame n s.next (past count end) ws w'
      frame =
          let i = small-key in
          let h = A.stands.key_on in
          let l = A.stands.value_on in
          let m = A.stands.inside in
          let g = A.in_tokens in
          let d = A.ready.tokens in
          let o = past-on count end in
          record {
            tokens = λ k x. all-other k (λ p q. omega arith) (λ p q. omega arith) (λ p q. omega arith) (λ e. omega arith) (λ e. omega arith) (λ e. omega arith);
            starts = λ k x y. all-other (5 * n + k) (λ p q. omega arith) (λ p q. omega arith) (λ p q. omega arith) (λ e. omega arith) (λ e. omega arith) (λ e. omega arith);
            ends = λ k x y. all-other (6 * n + k) (λ p q. omega arith) (λ p q. omega arith) (λ p q. omega arith) (λ e. omega arith) (λ e. omega arith) (λ e. omega arith);
            after = λ k x y. all-other k (λ p q. omega arith) (λ p q. omega arith) (λ p q. omega arith) (λ e. omega arith) (λ e. omega arith) (λ e. omega arith);
          }

      keys-are : keys_from s.first s.variables w' ≡ keys_from s.first s.variables ws
      keys-are =
          let i = small-key in
          let v = A.ready.few in
          let low = A.ready.low in
          let high = A.ready.high in
          let o = A.ready.on in
          let d = A.ready.tokens in
          let g = A.in_tokens in
          part_same s.first s.variables ws w' kept-long
          (λ k x y. all-other k (λ p q. omega arith) (λ p q. omega arith) (λ p q. omega arith) (λ e. omega arith) (λ e. omega arith) (λ e. omega arith))

      entry_other : (g : ℕ) → g ≤ 10 → (g ≡ f → ⊥) → get_or w' (12 * n + g) 0 ≡ get_or ws (12 * n + g) 0
      entry_other g l ne =
          let i = small-key in
          let x = A.in_tokens in
          let d = A.ready.tokens in
          all-other (12 * n + g) (λ p q. omega arith) (λ p q. omega arith) (λ p q. omega arith) (λ e. omega arith) (λ e. omega arith) (λ e. ne (omega arith))

      key-token : token_at (decode count w' pool) key ≡ token_at (decode count ws pool) key
      key-token =
          let i = small-key in
          let l = A.stands.value_on in
          let d = A.ready.tokens in
          let g = A.in_tokens in
          let m = A.stands.inside in
          token-same count ws w' pool key (λ k x y. all-other k (λ p q. omega arith) (λ p q. omega arith) (λ p q. omega arith) (λ e. omega arith) (λ e. omega arith) (λ e. omega arith))

      module _ (W : FieldWithin n f (past count end) w' key) where
        ready-kept : Ready s.first n count s.variables (past count end) w' pool
        unfolding variables_from
        ready-kept =
            let R = A.ready in
            let o = past-on count end in
            let c = past-in count end A.in_tokens in
            let on = A.ends.on in
            let k1 = A.stands.key_on in
            let k2 = A.stands.value_on in
            let k3 = A.stands.inside in
            let q = R.few_more (omega (arith, key_in)) in
            let V1 = variables-same n count s.next (past count end) ws w' frame R.tokens R.on pool (keys_from s.first s.variables ws) R.within.variables in
            record {
              small = R.small;
              room = omega (arith, R.room, kept-long);
              tokens = R.tokens;
              on = c;
              few = omega arith;
              few_more = λ _. omega arith;
              low = R.low;
              high = R.high;
              sorted = rw (keys-are, V1) R.sorted;
              texts = rw keys-are (texts-same n count s.next (past count end) ws w' frame R.tokens R.on pool (keys_from s.first s.variables ws) R.within.variables R.texts);
              within = record {
                variables = rw keys-are (all_map (VariableWithin n s.next ws) (VariableWithin n (past count end) w') (variable-within n count s.next (past count end) ws w' frame R.tokens R.on (past count end) (omega arith)) (keys_from s.first s.variables ws) R.within.variables);
                fields = λ g x y. entries g x y (dec_eq g f);
              };
              fresh = fresh-same n count s.next (past count end) ws w' frame R.tokens R.on (omega arith) R.fresh;
            }
          where
            entries : (g : ℕ) → 1 ≤ g → g ≤ 10 → Dec (g ≡ f) → EntryWithin n g (past count end) w' (get_or w' (12 * n + g) 0)
            entries g x y (yes e) = rw (e, kept_entry) W
            entries g x y (no ne) =
                rw (entry_other g y ne) (entry-within n count s.next (past count end) ws w' frame A.ready.tokens A.ready.on g (past count end) (get_or ws (12 * n + g) 0) (omega (arith, A.ends.on, past-on count end)) (A.ready.within.fields g x y))

        module _ (value : Template) (T : template_at (decode count w' pool) (starts_of n w') (ends_of n w') f key ≡ value)
            (item : read_field (token_at (decode count ws pool) key) (ending_at (decode count ws pool) end) (drop from (take end (decode count ws pool))) ≡ ok (given f (token_at (decode count ws pool) key) value)) where
          new : Field
          new = record { number = f; key = token_at (decode count ws pool) key; value = value }

          give_kept : (t : Progress) → bit_at s.seen.0 f ≡ false → t.variables ≡ s.variables → t.first ≡ s.first → t.seen.0 ≡ bit_or s.seen.0 (2 ^ f) → t.next ≡ past count end
              → Takes n count end ws w' pool s (read_field (token_at (decode count ws pool) key) (ending_at (decode count ws pool) end) (drop from (take end (decode count ws pool)))) (Ok t)
          unfolding keep ◌>>=◌ field_in field_of_entry new variables_from
          give_kept t z x1 g x2 x3 = (
            x3,
            rw (x1, g, x3) ready-kept,
            rw x3 (left-same n count s.next (past count end) ws w' frame A.ready.tokens A.ready.on pool),
            λ file H.
                let lacks = absent_by s.seen.0 file.fields f false H.marks K.high (sym z) refl in (
                  record { variables = file.variables; fields = file.fields ++ new ∷ [] },
                  ap (λ (i : Result Item). i >>= keep file) item ∙ rw (lacks, keep) refl,
                  rw (x1, g, x2)
                      (record {
                        holds = record {
                          variables = ap (map _) keys-are ∙ variables-same n count s.next (past count end) ws w' frame A.ready.tokens A.ready.on pool (keys_from s.first s.variables ws) A.ready.within.variables ∙ H.holds.variables;
                          fields = λ g l h. each file H lacks g l h (dec_eq g f);
                        };
                        marks = marks-more s.seen.0 file.fields new H.marks K.high;
                      }),
                ),
          )
            where
              each : (file : File) → Held s.first n count s.variables s.seen.0 ws pool file → field_at f file.fields ≡ none → (g : ℕ) → 1 ≤ g → g ≤ 10 → Dec (g ≡ f) → field_in n count w' pool g ≡ field_at g (file.fields ++ new ∷ [])
              each file H lacks g l h (yes e) =
                  let u : field_in n count w' pool f ≡ field_at f (file.fields ++ new ∷ []) =
                  ap (field_of_entry (decode count w' pool) (starts_of n w') (ends_of n w') f) kept_entry
                  ∙ ap₂ (λ (x : Token) (y : Template). some (record { number = f; key = x; value = y })) key-token T ∙ sym (field-new f file.fields new refl lacks) in
                  rw e u
              each file H lacks g l h (no ne) =
                  ap (field_of_entry (decode count w' pool) (starts_of n w') (ends_of n w') g) (entry_other g h ne)
                  ∙ field-same n count s.next (past count end) ws w' frame A.ready.tokens A.ready.on pool g (get_or ws (12 * n + g) 0) (A.ready.within.fields g l h)
                  ∙ H.holds.fields g l h ∙ sym (field-old g file.fields new ne)

        -- kept, or given before
        give-takes : (value : Template) → template_at (decode count (kept_field n key a b f w) pool) (starts_of n (kept_field n key a b f w)) (ends_of n (kept_field n key a b f w)) f key ≡ value
            → read_field (token_at (decode count ws pool) key) (ending_at (decode count ws pool) end) (drop from (take end (decode count ws pool))) ≡ ok (given f (token_at (decode count ws pool) key) value)
            → (w'' : List ℕ) (r : Std.Result Progress Answers.Refusal) → KeepsField n count end key a b f w w'' pool s r
            → Takes n count end ws w'' pool s (read_field (token_at (decode count ws pool) key) (ending_at (decode count ws pool) end) (drop from (take end (decode count ws pool)))) r
        unfolding w' keep ◌>>=◌ refusal_number refusal_detail
        give-takes value T item w'' (Ok t) (z, x1, g, x2, x3, x4) = rw x4 (give_kept value T item t z x1 g x2 x3)
        give-takes value T item w'' (Err x) (z, S) = λ file H.
            let g = given_by s.seen.0 file.fields f true H.marks K.high (sym z) refl in
            let k : token_at (decode count w pool) key ≡ token_at (decode count ws pool) key =
            token-same count ws w pool key (λ k p q. keeps.same k (λ a b. omega (arith, A.stands.value_on)) (λ a b. omega (arith, small-key)) (λ a b. omega (arith, small-key))) in (
              duplicate_field (token_at (decode count ws pool) key),
              ap (λ (i : Result Item). i >>= keep file) item ∙ rw (g.1, keep) refl,
              rw (k, key-shows) at S,
            )

      -- the tokens, after the field is kept
      tokens-kept : decode count w' pool ≡ decode count w pool
      tokens-kept =
          let i = small-key in
          let d = A.ready.tokens in
          decode-same count w w' pool (λ k l. kept-other k (λ e. omega arith) (λ e. omega arith) (λ e. omega arith))

    -- a string field
    module _ (y : is_string f ≡ true) (us : List Token) (u : us ≡ decode count ws pool) (to : ℕ) (val : EndsValue us end from to) where
      string-within : FieldWithin n f (past count end) (kept_field n key from to f ws) key
      unfolding w'
      string-within =
          let x1 = kept-start ws (keeps-none n from end ws) from to in
          let x2 = kept-end ws (keeps-none n from end ws) from to in
          let o = past-on count end in
          let k1 = A.stands.value_on in
          let k2 = A.stands.inside in
          let k3 : key < past count end = omega arith in
          record {
            key = k3;
            string = λ _. record { key = k3; order = omega (arith, val.on); high = omega (arith, val.inside) };
            rows = λ q. absurd (false-true q y);
            arguments = λ q. absurd (false-true q y);
          }

      string-template : template_at (decode count (kept_field n key from to f ws) pool) (starts_of n (kept_field n key from to f ws)) (ends_of n (kept_field n key from to f ws)) f key ≡ string (parts_between (decode count ws pool) from to)
      unfolding template_at pick w'
      string-template = rw y (ap string (ap₂ (λ (p q : ℕ). parts_between (decode count (kept_field n key from to f ws) pool) p q) (kept-start ws (keeps-none n from end ws) from to) (kept-end ws (keeps-none n from end ws) from to) ∙ ap (λ (ts : List Token). parts_between ts from to) (tokens-kept ws (keeps-none n from end ws) from to)))

      string-item : read_field (token_at (decode count ws pool) key) (ending_at (decode count ws pool) end) (drop from (take end (decode count ws pool))) ≡ ok (given f (token_at (decode count ws pool) key) (string (parts_between (decode count ws pool) from to)))
      unfolding read_field
      string-item =
          rw (K.is, read_field) (rw y (ap (λ (ps : List Part). ok (given f (token_at (decode count ws pool) key) (string ps)))
          (value-parts count end s.next from to ws pool A.ready.fresh (omega (arith, A.stands.key_on, A.stands.value_on)) A.in_tokens (subst (λ (x : List Token). EndsValue x end from to) u val))))

      pub give-string : (w'' : List ℕ) (r : Std.Result Progress Answers.Refusal) → KeepsField n count end key from to f ws w'' pool s r
          → Takes n count end ws w'' pool s (read_field (token_at (decode count ws pool) key) (ending_at (decode count ws pool) end) (drop from (take end (decode count ws pool)))) r
      unfolding w'
      give-string w'' r k = give-takes ws (keeps-none n from end ws) from to string-within (string (parts_between (decode count ws pool) from to)) string-template string-item w'' r k

    -- a list field
    list-of : (r : Result (List (List Part))) → list_value (drop from (decode end ws pool)) ≡ r → list_value (drop from (take end (decode count ws pool))) ≡ r
    list-of r l = ap (λ (ts : List Token). list_value (drop from ts)) (sym (decode-take end count ws pool A.in_tokens)) ∙ l

    module _ (y : is_string f ≡ false) where
      pub give-open : (w : List ℕ) (q : ℕ) → Lists n from end ws w (Err q)
          → Takes n count end ws w pool s (read_field (token_at (decode count ws pool) key) (ending_at (decode count ws pool) end) (drop from (take end (decode count ws pool)))) (Err Told.UnterminatedQuote)
      unfolding read_field ◌>>=◌ refusal_number refusal_detail no_detail
      give-open w q l = λ file H. (
        unterminated_quote (token_at (decode end ws pool) q),
        rw (K.is, read_field) (rw (y, list-of _ (l pool), ◌>>=◌) refl),
        refuses Told.UnterminatedQuote (unterminated_quote (token_at (decode end ws pool) q)) 0 Ours.no_name Ours.no_name no_name no_name refl refl refl no-names no-names,
      )

      module _ (w : List ℕ) (keeps : Keeps n from end ws w) (m : ℕ) (l : Lists n from end ws w (Ok m)) where
        rows_same : (k : ℕ) → from ≤ k → k < from + m → (get_or (starts_of n (kept_field n key from m f w)) k 0 ≡ get_or (starts_of n w) k 0) × (get_or (ends_of n (kept_field n key from m f w)) k 0 ≡ get_or (ends_of n w) k 0)
        unfolding w'
        rows_same k p q =
            let v = A.stands.value_on in
            let i = small-key w keeps from m in (
              start-same n k w (kept_field n key from m f w) (λ h. kept-other w keeps from m (5 * n + k) (λ e. omega arith) (λ e. omega arith) (λ e. omega arith)),
              end_same n k w (kept_field n key from m f w) (λ h. kept-other w keeps from m (6 * n + k) (λ e. omega arith) (λ e. omega arith) (λ e. omega arith)),
            )

        list-within : FieldWithin n f (past count end) (kept_field n key from m f w) key
        unfolding w'
        list-within =
            let x1 = kept-start w keeps from m in
            let x2 = kept-end w keeps from m in
            let o = past-on count end in
            let k1 = A.stands.value_on in
            let k2 = A.stands.inside in
            let b = l.0 in
            record {
              key = omega arith;
              string = λ q. absurd (false-true y q);
              rows = λ _. omega arith;
              arguments = λ _ i p q.
                  let r = l.1 i (omega arith) (omega arith) in
                  let e = rows_same i (omega arith) (omega arith) in
                  record { low = omega arith; order = omega (arith, r.order, e.0, e.1); high = omega (arith, r.high, e.1) };
            }

        list-template : template_at (decode count (kept_field n key from m f w) pool) (starts_of n (kept_field n key from m f w)) (ends_of n (kept_field n key from m f w)) f key ≡ list (arguments_from (decode end w pool) (starts_of n w) (ends_of n w) from m)
        unfolding template_at pick w'
        list-template =
            rw (y, kept-start w keeps from m, kept-end w keeps from m)
            (ap list
            (arguments-same (decode end w pool) (decode count (kept_field n key from m f w) pool) (starts_of n w) (starts_of n (kept_field n key from m f w)) (ends_of n w) (ends_of n (kept_field n key from m f w)) from m
            (λ k p q.
            let e = rows_same k p q in
            let r = l.1 k p q in
            ap₂ (λ (x z : ℕ). parts_between (decode count (kept_field n key from m f w) pool) x z) e.0 e.1
            ∙ ap (λ (ts : List Token). parts_between ts (get_or (starts_of n w) k 0) (get_or (ends_of n w) k 0)) (tokens-kept w keeps from m)
            ∙ ap parts_of (sym (between-inside end count w pool (get_or (starts_of n w) k 0) (get_or (ends_of n w) k 0) A.in_tokens r.high)))))

        list-item : read_field (token_at (decode count ws pool) key) (ending_at (decode count ws pool) end) (drop from (take end (decode count ws pool))) ≡ ok (given f (token_at (decode count ws pool) key) (list (arguments_from (decode end w pool) (starts_of n w) (ends_of n w) from m)))
        unfolding read_field ◌>>=◌
        list-item = rw (K.is, read_field) (rw (y, list-of _ (l.2 pool), ◌>>=◌) refl)

        pub give-list : (w'' : List ℕ) (r : Std.Result Progress Answers.Refusal) → KeepsField n count end key from m f w w'' pool s r
            → Takes n count end ws w'' pool s (read_field (token_at (decode count ws pool) key) (ending_at (decode count ws pool) end) (drop from (take end (decode count ws pool)))) r
        unfolding w'
        give-list w'' r k = give-takes w keeps from m list-within (list (arguments_from (decode end w pool) (starts_of n w) (ends_of n w) from m)) list-template list-item w'' r k

-- the entries past the workspace's part
pub keeps-beyond : (n from end : ℕ) (ws ws' : List ℕ) → end ≤ n → Keeps n from end ws ws' → drop (12 * n + 64) ws' ≡ drop (12 * n + 64) ws
keeps-beyond n from end ws ws' h K =
    ext_get_or 0 (drop (12 * n + 64) ws') (drop (12 * n + 64) ws) (omega (arith, length-drop (12 * n + 64) ws', length-drop (12 * n + 64) ws, K.long))
    (λ i l. get_or-drop (12 * n + 64) ws' i 0 ∙ K.same (12 * n + 64 + i) (λ p q. omega arith) (λ p q. omega arith) (λ p q. omega arith) ∙ sym (get_or-drop (12 * n + 64) ws i 0))
