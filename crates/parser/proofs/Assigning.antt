-- A line with `=`. Assumes nothing.
use Rattle.std.specs.Prelude.{Option, Some, None, Ok, Err}
use Rattle.std.specs.List.{list_all}
use Prim.Native.Nat.{ℕ, ◌+◌, ◌*◌, ◌-◌, ◌≤◌, ◌<◌}
use mathlib.Core.Path.{◌≡◌, refl, sym, ◌∙◌, ap, subst}
use mathlib.Core.Bool.{Bool, true, false}
use mathlib.Core.List.{List, map}
use native.Mathlib.Omega.{arith}
use lib.ListN.{length, get_or, take, drop, length-take}
use lib.Seq.{get_or-take, get_or-drop}
use Rattle.rules.specs.Bytes.{pick, all}
use Rattle.rules.specs.Tokens.{Token, no_name, is_a, text_kind, shown_name}
use Rattle.rules.specs.Numbers.{Result, ok, ◌>>=◌, refusal_number, refusal_detail, invalid_variable_name, duplicate_variable}
use Rattle.rules.specs.Lexing.{is_identifier}
use Rattle.rules.specs.Lines.{Part, as_part, string_value, Item, assignment, assigned, insert, keep, read_assignment}
use Rattle.rules.proofs.TableLaws.{insert-sorted}
use Rattle.answers.specs.declared.Name.{Name}
use Rattle.answers.specs.declared.Refusal.TheVariants as Told
use Rattle.answers.specs.Tells.{Names}
use Rattle.answers.specs.Refusals as Ours
use Rattle.answers.specs.Refusals.{Refuses}
use Rattle.answers.proofs.Telling.{refuses, no-names}
use Rattle.tokens.specs.Entries.{decode, token_at, pool_text}
use Rattle.workspace.specs.Map.{dropped_kind, between, parts_between, keys_from, starts_of, ends_of, variables_from, field_in, field_of_entry}
use Rattle.names.specs.Store.{Insertable, Inserts, is_assigned, place_of, with_key, first_after, stored}
use Rattle.names.proofs.Places.{text-pooled}
use Rattle.names.proofs.Storing.{place-fits, after-within, stored_other, stored-beyond, stored-keys, stored-start, stored-end, stored-tokens, stored-long}
use Rattle.lines.specs.Line.{EndsValue, ending_at}
use Rattle.lines.proofs.Tokens.{no_kind}
use Rattle.lines.proofs.Starts.{a_kind}
use Rattle.lines.proofs.Parts.{parts-map}
use Rattle.parser.specs.declared.Progress.{Progress}
use Rattle.parser.specs.Parse.{VariableWithin, Fresh, Ready, Takes, AtValue}
use Rattle.parser.specs.Places.{past}
use Rattle.parser.proofs.Answering.{all-list, text-shows}
use Rattle.parser.proofs.Frames.{Frame, all_map, all_insert, variable-within, field-same, entry-within, left-same, fresh-same}
use Rattle.parser.proofs.Lines.{past-on, past-in, past-few, past-few-more}

-- a string value is the parts of its tokens, since none is dropped
pub value-parts : (count end j from to : ℕ) (ws pool : List ℕ) → Fresh count j ws → j ≤ from → end ≤ count → EndsValue (decode count ws pool) end from to
    → string_value (ending_at (decode count ws pool) end) (drop from (take end (decode count ws pool))) ≡ parts_between (decode count ws pool) from to
unfolding string_value
value-parts count end j from to ws pool f h l val =
    ap (map as_part) val.is
    ∙ sym (parts-map (between (decode count ws pool) from to) (λ k q.
    let m : k < to - from = omega (arith, length-take (to - from) (drop from (decode count ws pool))) in
    rw (get_or-take (to - from) (drop from (decode count ws pool)) k no_name m, get_or-drop from (decode count ws pool) k no_name)
    (no_kind count ws pool (from + k) dropped_kind (f (from + k) (omega arith) (omega (arith, val.inside))))))

module _ (n count end key from : ℕ) (ws pool : List ℕ) (s : Progress) (A : AtValue n count end key from ws pool s) where
  item : Result Item
  item = read_assignment (token_at (decode count ws pool) key) (ending_at (decode count ws pool) end) (drop from (take end (decode count ws pool)))

  pub key-text : is_a text_kind (token_at (decode count ws pool) key) ≡ true
  key-text = a_kind (decode count ws pool) key text_kind A.stands.is_text

  key-self : shown_name (token_at (decode count ws pool) key) ≡ token_at (decode count ws pool) key
  key-self = text-shows (token_at (decode count ws pool) key) key-text

  -- what `is_variable_name` said of the key's text
  module _ (b : Bool) (us : List Token) (u : us ≡ decode count ws pool) (text : List ℕ) (t : text ≡ pool_text (token_at us key)) (e : b ≡ list_all (λ (x : ℕ). is_identifier x) text) where
    named : all is_identifier (token_at (decode count ws pool) key).text ≡ b
    named = sym (e ∙ sym (all-list is_identifier text) ∙ ap (all is_identifier) (t ∙ ap (λ (x : List Token). pool_text (token_at x key)) u ∙ text-pooled (token_at (decode count ws pool) key) key-text))

    pub assign-bad : (k : Name) (ws' : List ℕ) → b ≡ false → Names k (shown_name (token_at (decode count ws pool) key))
        → Takes n count end ws ws' pool s (read_assignment (token_at (decode count ws pool) key) (ending_at (decode count ws pool) end) (drop from (take end (decode count ws pool)))) (Err (Told.InvalidVariableName k))
    unfolding read_assignment ◌>>=◌ refusal_number refusal_detail
    assign-bad k ws' y S = λ file H. (
      invalid_variable_name (token_at (decode count ws pool) key),
      rw (named ∙ y, read_assignment, ◌>>=◌) refl,
      refuses (Told.InvalidVariableName k) (invalid_variable_name (token_at (decode count ws pool) key)) 0 k Ours.no_name (token_at (decode count ws pool) key) no_name refl refl refl (rw key-self at S) no-names,
    )

    module _ (y : b ≡ true) (to : ℕ) (val : EndsValue us end from to) where
      live : s.next < count
      live = omega (arith, A.stands.key_on, A.stands.value_on, A.stands.inside, A.in_tokens)

      pub insert-asks : Insertable s.first n count s.variables key from to ws pool
      insert-asks =
          let R = A.ready in
          let l = live in
          let q = R.few_more live in
          let u = A.stands.value_on in
          let w = A.stands.inside in
          let x = A.in_tokens in
          record {
            search = record { room = omega (arith, R.room); tokens = R.tokens; few = omega (arith, R.high, R.tokens); texts = R.texts; sorted = R.sorted };
            older = all_map (VariableWithin n s.next ws) (λ (k : ℕ). k < key) (λ k v. omega (arith, v.key, A.stands.key_on)) (keys_from s.first s.variables ws) R.within.variables;
            text = key-text;
            below = omega (arith, R.low, R.tokens);
            above = omega (arith, R.high, R.tokens);
            inside = omega (arith, R.tokens);
            small = R.small;
            from_small = omega (arith, R.tokens);
            end_small = omega (arith, R.tokens, val.inside);
          }

      item-is : item ≡ ok (assignment (token_at (decode count ws pool) key) (parts_between (decode count ws pool) from to))
      unfolding item read_assignment
      item-is =
          rw (named ∙ y, read_assignment)
          (ap (λ (ps : List Part). ok (assignment (token_at (decode count ws pool) key) ps))
          (value-parts count end s.next from to ws pool A.ready.fresh (omega (arith, A.stands.key_on, A.stands.value_on)) A.in_tokens (subst (λ (x : List Token). EndsValue x end from to) u val)))

      module _ (ws' : List ℕ) (r : Option ℕ) (I : Inserts s.first n count s.variables key from to pool ws ws' r) where
        abbrev begin : ℕ
        begin = first_after s.first s.variables (place_of s.first n count s.variables key ws pool)

        around : (s.first - 1 ≤ begin) × (begin ≤ s.first)
        around = after-within s.first s.variables (place_of s.first n count s.variables key ws pool)

        answer : (b : Bool) → is_assigned s.first n count s.variables key ws pool ≡ b → r ≡ pick b None (Some begin)
        answer b q = I.is_answer ∙ ap (λ (x : Bool). pick x None (Some begin)) q

        is-dup : r ≡ None → is_assigned s.first n count s.variables key ws pool ≡ true
        unfolding pick
        is-dup d = go (is_assigned s.first n count s.variables key ws pool) refl
          where
            go : (b : Bool) → is_assigned s.first n count s.variables key ws pool ≡ b → is_assigned s.first n count s.variables key ws pool ≡ true
            go true q = q
            go false q = let z : Some begin ≡ None = sym (answer false q) ∙ d in let x : ◌≡◌ {A = ℕ} 0 1 = cc in absurd (omega arith)

        is-new : (m : ℕ) → r ≡ Some m → is_assigned s.first n count s.variables key ws pool ≡ false
        unfolding pick
        is-new m d = go (is_assigned s.first n count s.variables key ws pool) refl
          where
            go : (b : Bool) → is_assigned s.first n count s.variables key ws pool ≡ b → is_assigned s.first n count s.variables key ws pool ≡ false
            go true q = let z : Some m ≡ None = sym d ∙ answer true q in let x : ◌≡◌ {A = ℕ} 0 1 = cc in absurd (omega arith)
            go false q = q

        pub assign-dup : (k : Name) → r ≡ None → Names k (shown_name (token_at (decode count ws' pool) key))
            → Takes n count end ws ws' pool s (read_assignment (token_at (decode count ws pool) key) (ending_at (decode count ws pool) end) (drop from (take end (decode count ws pool)))) (Err (Told.DuplicateVariable k))
        unfolding item keep ◌>>=◌ refusal_number refusal_detail pick
        assign-dup k d S = λ file H.
            let w : ws' ≡ ws = I.is_ws ∙ rw (is-dup d) refl in
            let x : assigned (token_at (decode count ws pool) key).text file.variables ≡ true = ap (assigned (token_at (decode count ws pool) key).text) (sym H.holds.variables) ∙ is-dup d in (
              duplicate_variable (token_at (decode count ws pool) key),
              ap (λ (i : Result Item). i >>= keep file) item-is ∙ rw (x, keep) refl,
              refuses (Told.DuplicateVariable k) (duplicate_variable (token_at (decode count ws pool) key)) 0 k Ours.no_name (token_at (decode count ws pool) key) no_name refl refl refl (rw (w, key-self) at S) no-names,
            )

        pub dup-beyond : r ≡ None → drop (12 * n + 64) ws' ≡ drop (12 * n + 64) ws
        unfolding pick
        dup-beyond d = ap (drop (12 * n + 64)) (I.is_ws ∙ rw (is-dup d) refl)

        module _ (m : ℕ) (d : r ≡ Some m) where
          begins : m ≡ begin
          unfolding pick
          begins = let z : ◌≡◌ {A = Option ℕ} (Some m) (Some begin) = sym d ∙ answer false (is-new m d) in cc

          p : ℕ
          p = place_of s.first n count s.variables key ws pool

          is-stored : ws' ≡ stored s.first n s.variables (place_of s.first n count s.variables key ws pool) key from to ws
          unfolding pick
          is-stored = I.is_ws ∙ rw (is-new m d) refl

          fits : p ≤ s.variables
          unfolding p
          fits = place-fits s.first n count s.variables key from to ws pool insert-asks

          other : (i : ℕ) → (4 * n ≤ i → i < 5 * n → ⊥) → (i ≡ 5 * n + key → ⊥) → (i ≡ 6 * n + key → ⊥) → get_or ws' i 0 ≡ get_or ws i 0
          unfolding p
          other i x y z =
              ap (λ (w : List ℕ). get_or w i 0) is-stored
              ∙ stored_other s.first n s.variables p key from to ws insert-asks.search.room insert-asks.below insert-asks.above fits insert-asks.inside i x y z

          frame : Frame n s.next (past count end) ws ws'
          frame =
              let i = insert-asks.inside in
              let k = A.stands.key_on in
              record {
                tokens = λ x h. other x (λ a b. omega (arith, A.ready.on, A.ready.tokens)) (λ e. omega (arith, A.ready.on, A.ready.tokens)) (λ e. omega (arith, A.ready.on, A.ready.tokens));
                starts = λ x h l. other (5 * n + x) (λ a b. omega arith) (λ e. omega arith) (λ e. omega arith);
                ends = λ x h l. other (6 * n + x) (λ a b. omega arith) (λ e. omega arith) (λ e. omega arith);
                after = λ x h l. other x (λ a b. omega arith) (λ e. omega arith) (λ e. omega arith);
              }

          keys : keys_from begin (s.variables + 1) ws' ≡ with_key p key (keys_from s.first s.variables ws)
          unfolding p
          keys = ap (keys_from begin (s.variables + 1)) is-stored ∙ stored-keys s.first n s.variables p key from to ws insert-asks.search.room insert-asks.below insert-asks.above fits insert-asks.inside

          new-within : VariableWithin n (past count end) ws' key
          unfolding p
          new-within =
              let a : get_or (starts_of n ws') key 0 ≡ from = ap (λ (w : List ℕ). get_or (starts_of n w) key 0) is-stored ∙ stored-start s.first n s.variables p key from to ws insert-asks.search.room insert-asks.below insert-asks.above fits insert-asks.inside in
              let b : get_or (ends_of n ws') key 0 ≡ to = ap (λ (w : List ℕ). get_or (ends_of n w) key 0) is-stored ∙ stored-end s.first n s.variables p key from to ws insert-asks.search.room insert-asks.below insert-asks.above fits insert-asks.inside in
              let o = past-on count end in
              record { key = omega (arith, A.stands.value_on, A.stands.inside); order = omega (arith, val.on); high = omega (arith, val.inside) }

          tokens-are : decode count ws' pool ≡ decode count ws pool
          unfolding p
          tokens-are = ap (λ (w : List ℕ). decode count w pool) is-stored ∙ stored-tokens s.first n s.variables p key from to ws insert-asks.search.room insert-asks.below insert-asks.above fits insert-asks.inside count pool A.ready.tokens

          entry-is : (f : ℕ) → get_or ws' (12 * n + f) 0 ≡ get_or ws (12 * n + f) 0
          entry-is f = let i = insert-asks.inside in other (12 * n + f) (λ a b. omega arith) (λ e. omega arith) (λ e. omega arith)

          long : length ws' ≡ length ws
          unfolding p
          long = ap length is-stored ∙ stored-long s.first n s.variables p key from to ws insert-asks.search.room insert-asks.below insert-asks.above fits insert-asks.inside

          ready-new : Ready begin n count (s.variables + 1) (past count end) ws' pool
          ready-new =
              let R = A.ready in
              let o = past-on count end in
              let c = past-in count end A.in_tokens in
              let k1 = A.stands.key_on in
              let k2 = A.stands.value_on in
              let k3 = A.stands.inside in
              let q = R.few_more live in
              let W = R.within.variables in
              record {
                small = R.small;
                room = omega (arith, R.room, long);
                tokens = R.tokens;
                on = c;
                few = past-few count end s.variables s.next q (omega arith);
                few_more = past-few-more count end s.variables s.next q (omega arith);
                low = omega (arith, R.low, insert-asks.below, around.0);
                high = omega (arith, R.high, around.1);
                sorted = rw (I.is_table (is-new m d)) (insert-sorted _ (variables_from s.first n count s.variables ws pool) R.sorted (is-new m d));
                texts = rw (keys, tokens-are) (all_insert (λ (k : ℕ). is_a text_kind (token_at (decode count ws pool) k) ≡ true) key key-text (keys_from s.first s.variables ws) p R.texts);
                within = record {
                  variables = rw keys (all_insert (VariableWithin n (past count end) ws') key new-within (keys_from s.first s.variables ws) p
                      (all_map (VariableWithin n s.next ws) (VariableWithin n (past count end) ws') (variable-within n count s.next (past count end) ws ws' frame R.tokens R.on (past count end) (omega arith)) (keys_from s.first s.variables ws) W));
                  fields = λ f x y. rw (entry-is f) (entry-within n count s.next (past count end) ws ws' frame R.tokens R.on f (past count end) (get_or ws (12 * n + f) 0) (omega arith) (R.within.fields f x y));
                };
                fresh = fresh-same n count s.next (past count end) ws ws' frame R.tokens R.on (omega arith) R.fresh;
              }

          pub assign-new : (t : Progress) → t.variables ≡ s.variables + 1 → t.first ≡ m → t.seen.0 ≡ s.seen.0 → t.next ≡ past count end
              → Takes n count end ws ws' pool s (read_assignment (token_at (decode count ws pool) key) (ending_at (decode count ws pool) end) (drop from (take end (decode count ws pool)))) (Ok t)
          unfolding item keep ◌>>=◌ field_in
          assign-new t a g b c = (
            c,
            rw (a, g ∙ begins, c) ready-new,
            rw c (left-same n count s.next (past count end) ws ws' frame A.ready.tokens A.ready.on pool),
            λ file H.
                let vs = H.holds.variables in
                let x : assigned (token_at (decode count ws pool) key).text file.variables ≡ false = ap (assigned (token_at (decode count ws pool) key).text) (sym vs) ∙ is-new m d in (
                  record { variables = insert (record { key = token_at (decode count ws pool) key; value = parts_between (decode count ws pool) from to }) file.variables; fields = file.fields },
                  ap (λ (i : Result Item). i >>= keep file) item-is ∙ rw (x, keep) refl,
                  rw (a, g ∙ begins, b)
                      (record {
                        holds = record {
                          variables = I.is_table (is-new m d) ∙ ap (insert (record { key = token_at (decode count ws pool) key; value = parts_between (decode count ws pool) from to })) vs;
                          fields = λ f x y.
                              ap (field_of_entry (decode count ws' pool) (starts_of n ws') (ends_of n ws') f) (entry-is f)
                              ∙ field-same n count s.next (past count end) ws ws' frame A.ready.tokens A.ready.on pool f (get_or ws (12 * n + f) 0) (A.ready.within.fields f x y) ∙ H.holds.fields f x y;
                        };
                        marks = H.marks;
                      }),
                ),
          )

          pub assign-beyond : drop (12 * n + 64) ws' ≡ drop (12 * n + 64) ws
          unfolding p
          assign-beyond =
              ap (drop (12 * n + 64)) is-stored
              ∙ stored-beyond s.first n s.variables p key from to ws insert-asks.search.room insert-asks.below insert-asks.above fits insert-asks.inside (12 * n + 64) (omega arith)
