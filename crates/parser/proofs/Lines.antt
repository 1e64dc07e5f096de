-- From what one line says to the lines, and from line to line. Assumes nothing.
use Rattle.std.specs.Prelude as Std
use Rattle.std.specs.Prelude.{Ok, Err}
use Prim.Native.Nat.{ℕ, ◌+◌, ◌*◌, ◌/◌, ◌≤◌, ◌<◌}
use mathlib.Core.Path.{◌≡◌, refl, sym, ◌∙◌, ap, subst}
use mathlib.Core.List.{List, [], ◌∷◌, map}
use native.Mathlib.Decide.{dec_lt}
use native.Mathlib.Omega.{arith}
use lib.ListN.{length, get_or, take, drop, replicate, length-replicate}
use lib.Seq.{take_at}
use Rattle.std.proofs.lemmas.List.{get_or-replicate}
use borrow.Author.Tests.{lt-ltb, le-ltb}
use Rattle.rules.specs.Bytes.{pick}
use Rattle.rules.specs.Tokens.{Token}
use Rattle.rules.specs.Numbers.{Refusal, Result, refused, ok, ◌>>=◌}
use Rattle.rules.specs.Lines.{File, Item, Line, empty, no_lines, lines, skip_blanks, after_blanks, read_line, keep, read_lines, field_at}
use Rattle.answers.specs.declared.Refusal as Answers
use Rattle.answers.specs.Refusals.{Refuses}
use Rattle.tokens.specs.Entries.{decode}
use Rattle.scan.specs.Stores.{puts}
use Rattle.scan.proofs.Lists.{length_part}
use Rattle.scan.proofs.Stores.{length-puts, get_or-puts-below, get_or-puts-above, get_or-stored, drop-puts, drop-stored}
use Rattle.tokens.proofs.TokenLaws.{length-decode, token_end, decode-puts, kinds-puts}
use Rattle.workspace.specs.Map.{keys_from, starts_of, ends_of, variables_from, field_in, field_of_entry}
use Rattle.fields.proofs.Bits.{marks-none}
use Rattle.lines.specs.Line.{EndsLine, line_at}
use Rattle.lines.proofs.Starts.{line-newline, line-last}
use Rattle.parser.specs.declared.Progress.{Progress}
use Rattle.parser.specs.Places.{past}
use Rattle.parser.specs.Parse.{Within, Ready, Held, Takes, Steps, NoFields, Parsable, FileHeld, Parses}
use Rattle.parser.proofs.Frames.{Frame, all_map, variables-same, variable-within, texts-same, field-same, entry-within, fresh-same}

-- the token past a line
module _ (count end : ℕ) where
  past-newline : end < count → past count end ≡ end + 1
  unfolding pick
  past-newline h = rw (lt-ltb end count h)

  past-text : count ≤ end → past count end ≡ end
  unfolding pick
  past-text h = rw (le-ltb end count h)

  pub past-on : end ≤ past count end
  past-on = elim (dec_lt end count) [ yes h ↦ omega (arith, past-newline h) | no h ↦ omega (arith, past-text (omega arith)) ]

  pub past-in : end ≤ count → past count end ≤ count
  past-in l = elim (dec_lt end count) [ yes h ↦ omega (arith, past-newline h) | no h ↦ omega (arith, past-text (omega arith)) ]

  pub past_more : (j : ℕ) → j ≤ end → j < count → j < past count end
  past_more j l k = elim (dec_lt end count) [ yes h ↦ omega (arith, past-newline h) | no h ↦ omega (arith, past-text (omega arith)) ]

  -- a line with a key, `=` and a newline has three tokens
  pub past-few : (v j : ℕ) → 3 * v ≤ j → j + 2 ≤ end → 3 * (v + 1) ≤ past count end + 1
  past-few v j f l = omega (arith, past-on)

  pub past-few-more : (v j : ℕ) → 3 * v ≤ j → j + 2 ≤ end → past count end < count → 3 * (v + 1) ≤ past count end
  past-few-more v j f l k = elim (dec_lt end count) [ yes h ↦ omega (arith, past-newline h) | no h ↦ absurd (omega (arith, past-text (omega arith))) ]

-- a line and the lines after it
step_ok : (file more : File) (l : Line) (ls : List Line) → (read_line l >>= keep file) ≡ ok more → read_lines file (l ∷ ls) ≡ read_lines more ls
unfolding read_lines ◌>>=◌
step_ok file more l ls e = go (read_line l) refl
  where
    go : (x : Result Item) → read_line l ≡ x → read_lines file (l ∷ ls) ≡ read_lines more ls
    go (refused r) q = let z : refused r ≡ ok more = sym (rw (q, ◌>>=◌) refl) ∙ e in let y : ◌≡◌ {A = ℕ} 0 1 = cc in absurd (omega arith)
    go (ok item) q = let z : keep file item ≡ ok more = sym (rw (q, ◌>>=◌) refl) ∙ e in rw (q, read_lines, ◌>>=◌) (rw (z, ◌>>=◌) refl)

step-no : (file : File) (r : Refusal) (l : Line) (ls : List Line) → (read_line l >>= keep file) ≡ refused r → read_lines file (l ∷ ls) ≡ refused r
unfolding read_lines ◌>>=◌
step-no file r l ls e = go (read_line l) refl
  where
    go : (x : Result Item) → read_line l ≡ x → read_lines file (l ∷ ls) ≡ refused r
    go (refused q) p = let z : ◌≡◌ {A = Result File} (refused q) (refused r) = sym (rw (p, ◌>>=◌) refl) ∙ e in let y : q ≡ r = cc in rw (p, read_lines, ◌>>=◌) (ap refused y)
    go (ok item) p = let z : keep file item ≡ refused r = sym (rw (p, ◌>>=◌) refl) ∙ e in rw (p, read_lines, ◌>>=◌) (rw (z, ◌>>=◌) refl)

-- no token is left
pub lines_none : (file : File) → read_lines file (lines []) ≡ ok file
unfolding lines read_lines read_line after_blanks skip_blanks keep ◌>>=◌
lines_none file = refl

-- THE LAW of a line
module _ (n count end : ℕ) (ws ws' pool : List ℕ) (s : Progress) (E : EndsLine (decode count ws pool) s.next end) (live : s.next < count) where
  rest-after : (file : File) → (rest : List Line) × (lines (drop s.next (decode count ws pool)) ≡ line_at (decode count ws pool) end s.next ∷ rest) × (read_lines file rest ≡ read_lines file (lines (drop (past count end) (decode count ws pool))))
  unfolding read_lines
  rest-after file = elim (dec_lt end count) [
    | yes h ↦ (lines (drop (end + 1) (decode count ws pool)), line-newline (decode count ws pool) s.next end E (omega (arith, length-decode count ws pool)), ap (λ (k : ℕ). read_lines file (lines (drop k (decode count ws pool)))) (sym (past-newline count end h)))
    | no h ↦ (
      [],
      line-last (decode count ws pool) s.next end E (omega (arith, length-decode count ws pool)),
      sym (ap (λ (l : List Token). read_lines file (lines l)) (token_end count ws pool (past count end) (omega (arith, past-text count end (omega arith)))) ∙ lines_none file),
    )
  ]

  pub steps : (r : Std.Result Progress Answers.Refusal) → Takes n count end ws ws' pool s (read_line (line_at (decode count ws pool) end s.next)) r → Steps n count ws ws' pool s r
  steps (Ok t) (e, R, D, f) = (
    R,
    omega (arith, past_more count end s.next E.on live),
    λ file H.
        let x = f file H in
        let y = rest-after x.0 in (
          x.0,
          ap (read_lines file) y.1 ∙ step_ok file x.0 (line_at (decode count ws pool) end s.next) y.0 x.1 ∙ y.2
              ∙ ap (λ (l : List Token). read_lines x.0 (lines l)) (ap (λ (k : ℕ). drop k (decode count ws pool)) (sym e) ∙ sym D),
          x.2,
        ),
  )
  steps (Err a) f =
      λ file H.
      let x = f file H in
      let y = rest-after file in
      (x.0, ap (read_lines file) y.1 ∙ step-no file x.0 (line_at (decode count ws pool) end s.next) y.0 x.1, x.2)

-- a line that says nothing
frame_same : (n j next : ℕ) (ws : List ℕ) → Frame n j next ws ws
frame_same n j next ws = record { tokens = λ k h. refl; starts = λ k h l. refl; ends = λ k h l. refl; after = λ k h l. refl }

pub takes-empty : (n count end : ℕ) (ws pool : List ℕ) (s : Progress) (item : Result Item) → Ready s.first n count s.variables s.next ws pool → s.next < count → EndsLine (decode count ws pool) s.next end
    → item ≡ ok empty → (t : Progress) → t.variables ≡ s.variables → t.first ≡ s.first → t.seen.0 ≡ s.seen.0 → t.next ≡ past count end → Takes n count end ws ws pool s item (Ok t)
unfolding keep ◌>>=◌
takes-empty n count end ws pool s item R live E e t a g b d =
    let p = past-on count end in
    let l = past-in count end (omega (arith, E.inside, length-decode count ws pool)) in
    let on = E.on in
    let F = frame_same n s.next (past count end) ws in (
      d,
      rw (a, g, d)
          (record {
            small = R.small;
            room = R.room;
            tokens = R.tokens;
            on = l;
            few = omega (arith, R.few_more live);
            few_more = λ _. omega (arith, R.few_more live);
            low = R.low;
            high = R.high;
            sorted = R.sorted;
            texts = R.texts;
            within = record {
              variables = all_map _ _ (variable-within n count s.next (past count end) ws ws F R.tokens R.on (past count end) (omega arith)) (keys_from s.first s.variables ws) R.within.variables;
              fields = λ f x y. entry-within n count s.next (past count end) ws ws F R.tokens R.on f (past count end) (get_or ws (12 * n + f) 0) (omega arith) (R.within.fields f x y);
            };
            fresh = fresh-same n count s.next (past count end) ws ws F R.tokens R.on (omega arith) R.fresh;
          }),
      refl,
      λ file H. (file, rw (e, ◌>>=◌) refl, rw (a, g, b) H),
    )

pub takes-refused : (n count end : ℕ) (ws ws' pool : List ℕ) (s : Progress) (item : Result Item) (r : Refusal) (a : Answers.Refusal) → item ≡ refused r → Refuses a r → Takes n count end ws ws' pool s item (Err a)
unfolding ◌>>=◌
takes-refused n count end ws ws' pool s item r a e T = λ file H. (r, rw (e, ◌>>=◌) refl, T)

pub takes-item : (n count end : ℕ) (ws ws' pool : List ℕ) (s : Progress) (item item' : Result Item) (r : Std.Result Progress Answers.Refusal) → item ≡ item' → Takes n count end ws ws' pool s item' r → Takes n count end ws ws' pool s item r
takes-item n count end ws ws' pool s item item' r e T = subst (λ (x : Result Item). Takes n count end ws ws' pool s x r) (sym e) T

-- the loop over lines
pub record Parsing (n count : ℕ) (ws₀ ws pool : List ℕ) (s : Progress) : Type 0 where
  pub ready : Ready s.first n count s.variables s.next ws pool
  pub beyond : drop (12 * n + 64) ws ≡ drop (12 * n + 64) ws₀
  pub left : (file : File) × (read_lines no_lines (lines (decode count ws₀ pool)) ≡ read_lines file (lines (drop s.next (decode count ws pool)))) × Held s.first n count s.variables s.seen.0 ws pool file

pub parse-begin : (n count : ℕ) (ws pool : List ℕ) (s : Progress) → s.variables ≡ 0 → s.first ≡ 4 * n + n / 2 → s.seen.0 ≡ 0 → s.next ≡ 0 → Parsable n count ws → NoFields n ws → Parsing n count ws ws pool s
unfolding no_lines variables_from field_in field_of_entry field_at
parse-begin n count ws pool s a g b d P z =
    record {
      ready = rw (a, g, d) (record {
        small = P.small;
        room = P.room;
        tokens = P.tokens;
        on = omega arith;
        few = omega arith;
        few_more = λ _. omega arith;
        low = omega arith;
        high = omega arith;
        sorted = tt;
        texts = tt;
        within = record { variables = tt; fields = λ f x y. rw (z f y) tt };
        fresh = P.fresh;
      });
      beyond = refl;
      left = (no_lines, rw d refl, rw (a, g, b) (record { holds = record { variables = refl; fields = λ f x y. rw (z f y) refl }; marks = marks-none }));
    }

module _ (n count : ℕ) (ws₀ ws ws' pool : List ℕ) (s : Progress) (P : Parsing n count ws₀ ws pool s) (B : drop (12 * n + 64) ws' ≡ drop (12 * n + 64) ws) where
  pub parse-more : (t : Progress) → Steps n count ws ws' pool s (Ok t) → Parsing n count ws₀ ws' pool t
  parse-more t (R, l, f) =
      let x = f P.left.0 P.left.2 in
      record { ready = R; beyond = B ∙ P.beyond; left = (x.0, P.left.1 ∙ x.1, x.2) }

  pub parse-refused : (a : Answers.Refusal) → Steps n count ws ws' pool s (Err a) → Parses n count ws₀ ws' pool (Err a)
  parse-refused a f = let x = f P.left.0 P.left.2 in (x.0, P.left.1 ∙ x.1, x.2)

-- the keys go to 4n
module _ (first n count v : ℕ) (ws pool : List ℕ) (R : Ready first n count v count ws pool) where
  settled : List ℕ
  settled = puts ws (4 * n) (keys_from first v ws)

  length-keys : length (keys_from first v ws) ≡ v
  length-keys = length_part ws first v (omega (arith, R.low, R.high, R.few, R.tokens, R.room))

  other : (k : ℕ) → (4 * n ≤ k → k < 5 * n → ⊥) → get_or settled k 0 ≡ get_or ws k 0
  unfolding settled
  other k h = elim (dec_lt k (4 * n)) [
    | yes l ↦ get_or-puts-below ws (4 * n) (keys_from first v ws) k 0 l
    | no l ↦ get_or-puts-above ws (4 * n) (keys_from first v ws) k 0
        (elim (dec_lt k (5 * n)) [ yes m ↦ absurd (h (omega arith) m) | no m ↦ omega (arith, length-keys, R.few, R.tokens) ])
  ]

  frame : Frame n count count ws settled
  frame =
      let t = R.tokens in
      record {
        tokens = λ k h. other k (λ a b. omega arith);
        starts = λ k h l. other (5 * n + k) (λ a b. omega arith);
        ends = λ k h l. other (6 * n + k) (λ a b. omega arith);
        after = λ k h l. other k (λ a b. omega arith);
      }

  keys-are : keys_from (4 * n) v settled ≡ keys_from first v ws
  unfolding settled
  keys-are =
      let l = length-keys in
      ap (take v) (drop-stored ws (4 * n) (keys_from first v ws) (omega (arith, R.few, R.tokens, R.room))) ∙ take_at (keys_from first v ws) (drop (4 * n + length (keys_from first v ws)) ws) v l

  entry-is : (f : ℕ) → get_or settled (12 * n + f) 0 ≡ get_or ws (12 * n + f) 0
  entry-is f = other (12 * n + f) (λ a b. omega arith)

  variables-are : variables_from (4 * n) n count v settled pool ≡ variables_from first n count v ws pool
  unfolding variables_from
  variables-are = ap (map _) keys-are ∙ variables-same n count count count ws settled frame R.tokens R.on pool (keys_from first v ws) R.within.variables

  settled-within : Within (4 * n) n v count settled
  settled-within =
      record {
        variables = rw keys-are (all_map _ _ (variable-within n count count count ws settled frame R.tokens R.on count (omega arith)) (keys_from first v ws) R.within.variables);
        fields = λ f x y. rw (entry-is f) (entry-within n count count count ws settled frame R.tokens R.on f count (get_or ws (12 * n + f) 0) (omega arith) (R.within.fields f x y));
      }

  settled-held : (seen : ℕ) (file : File) → Held first n count v seen ws pool file → FileHeld n count v settled pool file
  unfolding field_in settled
  settled-held seen file H =
      record {
        holds = record {
          variables = variables-are ∙ H.holds.variables;
          fields = λ f x y.
              ap (field_of_entry (decode count settled pool) (starts_of n settled) (ends_of n settled) f) (entry-is f)
              ∙ field-same n count count count ws settled frame R.tokens R.on pool f (get_or ws (12 * n + f) 0) (R.within.fields f x y) ∙ H.holds.fields f x y;
        };
        room = record { small = R.small; room = omega (arith, R.room, length-puts ws (4 * n) (keys_from first v ws)); tokens = R.tokens; few = R.few };
        within = settled-within;
        texts = rw keys-are (texts-same n count count count ws settled frame R.tokens R.on pool (keys_from first v ws) R.within.variables R.texts);
        sorted = rw variables-are R.sorted;
      }

module _ (n count : ℕ) (ws₀ ws pool : List ℕ) (s : Progress) (P : Parsing n count ws₀ ws pool s) (h : count ≤ s.next) where
  read : Ready s.first n count s.variables count ws pool
  read = let e : s.next ≡ count = omega (arith, P.ready.on) in rw e at P.ready

  pub settle-asks : (4 * n ≤ s.first) × (s.first + s.variables ≤ length ws)
  settle-asks = let R = read in (omega (arith, R.low, R.few, R.tokens), omega (arith, R.high, R.few, R.tokens, R.room))

  pub parse-done : (ws' : List ℕ) → ws' ≡ puts ws (4 * n) (keys_from s.first s.variables ws) → Parses n count ws₀ ws' pool (Ok s.variables)
  unfolding settled
  parse-done w e = (
    P.left.0,
    P.left.1 ∙ ap (λ (l : List Token). read_lines P.left.0 (lines l)) (token_end count ws pool s.next h) ∙ lines_none P.left.0,
    rw e (settled-held s.first n count s.variables ws pool read s.seen.0 P.left.0 P.left.2),
  )

  pub done-beyond : (ws' : List ℕ) → ws' ≡ puts ws (4 * n) (keys_from s.first s.variables ws) → drop (12 * n + 64) ws' ≡ drop (12 * n + 64) ws₀
  done-beyond w e =
      let R = read in
      ap (drop (12 * n + 64)) e
      ∙ drop-puts (12 * n + 64) ws (4 * n) (keys_from s.first s.variables ws) (omega (arith, length-keys s.first n count s.variables ws pool R, R.few, R.tokens)) ∙ P.beyond

-- the fields' entries are zero at first
module _ (n count : ℕ) (ws : List ℕ) (P : Parsable n count ws) where
  pub cleared-asks : Parsable n count (puts ws (12 * n) (replicate {A = ℕ} 11 0))
  cleared-asks =
      record {
        small = P.small;
        room = omega (arith, P.room, length-puts ws (12 * n) (replicate {A = ℕ} 11 0));
        tokens = P.tokens;
        fresh = λ k a b e. P.fresh k a b (ap (λ (l : List ℕ). get_or l k 0) (sym (kinds-puts count ws (12 * n) (replicate {A = ℕ} 11 0) (omega (arith, P.tokens)))) ∙ e);
      }

  pub cleared-fields : NoFields n (puts ws (12 * n) (replicate {A = ℕ} 11 0))
  cleared-fields f h =
      let l : length (replicate {A = ℕ} 11 0) ≡ 11 = length-replicate {A = ℕ} 11 0 in
      get_or-stored ws (12 * n) (replicate {A = ℕ} 11 0) (omega (arith, P.room)) f 0 (omega arith) ∙ get_or-replicate {A = ℕ} 11 f 0 0 (omega arith)

  pub cleared-parses : (ws' pool : List ℕ) (r : Std.Result ℕ Answers.Refusal) → Parses n count (puts ws (12 * n) (replicate {A = ℕ} 11 0)) ws' pool r → Parses n count ws ws' pool r
  cleared-parses ws' pool (Ok v) (x, y, z) = (x, ap (λ (ts : List Token). read_lines no_lines (lines ts)) (sym (decode-puts count ws pool (12 * n) (replicate {A = ℕ} 11 0) (omega (arith, P.tokens)))) ∙ y, z)
  cleared-parses ws' pool (Err a) (x, y, z) = (x, ap (λ (ts : List Token). read_lines no_lines (lines ts)) (sym (decode-puts count ws pool (12 * n) (replicate {A = ℕ} 11 0) (omega (arith, P.tokens)))) ∙ y, z)

  pub cleared-beyond : drop (12 * n + 64) (puts ws (12 * n) (replicate {A = ℕ} 11 0)) ≡ drop (12 * n + 64) ws
  cleared-beyond = let l : length (replicate {A = ℕ} 11 0) ≡ 11 = length-replicate {A = ℕ} 11 0 in drop-puts (12 * n + 64) ws (12 * n) (replicate {A = ℕ} 11 0) (omega arith)
