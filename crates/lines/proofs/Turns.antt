-- Reading a list value token by token. Assumes nothing.
use Prim.Native.Nat.{ℕ, zero, suc, ◌+◌, ◌*◌, ◌≤◌, ◌<◌}
use mathlib.Core.Path.{◌≡◌, refl, sym, ◌∙◌, ap, ap₂}
use mathlib.Core.Bool.{Bool, true, false}
use mathlib.Core.List.{List, [], ◌∷◌, ◌++◌, append-nil}
use native.Mathlib.Decide.{dec_lt}
use native.Mathlib.Nat.{add-zero}
use native.Mathlib.Numerals.{add-one}
use native.Mathlib.Omega.{arith}
use lib.ListN.{length, get_or, drop, set, length-set, get_or-eq_default}
use lib.Seq.{get_or-drop, get_or-set_same, get_or-set_other}
use Rattle.rules.specs.Bytes.{pick}
use Rattle.rules.specs.Tokens.{Token, no_name, is_a}
use Rattle.rules.specs.Numbers.{unterminated_quote, refused, ok}
use Rattle.rules.specs.Lines.{Part, as_part, Role, part, splits, opens, closes, escapes, is_quote, role, listed, arguments, list_value}
use Rattle.scan.proofs.Lists.{cell_in}
use Rattle.tokens.specs.Entries.{decode, token_at, kind_at}
use Rattle.tokens.proofs.TokenLaws.{length-decode, decode-same, kind-at, kind-by, token-by, entry_in, token-cons, token_end}
use Rattle.workspace.specs.Map.{dropped_kind, parts_between, starts_of, ends_of, arguments_from}
use Rattle.std.specs.Prelude.{Option, Some, None, is_some, Ok, Err}
use Rattle.lines.specs.Quotes.{is_quote_kind}
use Rattle.lines.specs.Rows.{start_of, has_parts, NoneDropped, Keeps, RowWithin, Reading, Bounds, Row, Lists}
use Rattle.lines.proofs.Tokens.{kind-past, is-kind, no_kind}
use Rattle.lines.proofs.Roles.{quote-kind}
use Rattle.lines.proofs.Parts.{parts_more, parts-dropped, parts_none, parts_same, has-parts-more, listed-some, listed-none, arguments-more, arguments-same, start-same, end_same, keeps-none, keeps_then, keeps-wider, keeps-token, keeps-start, keeps-end}

-- rules' `arguments`, one equation a branch
module _ (q : Token) (cur : List Part) (found : List (List Part)) where
  arg-escaped : (t : Token) (ts : List Token) → arguments q true cur found (t ∷ ts) ≡ arguments q false (cur ++ (as_part t ∷ [])) found ts
  unfolding arguments
  arg-escaped t ts = refl

  module _ (t : Token) (ts : List Token) where
    arg-part : part ≡ role q t ts → arguments q false cur found (t ∷ ts) ≡ arguments q false (cur ++ (as_part t ∷ [])) found ts
    unfolding arguments
    arg-part e = rw (sym e, arguments) refl

    arg-splits : splits ≡ role q t ts → arguments q false cur found (t ∷ ts) ≡ arguments q false [] (found ++ listed cur) ts
    unfolding arguments
    arg-splits e = rw (sym e, arguments) refl

    arg-opens : opens ≡ role q t ts → arguments q false cur found (t ∷ ts) ≡ arguments t false cur found ts
    unfolding arguments
    arg-opens e = rw (sym e, arguments) refl

    arg-closes : closes ≡ role q t ts → arguments q false cur found (t ∷ ts) ≡ arguments no_name false cur found ts
    unfolding arguments
    arg-closes e = rw (sym e, arguments) refl

    arg-escapes : escapes ≡ role q t ts → arguments q false cur found (t ∷ ts) ≡ arguments q true cur found ts
    unfolding arguments
    arg-escapes e = rw (sym e, arguments) refl

  arg-open : (b : Bool) → is_quote q ≡ true → arguments q b cur found [] ≡ refused (unterminated_quote q)
  unfolding arguments
  arg-open b e = rw (e, arguments) refl

  arg-end : (b : Bool) → is_quote q ≡ false → arguments q b cur found [] ≡ ok (found ++ listed cur)
  unfolding arguments
  arg-end b e = rw (e, arguments) refl

-- a token rests on its four entries
pub token-same : (count : ℕ) (ws ws' pool : List ℕ) (j : ℕ) → ((k : ℕ) → 4 * j ≤ k → k < 4 * j + 4 → get_or ws' k 0 ≡ get_or ws k 0) → token_at (decode count ws' pool) j ≡ token_at (decode count ws pool) j
token-same count ws ws' pool j s =
    token-by count ws' pool j
    ∙ rw (s (4 * j + 0) (omega arith) (omega arith), s (4 * j + 1) (omega arith) (omega arith), s (4 * j + 2) (omega arith) (omega arith), s (4 * j + 3) (omega arith) (omega arith))
    (sym (token-by count ws pool j))

-- past the last there is no token
token-past : (end : ℕ) (ws pool : List ℕ) → token_at (decode end ws pool) end ≡ no_name
token-past end ws pool = get_or-eq_default (decode end ws pool) no_name (omega (arith, length-decode end ws pool))

-- the tokens from token j on rest on their entries
pub rest_from : (count j : ℕ) (ws ws' pool : List ℕ) → ((k : ℕ) → 4 * j ≤ k → k < 4 * count → get_or ws' k 0 ≡ get_or ws k 0) → drop j (decode count ws' pool) ≡ drop j (decode count ws pool)
unfolding decode
rest_from zero j ws ws' pool s = refl
rest_from (suc c) zero ws ws' pool s = decode-same (suc c) ws ws' pool (λ k l. s k (omega arith) l)
rest_from (suc c) (suc j) ws ws' pool s =
    rest_from c j (drop 4 ws) (drop 4 ws') pool (λ k a b. get_or-drop 4 ws' k 0 ∙ s (4 + k) (omega arith) (omega arith) ∙ sym (get_or-drop 4 ws k 0))

-- rows below from + rows, whose arguments end by token i, after stores that leave them and the tokens before i
module _ (n count from i rows : ℕ) (ws ws' : List ℕ) (on : i ≤ count)
    (tok : (k : ℕ) → k < 4 * i → get_or ws' k 0 ≡ get_or ws k 0)
    (st : (k : ℕ) → k < from + rows → k < n → get_or ws' (5 * n + k) 0 ≡ get_or ws (5 * n + k) 0)
    (en : (k : ℕ) → k < from + rows → k < n → get_or ws' (6 * n + k) 0 ≡ get_or ws (6 * n + k) 0) where
  pub rows-arguments : ((k : ℕ) → from ≤ k → k < from + rows → get_or (ends_of n ws) k 0 ≤ i) → (pool : List ℕ)
      → arguments_from (decode count ws' pool) (starts_of n ws') (ends_of n ws') from rows ≡ arguments_from (decode count ws pool) (starts_of n ws) (ends_of n ws) from rows
  rows-arguments within pool =
      arguments-same (decode count ws pool) (decode count ws' pool) (starts_of n ws) (starts_of n ws') (ends_of n ws) (ends_of n ws') from rows
      (λ k p q.
      let b = within k p q in
      ap₂ (λ (x y : ℕ). parts_between (decode count ws' pool) x y) (start-same n k ws ws' (st k q)) (end_same n k ws ws' (en k q))
      ∙ parts_same count ws ws' pool (get_or (starts_of n ws) k 0) (get_or (ends_of n ws) k 0) (omega arith) (λ x l. tok x (omega arith)))

  pub rows-within : (to : ℕ) → i ≤ to → ((k : ℕ) → from ≤ k → k < from + rows → RowWithin n from i ws k) → (k : ℕ) → from ≤ k → k < from + rows → RowWithin n from to ws' k
  rows-within to l within k p q =
      let w = within k p q in
      let a = start-same n k ws ws' (st k q) in
      let b = end_same n k ws ws' (en k q) in
      record { low = omega (arith, w.low); order = omega (arith, w.order); high = omega (arith, w.high) }

-- the argument being read gets its row, or has no part
pub record Flushed (n from end i rows start : ℕ) (ws ws' : List ℕ) (r : ℕ) : Type 0 where
  pub keeps : Keeps n from i ws ws'
  pub tokens : (pool : List ℕ) → decode end ws' pool ≡ decode end ws pool
  pub bound : from + r ≤ i
  pub within : (k : ℕ) → from ≤ k → k < from + r → RowWithin n from i ws' k
  pub args : (pool : List ℕ) → arguments_from (decode end ws' pool) (starts_of n ws') (ends_of n ws') from r
      ≡ arguments_from (decode end ws pool) (starts_of n ws) (ends_of n ws) from rows ++ listed (parts_between (decode end ws pool) start i)

module _ (n from end i rows start : ℕ) (any : Bool) (ws : List ℕ) (B : Bounds n from end i rows start ws) (w : Row from i rows any)
    (is_any : (pool : List ℕ) → any ≡ has_parts (parts_between (decode end ws pool) start i))
    (within : (k : ℕ) → from ≤ k → k < from + rows → RowWithin n from i ws k) where
  flushed-some : any ≡ true → Flushed n from end i rows start ws (set (set ws (5 * n + (from + rows)) start) (6 * n + (from + rows)) i) (rows + 1)
  flushed-some y =
      let h = w y in
      let row = from + rows in
      let wa = set ws (5 * n + row) start in
      let wb = set wa (6 * n + row) i in
      let la : length wa ≡ length ws = length-set ws (5 * n + row) start in
      let r1 = B.room in
      let r2 = B.inside in
      let r3 = B.on in
      let other : (k : ℕ) → (k ≡ 5 * n + row → ⊥) → (k ≡ 6 * n + row → ⊥) → get_or wb k 0 ≡ get_or ws k 0 = λ k p q. get_or-set_other wa (6 * n + row) k i 0 q ∙ get_or-set_other ws (5 * n + row) k start 0 p in
      let tok : (k : ℕ) → k < 4 * end → get_or wb k 0 ≡ get_or ws k 0 = λ k l. other k (λ e. omega arith) (λ e. omega arith) in
      let low : (k : ℕ) → k < 4 * i → get_or wb k 0 ≡ get_or ws k 0 = λ k l. tok k (omega arith) in
      let st : (k : ℕ) → k < from + rows → k < n → get_or wb (5 * n + k) 0 ≡ get_or ws (5 * n + k) 0 = λ k l m. other (5 * n + k) (λ e. omega arith) (λ e. omega arith) in
      let en : (k : ℕ) → k < from + rows → k < n → get_or wb (6 * n + k) 0 ≡ get_or ws (6 * n + k) 0 = λ k l m. other (6 * n + k) (λ e. omega arith) (λ e. omega arith) in
      let s : get_or (starts_of n wb) row 0 ≡ start =
      sym (cell_in wb (5 * n) n row (omega arith)) ∙ get_or-set_other wa (6 * n + row) (5 * n + row) i 0 (λ e. omega arith) ∙ get_or-set_same ws (5 * n + row) start 0 (omega arith) in
      let t : get_or (ends_of n wb) row 0 ≡ i = sym (cell_in wb (6 * n) n row (omega arith)) ∙ get_or-set_same wa (6 * n + row) i 0 (omega arith) in
      let b1 = B.rows_before in
      let b2 = B.start_before in
      record {
        keeps = keeps_then (keeps-start n from i row ws start (omega arith) h) (keeps-end n from i row wa i (omega arith) h);
        tokens = λ pool. decode-same end ws wb pool tok;
        bound = omega arith;
        within = λ k p q. elim (dec_lt k (from + rows)) [
          | yes l ↦ rows-within n end from i rows ws wb r3 low st en i (omega arith) within k p l
          | no l ↦ let e : k ≡ row = omega arith in rw e (record { low = omega arith; order = omega arith; high = omega arith })
        ];
        args = λ pool.
            ap (λ (m : ℕ). arguments_from (decode end wb pool) (starts_of n wb) (ends_of n wb) from m) (add-one rows)
            ∙ arguments-more (decode end wb pool) (starts_of n wb) (ends_of n wb) from rows
            ∙ ap₂ (λ (x : List (List Part)) (y : List (List Part)). x ++ y)
            (rows-arguments n end from i rows ws wb r3 low st en (λ k p q. (within k p q).high) pool)
            (ap₂ (λ (x y : ℕ). parts_between (decode end wb pool) x y ∷ []) s t
            ∙ ap (λ (x : List Part). x ∷ []) (parts_same end ws wb pool start i r3 low)
            ∙ sym (listed-some (parts_between (decode end ws pool) start i) (sym (is_any pool) ∙ y)));
      }

  flushed-none : any ≡ false → Flushed n from end i rows start ws ws rows
  flushed-none y =
      record {
        keeps = keeps-none n from i ws;
        tokens = λ pool. refl;
        bound = omega (arith, B.rows_before, B.start_before);
        within = within;
        args = λ pool. sym (ap (λ (x : List (List Part)). arguments_from (decode end ws pool) (starts_of n ws) (ends_of n ws) from rows ++ x) (listed-none (parts_between (decode end ws pool) start i) (sym (is_any pool) ∙ y)) ∙ append-nil _);
      }

  pub flushed : (r : ℕ) (ws' : List ℕ) → r ≡ pick any (rows + 1) rows → ws' ≡ pick any (set (set ws (5 * n + (from + rows)) start) (6 * n + (from + rows)) i) ws → Flushed n from end i rows start ws ws' r
  unfolding pick
  flushed r ws' e f = go any refl
    where
      go : (b : Bool) → any ≡ b → Flushed n from end i rows start ws ws' r
      go true y = rw (e, f, y) (flushed-some y)
      go false y = rw (e, f, y) (flushed-none y)

-- a turn: what it leaves of the numbers
module _ (n from end i rows start : ℕ) (ws : List ℕ) (B : Bounds n from end i rows start ws) (h : i < end) where
  pub bounds-more : (ws' : List ℕ) → length ws' ≡ length ws → Bounds n from end (i + 1) rows start ws'
  bounds-more ws' l =
      record { small = B.small; room = omega (arith, B.room); inside = B.inside; on = omega arith; rows_before = B.rows_before; start_before = omega (arith, B.start_before) }

  pub row_more : Row from (i + 1) rows true
  row_more y = omega (arith, B.rows_before, B.start_before)

  pub row_same : (any : Bool) → Row from i rows any → Row from (i + 1) rows any
  row_same any w y = omega (arith, w y)

  -- the value being read, with token i as it was before
  module _ {ws₀ : List ℕ} {any escaped : Bool} {quote opener : ℕ} (R : Reading n from end ws₀ ws i rows start any escaped quote opener) where
    here : (pool : List ℕ) → token_at (decode end ws pool) i ≡ token_at (decode end ws₀ pool) i
    here pool = token-same end ws₀ ws pool i (λ k a b. R.keeps.same k (λ p q. omega arith) (λ p q. omega (arith, B.inside)) (λ p q. omega (arith, B.inside)))

    kind-here : kind_at end ws i ≡ kind_at end ws₀ i
    kind-here = kind-at end ws [] i ∙ ap (λ (t : Token). t.kind) (here []) ∙ sym (kind-at end ws₀ [] i)

    from-before : from ≤ i
    from-before = omega (arith, B.rows_before, B.start_before)

    not-dropped : (pool : List ℕ) → is_a dropped_kind (token_at (decode end ws pool) i) ≡ false
    not-dropped pool = no_kind end ws pool i dropped_kind (λ z. R.none_dropped i from-before h (sym kind-here ∙ z))

    wider : Keeps n from (i + 1) ws₀ ws
    wider = keeps-wider n from i from (i + 1) (omega arith) (omega arith) R.keeps

    more_within : (k : ℕ) → from ≤ k → k < from + rows → RowWithin n from (i + 1) ws k
    more_within k p q = let w = R.within k p q in record { low = w.low; order = w.order; high = omega (arith, w.high) }

    one_more : (pool : List ℕ) → parts_between (decode end ws pool) start (i + 1) ≡ parts_between (decode end ws pool) start i ++ (as_part (token_at (decode end ws₀ pool) i) ∷ [])
    one_more pool =
        parts_more (decode end ws pool) start i B.start_before (omega (arith, length-decode end ws pool)) (not-dropped pool)
        ∙ ap (λ (t : Token). parts_between (decode end ws pool) start i ++ (as_part t ∷ [])) (here pool)

    -- token i is a part
    is-part : ((pool : List ℕ) (cur : List Part) (found : List (List Part))
        → arguments (token_at (decode end ws₀ pool) opener) escaped cur found (token_at (decode end ws₀ pool) i ∷ drop (i + 1) (decode end ws₀ pool))
        ≡ arguments (token_at (decode end ws₀ pool) opener) false (cur ++ (as_part (token_at (decode end ws₀ pool) i) ∷ [])) found (drop (i + 1) (decode end ws₀ pool)))
        → Reading n from end ws₀ ws (i + 1) rows start true false quote opener
    is-part f =
        record {
          none_dropped = R.none_dropped;
          keeps = wider;
          quote_is = R.quote_is;
          is_any = λ pool. sym (ap has_parts (one_more pool) ∙ has-parts-more (parts_between (decode end ws pool) start i) (as_part (token_at (decode end ws₀ pool) i)));
          within = more_within;
          left = λ pool.
              R.left pool
              ∙ ap (arguments (token_at (decode end ws₀ pool) opener) escaped (parts_between (decode end ws pool) start i) (arguments_from (decode end ws pool) (starts_of n ws) (ends_of n ws) from rows)) (token-cons end ws₀ pool i h)
              ∙ f pool (parts_between (decode end ws pool) start i) (arguments_from (decode end ws pool) (starts_of n ws) (ends_of n ws) from rows)
              ∙ ap (λ (x : List Part). arguments (token_at (decode end ws₀ pool) opener) false x (arguments_from (decode end ws pool) (starts_of n ws) (ends_of n ws) from rows) (drop (i + 1) (decode end ws₀ pool))) (sym (one_more pool));
        }

    turn-escaped : escaped ≡ true → Reading n from end ws₀ ws (i + 1) rows start true false quote opener
    turn-escaped y = is-part (λ pool cur found. rw y (arg-escaped (token_at (decode end ws₀ pool) opener) cur found (token_at (decode end ws₀ pool) i) (drop (i + 1) (decode end ws₀ pool))))

    -- token i has a role, by what `role_at` read
    module _ (y : escaped ≡ false) (r : Role)
        (is-role : (pool : List ℕ) (q : Token) → q.kind ≡ quote → r ≡ role q (token_at (decode end ws pool) i) (drop (i + 1) (decode end ws pool))) where
      rest-same : (pool : List ℕ) → drop (i + 1) (decode end ws pool) ≡ drop (i + 1) (decode end ws₀ pool)
      rest-same pool = rest_from end (i + 1) ws₀ ws pool (λ k a b. R.keeps.same k (λ p q. omega arith) (λ p q. omega (arith, B.inside)) (λ p q. omega (arith, B.inside)))

      role-is : (pool : List ℕ) → r ≡ role (token_at (decode end ws₀ pool) opener) (token_at (decode end ws₀ pool) i) (drop (i + 1) (decode end ws₀ pool))
      role-is pool =
          is-role pool (token_at (decode end ws₀ pool) opener) (sym (R.quote_is ∙ kind-at end ws₀ pool opener))
          ∙ ap₂ (λ (t : Token) (ts : List Token). role (token_at (decode end ws₀ pool) opener) t ts) (here pool) (rest-same pool)

      turn-plain : r ≡ part → Reading n from end ws₀ ws (i + 1) rows start true false quote opener
      turn-plain e = is-part (λ pool cur found. rw y (arg-part (token_at (decode end ws₀ pool) opener) cur found (token_at (decode end ws₀ pool) i) (drop (i + 1) (decode end ws₀ pool)) (sym e ∙ role-is pool)))

      -- what is left, with token i in front
      left_here : (pool : List ℕ) → list_value (drop from (decode end ws₀ pool))
          ≡ arguments (token_at (decode end ws₀ pool) opener) false (parts_between (decode end ws pool) start i) (arguments_from (decode end ws pool) (starts_of n ws) (ends_of n ws) from rows)
          (token_at (decode end ws₀ pool) i ∷ drop (i + 1) (decode end ws₀ pool))
      left_here pool =
          R.left pool
          ∙ ap₂ (λ (b : Bool) (l : List Token). arguments (token_at (decode end ws₀ pool) opener) b (parts_between (decode end ws pool) start i) (arguments_from (decode end ws pool) (starts_of n ws) (ends_of n ws) from rows) l) y (token-cons end ws₀ pool i h)

      pub turn-splits : r ≡ splits → (ws' : List ℕ) (m : ℕ) → Flushed n from end i rows start ws ws' m → Reading n from end ws₀ ws' (i + 1) m (i + 1) false false quote opener
      unfolding has_parts
      turn-splits e ws' m F =
          record {
            none_dropped = R.none_dropped;
            keeps = keeps_then wider (keeps-wider n from i from (i + 1) (omega arith) (omega arith) F.keeps);
            quote_is = R.quote_is;
            is_any = λ pool. sym (ap has_parts (parts_none (decode end ws' pool) (i + 1)));
            within = λ k p q. let w = F.within k p q in record { low = w.low; order = w.order; high = omega (arith, w.high) };
            left = λ pool.
                left_here pool
                ∙ arg-splits (token_at (decode end ws₀ pool) opener) (parts_between (decode end ws pool) start i) (arguments_from (decode end ws pool) (starts_of n ws) (ends_of n ws) from rows) (token_at (decode end ws₀ pool) i) (drop (i + 1) (decode end ws₀ pool)) (sym e ∙ role-is pool)
                ∙ ap₂ (λ (x : List Part) (f : List (List Part)). arguments (token_at (decode end ws₀ pool) opener) false x f (drop (i + 1) (decode end ws₀ pool))) (sym (parts_none (decode end ws' pool) (i + 1))) (sym (F.args pool));
          }

      -- token i is dropped
      dropped-parts : (pool : List ℕ) → parts_between (decode end (set ws (4 * i) 0) pool) start (i + 1) ≡ parts_between (decode end ws pool) start i
      dropped-parts pool =
          let w : List ℕ = set ws (4 * i) 0 in
          let k : kind_at end w i ≡ 0 = kind-by end w i ∙ sym (entry_in end w i 0 h) ∙ ap (λ (x : ℕ). get_or w x 0) (add-zero (4 * i)) ∙ get_or-set_same ws (4 * i) 0 0 (omega (arith, B.room, B.inside)) in
          parts-dropped (decode end w pool) start i B.start_before (omega (arith, length-decode end w pool)) (is-kind end w pool i dropped_kind k)
          ∙ parts_same end ws w pool start i (omega arith) (λ x l. get_or-set_other ws (4 * i) x 0 0 (λ e. omega arith))

      dropped-rows : (pool : List ℕ) → arguments_from (decode end (set ws (4 * i) 0) pool) (starts_of n (set ws (4 * i) 0)) (ends_of n (set ws (4 * i) 0)) from rows ≡ arguments_from (decode end ws pool) (starts_of n ws) (ends_of n ws) from rows
      dropped-rows pool =
          rows-arguments n end from i rows ws (set ws (4 * i) 0) (omega arith) (λ x l. get_or-set_other ws (4 * i) x 0 0 (λ e. omega arith))
          (λ k p q. get_or-set_other ws (4 * i) (5 * n + k) 0 0 (λ e. omega (arith, B.inside))) (λ k p q. get_or-set_other ws (4 * i) (6 * n + k) 0 0 (λ e. omega (arith, B.inside)))
          (λ k p q. (R.within k p q).high) pool

      is-dropped : (escaped' : Bool) (quote' opener' : ℕ) → quote' ≡ kind_at end ws₀ opener'
          → ((pool : List ℕ) (cur : List Part) (found : List (List Part))
          → arguments (token_at (decode end ws₀ pool) opener) false cur found (token_at (decode end ws₀ pool) i ∷ drop (i + 1) (decode end ws₀ pool))
          ≡ arguments (token_at (decode end ws₀ pool) opener') escaped' cur found (drop (i + 1) (decode end ws₀ pool)))
          → Reading n from end ws₀ (set ws (4 * i) 0) (i + 1) rows start any escaped' quote' opener'
      is-dropped escaped' quote' opener' k f =
          record {
            none_dropped = R.none_dropped;
            keeps = keeps_then wider (keeps-token n from (i + 1) i ws (4 * i) 0 from-before (omega arith) (omega arith) (omega arith));
            quote_is = k;
            is_any = λ pool. R.is_any pool ∙ ap has_parts (sym (dropped-parts pool));
            within = rows-within n end from i rows ws (set ws (4 * i) 0) (omega arith) (λ x l. get_or-set_other ws (4 * i) x 0 0 (λ e. omega arith))
                (λ k p q. get_or-set_other ws (4 * i) (5 * n + k) 0 0 (λ e. omega (arith, B.inside))) (λ k p q. get_or-set_other ws (4 * i) (6 * n + k) 0 0 (λ e. omega (arith, B.inside)))
                (i + 1) (omega arith) R.within;
            left = λ pool.
                left_here pool ∙ f pool (parts_between (decode end ws pool) start i) (arguments_from (decode end ws pool) (starts_of n ws) (ends_of n ws) from rows)
                ∙ ap₂ (λ (x : List Part) (g : List (List Part)). arguments (token_at (decode end ws₀ pool) opener') escaped' x g (drop (i + 1) (decode end ws₀ pool))) (sym (dropped-parts pool)) (sym (dropped-rows pool));
          }

      pub turn-opens : r ≡ opens → (kind : ℕ) → kind ≡ kind_at end ws i → Reading n from end ws₀ (set ws (4 * i) 0) (i + 1) rows start any false kind i
      turn-opens e kind k =
          is-dropped false kind i (k ∙ kind-here)
          (λ pool cur found. arg-opens (token_at (decode end ws₀ pool) opener) cur found (token_at (decode end ws₀ pool) i) (drop (i + 1) (decode end ws₀ pool)) (sym e ∙ role-is pool))

      pub turn-closes : r ≡ closes → Reading n from end ws₀ (set ws (4 * i) 0) (i + 1) rows start any false 0 end
      turn-closes e =
          is-dropped false 0 end (sym (kind-past end ws₀ end (omega arith)))
          (λ pool cur found.
          arg-closes (token_at (decode end ws₀ pool) opener) cur found (token_at (decode end ws₀ pool) i) (drop (i + 1) (decode end ws₀ pool)) (sym e ∙ role-is pool)
          ∙ ap (λ (t : Token). arguments t false cur found (drop (i + 1) (decode end ws₀ pool))) (sym (token-past end ws₀ pool)))

      pub turn-escapes : r ≡ escapes → Reading n from end ws₀ (set ws (4 * i) 0) (i + 1) rows start any true quote opener
      turn-escapes e =
          is-dropped true quote opener R.quote_is
          (λ pool cur found. arg-escapes (token_at (decode end ws₀ pool) opener) cur found (token_at (decode end ws₀ pool) i) (drop (i + 1) (decode end ws₀ pool)) (sym e ∙ role-is pool))

-- a part, escaped or not
module _ (n from end i rows start : ℕ) (ws : List ℕ) (B : Bounds n from end i rows start ws) (h : i < end)
    {ws₀ : List ℕ} {any escaped : Bool} {quote opener : ℕ} (R : Reading n from end ws₀ ws i rows start any escaped quote opener) where
  pub turn-part : (escaped ≡ false → (pool : List ℕ) (q : Token) → q.kind ≡ quote → part ≡ role q (token_at (decode end ws pool) i) (drop (i + 1) (decode end ws pool))) → Reading n from end ws₀ ws (i + 1) rows start true false quote opener
  turn-part f = go escaped refl
    where
      go : (b : Bool) → escaped ≡ b → Reading n from end ws₀ ws (i + 1) rows start true false quote opener
      go true y = turn-escaped n from end i rows start ws B h R y
      go false y = turn-plain n from end i rows start ws B h R y part (f y) refl

-- what is no part was not escaped
abbrev pub is_a_part : Role → Bool
is_a_part part = true
is_a_part splits = false
is_a_part opens = false
is_a_part closes = false
is_a_part escapes = false

pub spared : (escaped : Bool) (r : Role) → (escaped ≡ true → r ≡ part) → is_a_part r ≡ false → escaped ≡ false
spared false r f n = refl
spared true r f n = let e = f refl in let z : true ≡ false = sym (ap is_a_part e) ∙ n in cc

-- the first and the last
pub turns-begin : (n from end : ℕ) (ws : List ℕ) → NoneDropped from end ws → Reading n from end ws ws from 0 from false false 0 end
unfolding has_parts arguments_from list_value
turns-begin n from end ws d =
    record {
      none_dropped = d;
      keeps = keeps-none n from from ws;
      quote_is = sym (kind-past end ws end (omega arith));
      is_any = λ pool. sym (ap has_parts (parts_none (decode end ws pool) from));
      within = λ k p q. absurd (omega arith);
      left = λ pool. ap₂ (λ (t : Token) (x : List Part). arguments t false x [] (drop from (decode end ws pool))) (sym (token-past end ws pool)) (sym (parts_none (decode end ws pool) from));
    }

module _ (n from end rows start : ℕ) (any escaped : Bool) (quote opener : ℕ) (ws₀ ws : List ℕ) (R : Reading n from end ws₀ ws end rows start any escaped quote opener)
    (b : Bool) (s : b ≡ is_quote_kind quote) where
  quote-is : (pool : List ℕ) → is_quote (token_at (decode end ws₀ pool) opener) ≡ b
  quote-is pool = quote-kind (token_at (decode end ws₀ pool) opener) quote (sym (R.quote_is ∙ kind-at end ws₀ pool opener)) ∙ sym s

  pub lists-open : b ≡ true → Lists n from end ws₀ ws (Err opener)
  lists-open y pool =
      R.left pool ∙ ap (arguments (token_at (decode end ws₀ pool) opener) escaped (parts_between (decode end ws pool) start end) (arguments_from (decode end ws pool) (starts_of n ws) (ends_of n ws) from rows)) (token_end end ws₀ pool end (omega arith))
      ∙ arg-open (token_at (decode end ws₀ pool) opener) (parts_between (decode end ws pool) start end) (arguments_from (decode end ws pool) (starts_of n ws) (ends_of n ws) from rows) escaped (quote-is pool ∙ y)

  pub lists-all : b ≡ false → (ws' : List ℕ) (m : ℕ) → Flushed n from end end rows start ws ws' m → Lists n from end ws₀ ws' (Ok m)
  lists-all y ws' m F = (
    F.bound,
    F.within,
    λ pool.
        R.left pool ∙ ap (arguments (token_at (decode end ws₀ pool) opener) escaped (parts_between (decode end ws pool) start end) (arguments_from (decode end ws pool) (starts_of n ws) (ends_of n ws) from rows)) (token_end end ws₀ pool end (omega arith))
        ∙ arg-end (token_at (decode end ws₀ pool) opener) (parts_between (decode end ws pool) start end) (arguments_from (decode end ws pool) (starts_of n ws) (ends_of n ws) from rows) escaped (quote-is pool ∙ y)
        ∙ ap ok (sym (F.args pool)),
  )

-- the numbers after an argument's end
pub split-bound : (from i rows start : ℕ) (any : Bool) (r : ℕ) → Row from i rows any → from + rows ≤ start → start ≤ i → r ≡ pick any (rows + 1) rows → from + r ≤ i
unfolding pick
split-bound from i rows start any r w a b e = go any refl
  where
    go : (x : Bool) → any ≡ x → from + r ≤ i
    go true y = let z : r ≡ rows + 1 = e ∙ rw y in omega (arith, w y)
    go false y = let z : r ≡ rows = e ∙ rw y in omega arith

pub row-none : (from i rows : ℕ) → Row from i rows false
row-none from i rows y = let z : ◌≡◌ {A = ℕ} 0 1 = cc in absurd (omega arith)

-- the same by where the argument starts, if it has a part
no-parts : (ps : List Part) → has_parts ps ≡ false → ps ≡ []
unfolding has_parts
no-parts [] e = refl
no-parts (p ∷ ps) e = cc

-- a token that is dropped moves the start of an argument that has no part yet
pub start-later : (n from end i rows : ℕ) (start : Option ℕ) {escaped : Bool} {quote opener : ℕ} {ws₀ ws : List ℕ}
    → Reading n from end ws₀ ws (i + 1) rows (start_of start i) (is_some start) escaped quote opener
    → Reading n from end ws₀ ws (i + 1) rows (start_of start (i + 1)) (is_some start) escaped quote opener
unfolding has_parts
start-later n from end i rows (Some first) R = R
start-later n from end i rows None {escaped} {quote} {opener} {ws₀} {ws} R =
    record {
      none_dropped = R.none_dropped;
      keeps = R.keeps;
      quote_is = R.quote_is;
      is_any = λ pool. sym (ap has_parts (parts_none (decode end ws pool) (i + 1)));
      within = R.within;
      left = λ pool.
          R.left pool
          ∙ ap (λ (x : List Part). arguments (token_at (decode end ws₀ pool) opener) escaped x (arguments_from (decode end ws pool) (starts_of n ws) (ends_of n ws) from rows) (drop (i + 1) (decode end ws₀ pool)))
          (no-parts (parts_between (decode end ws pool) i (i + 1)) (sym (R.is_any pool)) ∙ sym (parts_none (decode end ws pool) (i + 1)));
    }

pub bounds-later : (n from end i rows : ℕ) (start : Option ℕ) (ws ws' : List ℕ) → Bounds n from end i rows (start_of start i) ws → i < end → length ws' ≡ length ws
    → Bounds n from end (i + 1) rows (start_of start (i + 1)) ws'
bounds-later n from end i rows (Some first) ws ws' B h l = bounds-more n from end i rows first ws B h ws' l
bounds-later n from end i rows None ws ws' B h l =
    record { small = B.small; room = omega (arith, B.room); inside = B.inside; on = omega arith; rows_before = omega (arith, B.rows_before); start_before = omega arith }

-- a token that is not dropped was not escaped
pub unescaped : {n from end i rows start quote opener : ℕ} {any escaped : Bool} {ws₀ ws : List ℕ} → escaped ≡ false
    → Reading n from end ws₀ ws i rows start any false quote opener → Reading n from end ws₀ ws i rows start any escaped quote opener
unescaped y R = rw y R
