-- Laws of a line's start and end. Assumes nothing.
use Prim.Native.Nat.{ℕ, zero, suc, ◌+◌, ◌-◌, ◌≤◌, ◌<◌}
use mathlib.Core.Path.{◌≡◌, refl, sym, ◌∙◌, ap, subst}
use mathlib.Core.Bool.{Bool, true, false}
use mathlib.Core.List.{List, [], ◌∷◌, ◌++◌, append-nil}
use native.Mathlib.Numerals.{add-one}
use native.Mathlib.Nat.{add-zero}
use native.Mathlib.Omega.{arith}
use native.Mathlib.Decide.{dec_lt}
use lib.Dec.{eqb}
use lib.ListN.{length, take, drop, length-drop, drop_of_length-le, take-append-drop, get_or-eq_default}
use lib.Seq.{drop-append-le, drop-cons, length-take-le, take-suc, get_or-drop, get_or-take}
use borrow.Author.Tests.{eqb-true, lt-ltb, le-ltb, eq-eqb, ne_eqb}
use Rattle.std.specs.Prelude.{Option, Some, None, MatchOption, unwrap_or}
use Rattle.rules.specs.Bytes.{pick}
use Rattle.rules.specs.Tokens.{Token, no_name, is_a, text_kind, blank_kind, equals_kind, colon_kind, new_line_kind}
use Rattle.rules.specs.Numbers.{Result, unexpected_at_start, unexpected_after_key, refused}
use Rattle.rules.specs.Lines.{Ending, newline, end_of_text, Item, lines, skip_blanks, drop_last_blank, trimmed, read_line, read_assignment, read_field, nothing_after_key, after_key, after_blanks}
use Rattle.rules.proofs.LinesLaws.{Within, lines-newline, lines_end}
use Rattle.rules.proofs.BytesLaws.{false-true}
use Rattle.tokens.specs.Entries.{token_at}
use Rattle.workspace.specs.Map.{between}
use Rattle.lines.specs.declared.line.LineStart.{LineStart}
use Rattle.lines.specs.declared.line.LineStart.TheVariants.{Empty, WrongStart, WrongAfter, Ended, Assigns, Gives}
use Rattle.lines.specs.Line.{SameKinds, Skips, EndsLine, Stands, ending_at, line_at, Starts, EndsValue}
use Rattle.lines.proofs.Tokens.{between-drop}

-- a token in front of those after it, and its kind
module _ (ts : List Token) (i : ℕ) where
  pub in_front : i < length ts → drop i ts ≡ token_at ts i ∷ drop (i + 1) ts
  in_front h = rw (add-one, drop-cons ts i no_name h)

  pub none-left : length ts ≤ i → drop i ts ≡ []
  none-left h = drop_of_length-le ts h

  module _ (kind : ℕ) where
    pub a_kind : (token_at ts i).kind ≡ kind → is_a kind (token_at ts i) ≡ true
    unfolding is_a
    a_kind e = eq-eqb (token_at ts i).kind kind e

    pub other-kind : ((token_at ts i).kind ≡ kind → ⊥) → is_a kind (token_at ts i) ≡ false
    unfolding is_a
    other-kind e = ne_eqb (token_at ts i).kind kind e

-- blanks
skip-more : (ts : List Token) (i : ℕ) → i < length ts → (token_at ts i).kind ≡ blank_kind → skip_blanks (drop i ts) ≡ skip_blanks (drop (i + 1) ts)
unfolding skip_blanks
skip-more ts i h e = rw (in_front ts i h, skip_blanks) (rw (a_kind ts i blank_kind e) refl)

skip-all : (ts : List Token) (j n : ℕ) → j + n ≤ length ts → ((k : ℕ) → j ≤ k → k < j + n → (token_at ts k).kind ≡ blank_kind) → skip_blanks (drop j ts) ≡ skip_blanks (drop (j + n) ts)
skip-all ts j zero h all = rw add-zero refl
skip-all ts j (suc n) h all =
    let e : j + 1 + n ≡ j + suc n = omega arith in
    skip-more ts j (omega arith) (all j (omega arith) (omega arith)) ∙ skip-all ts (j + 1) n (omega arith) (λ k p q. all k (omega arith) (omega arith)) ∙ ap (λ (k : ℕ). skip_blanks (drop k ts)) e

-- blanks from j up to r, and none at r
skips-by : (ts : List Token) (j r : ℕ) → j ≤ r → r ≤ length ts → ((k : ℕ) → j ≤ k → k < r → (token_at ts k).kind ≡ blank_kind)
    → (r < length ts → (token_at ts r).kind ≡ blank_kind → ⊥) → Skips ts j r
unfolding skip_blanks
skips-by ts j r on inside all other =
    let q : j + (r - j) ≡ r = omega arith in
    record {
      on = on;
      inside = inside;
      is = skip-all ts j (r - j) (omega arith) (λ k p z. all k p (omega arith)) ∙ ap (λ (k : ℕ). skip_blanks (drop k ts)) q ∙ go (dec_lt r (length ts));
      blank = all;
      other = other;
    }
  where
    go : Dec (r < length ts) → skip_blanks (drop r ts) ≡ drop r ts
    go (yes h) = rw (in_front ts r h, skip_blanks) (rw (other-kind ts r blank_kind (other h)) refl)
    go (no h) = rw (none-left ts r (omega arith), skip_blanks) refl

-- from each token on, blanks end somewhere
blanks-end : (ts : List Token) (n j : ℕ) → j + n ≡ length ts → (r : ℕ) × Skips ts j r
blanks-end ts zero j e = (j, skips-by ts j j (omega arith) (omega arith) (λ k p q. absurd (omega arith)) (λ h. absurd (omega arith)))
blanks-end ts (suc n) j e = go (eqb (token_at ts j).kind blank_kind) refl (blanks-end ts n (j + 1) (omega arith))
  where
    go : (b : Bool) → eqb (token_at ts j).kind blank_kind ≡ b → (r : ℕ) × Skips ts (j + 1) r → (r : ℕ) × Skips ts j r
    go true z s = (
      s.0,
      skips-by ts j s.0 (omega (arith, s.1.on)) s.1.inside
          (λ k p q. elim (dec_lt j k) [
            | yes l ↦ s.1.blank k (omega arith) q
            | no l ↦ let d : k ≡ j = omega arith in rw d (eqb-true (token_at ts j).kind blank_kind z)
          ])
          s.1.other,
    )
    go false z s = (j, skips-by ts j j (omega arith) (omega arith) (λ k p q. absurd (omega arith)) (λ h q. false-true z (eq-eqb (token_at ts j).kind blank_kind q)))

-- so that the rule's words are enough for a caller: from r on stands what skipping leaves
pub skips-of : (ts : List Token) (j r : ℕ) → j ≤ r → r ≤ length ts → skip_blanks (drop j ts) ≡ drop r ts → Skips ts j r
skips-of ts j r on inside is =
    let x = blanks-end ts (length ts - j) j (omega arith) in
    let l : length (drop r ts) ≡ length (drop x.0 ts) = ap length (sym is ∙ x.1.is) in
    subst (Skips ts j) (omega (arith, l, length-drop r ts, length-drop x.0 ts, inside, x.1.inside)) x.1

-- what was found: the first token from j on that is no blank, or none
pub skipped : (ts : List Token) (j len : ℕ) (found : Option ℕ) → len ≡ length ts → j ≤ len
    → MatchOption found ((k : ℕ) → j ≤ k → k < len → (token_at ts k).kind ≡ blank_kind)
    (λ i. (j ≤ i) × (i < len) × ((token_at ts i).kind ≡ blank_kind → ⊥) × ((k : ℕ) → j ≤ k → k < i → (token_at ts k).kind ≡ blank_kind)) → Skips ts j (unwrap_or found len)
skipped ts j len None e h all = skips-by ts j len h (omega arith) all (λ z. absurd (omega arith))
skipped ts j len (Some i) e h (on, inside, other, all) = skips-by ts j i on (omega arith) all (λ z. other)

-- what was found: the first newline from j on, or none
pub ended : (ts : List Token) (j len : ℕ) (found : Option ℕ) → len ≡ length ts → j ≤ len
    → MatchOption found ((k : ℕ) → j ≤ k → k < len → (token_at ts k).kind ≡ new_line_kind → ⊥)
    (λ i. (j ≤ i) × (i < len) × ((token_at ts i).kind ≡ new_line_kind) × ((k : ℕ) → j ≤ k → k < i → (token_at ts k).kind ≡ new_line_kind → ⊥)) → EndsLine ts j (unwrap_or found len)
ended ts j len None e h none = record { on = h; inside = omega arith; no_newline = none; at_newline = λ q. absurd (omega arith) }
ended ts j len (Some i) e h (on, inside, here, none) = record { on = on; inside = omega arith; no_newline = none; at_newline = λ _. here }

within-take : (us : List Token) (m : ℕ) → ((k : ℕ) → k < m → is_a new_line_kind (token_at us k) ≡ false) → Within (take m us)
within-take [] zero g = tt
within-take [] (suc m) g = tt
within-take (u ∷ us) zero g = tt
within-take (u ∷ us) (suc m) g = (g 0 (omega arith), within-take us m (λ k q. g (suc k) (omega arith)))

-- THE LAW of a line's end: the lines from token j on are this one, and those after its newline
module _ (ts : List Token) (j end : ℕ) (E : EndsLine ts j end) where
  within : Within (drop j (take end ts))
  within =
      rw (sym (between-drop ts j end))
      (within-take (drop j ts) (end - j)
      (λ k q. rw (get_or-drop j ts k no_name) (other-kind ts (j + k) new_line_kind (E.no_newline (j + k) (omega arith) (omega arith)))))

  -- what is left of the line, and what is past it
  line-rest : drop j ts ≡ drop j (take end ts) ++ drop end ts
  line-rest =
      let l : length (take end ts) ≡ end = length-take-le end ts E.inside in
      ap (drop j) (sym (take-append-drop end ts)) ∙ drop-append-le j (take end ts) (drop end ts) (omega (arith, E.on))

  pub line-newline : end < length ts → lines (drop j ts) ≡ line_at ts end j ∷ lines (drop (end + 1) ts)
  unfolding pick
  line-newline h =
      ap lines (line-rest ∙ ap (λ (l : List Token). drop j (take end ts) ++ l) (in_front ts end h))
      ∙ lines-newline (drop j (take end ts)) (drop (end + 1) ts) (token_at ts end) within (a_kind ts end new_line_kind (E.at_newline h))
      ∙ rw (lt-ltb end (length ts) h)

  pub line-last : length ts ≤ end → lines (drop j ts) ≡ line_at ts end j ∷ []
  unfolding pick
  line-last h =
      ap lines (line-rest ∙ ap (λ (l : List Token). drop j (take end ts) ++ l) (none-left ts end h))
      ∙ lines_end (drop j (take end ts) ++ []) (rw append-nil within)
      ∙ rw (append-nil, le-ltb end (length ts) h)

-- the start of a line, whose tokens up to its end are `line`
starts-from : (ts : List Token) (end j key : ℕ) (item item' : Result Item) (r : LineStart) → j ≤ key → item ≡ item' → Starts ts end key item' r → Starts ts end j item r
starts-from ts end j key item item' Empty h e S = e ∙ S
starts-from ts end j key item item' (WrongStart k) h e (l, S) = (l, e ∙ S)
starts-from ts end j key item item' (WrongAfter k) h e (l, S) = (l, e ∙ S)
starts-from ts end j key item item' Ended h e S = e ∙ S
starts-from ts end j key item item' (Assigns k from) h e (T, S) = (record { key_on = omega (arith, T.key_on); value_on = T.value_on; inside = T.inside; is_text = T.is_text }, e ∙ S)
starts-from ts end j key item item' (Gives k from) h e (T, S) = (record { key_on = omega (arith, T.key_on); value_on = T.value_on; inside = T.inside; is_text = T.is_text }, e ∙ S)

module _ (ts line : List Token) (end : ℕ) (l : line ≡ take end ts) (inside : end ≤ length ts) where
  pub length-line : length line ≡ end
  length-line = ap length l ∙ length-take-le end ts inside

  token-line : (i : ℕ) → i < end → token_at line i ≡ token_at ts i
  token-line i h = ap (λ (x : List Token). token_at x i) l ∙ get_or-take end ts i no_name h

  -- the same line of tokens of the same kinds
  module _ (us : List Token) (A : SameKinds us ts) where
    pub inside-alike : end ≤ length us
    inside-alike = omega (arith, inside, A.same_length)

    pub line-alike : SameKinds (take end us) line
    line-alike = record { same_length = length-take-le end us inside-alike ∙ sym length-line; same_kind = λ k. go k (dec_lt k end) }
      where
        go : (k : ℕ) → Dec (k < end) → (token_at (take end us) k).kind ≡ (token_at line k).kind
        go k (yes h) = ap (λ (u : Token). u.kind) (get_or-take end us k no_name h) ∙ A.same_kind k ∙ sym (ap (λ (u : Token). u.kind) (token-line k h))
        go k (no h) =
            ap (λ (u : Token). u.kind) (get_or-eq_default (take end us) no_name {n = k} (omega (arith, length-take-le end us inside-alike)))
            ∙ sym (ap (λ (u : Token). u.kind) (get_or-eq_default line no_name {n = k} (omega (arith, length-line))))

    pub skips-alike : (j r : ℕ) → Skips line j r → Skips (take end us) j r
    skips-alike j r S =
        skips-by (take end us) j r S.on (omega (arith, S.inside, line-alike.same_length)) (λ k p z. line-alike.same_kind k ∙ S.blank k p z)
        (λ h z. S.other (omega (arith, h, line-alike.same_length)) (sym (line-alike.same_kind r) ∙ z))

    pub kind-alike : (k kind : ℕ) → (token_at line k).kind ≡ kind → (token_at (take end us) k).kind ≡ kind
    kind-alike k kind e = line-alike.same_kind k ∙ e

    pub other-alike : (k kind : ℕ) → ((token_at line k).kind ≡ kind → ⊥) → (token_at (take end us) k).kind ≡ kind → ⊥
    other-alike k kind n e = n (sym (line-alike.same_kind k) ∙ e)

  -- blanks before the key
  module _ (j key : ℕ) (S : Skips line j key) where
    blanks-then : read_line (line_at ts end j) ≡ after_blanks (ending_at ts end) (drop key line)
    unfolding read_line
    blanks-then = ap (λ (x : List Token). after_blanks (ending_at ts end) (skip_blanks (drop j x))) (sym l) ∙ ap (after_blanks (ending_at ts end)) S.is

    pub starts-empty : end ≤ key → Starts ts end j (read_line (line_at ts end j)) Empty
    unfolding after_blanks
    starts-empty h = blanks-then ∙ rw (none-left line key (omega (arith, length-line))) refl

    module _ (h : key < end) where
      pub starts-wrong : ((token_at line key).kind ≡ text_kind → ⊥) → read_line (line_at ts end j) ≡ refused (unexpected_at_start (token_at ts key))
      unfolding after_blanks
      starts-wrong t =
          blanks-then
          ∙ rw (in_front line key (omega (arith, length-line)), after_blanks) (rw (other-kind line key text_kind t) refl)
          ∙ ap (λ (u : Token). refused (unexpected_at_start u)) (token-line key h)

      pub is_key : (token_at line key).kind ≡ text_kind → (token_at ts key).kind ≡ text_kind
      is_key t = ap (λ (u : Token). u.kind) (sym (token-line key h)) ∙ t

      pub starts_key : (token_at line key).kind ≡ text_kind → (r : LineStart)
          → Starts ts end key (after_key (token_at ts key) (ending_at ts end) (skip_blanks (drop (key + 1) (take end ts)))) r → Starts ts end j (read_line (line_at ts end j)) r
      unfolding after_blanks
      starts_key t r =
          starts-from ts end j key (read_line (line_at ts end j)) (after_key (token_at ts key) (ending_at ts end) (skip_blanks (drop (key + 1) (take end ts)))) r S.on
          (blanks-then
          ∙ rw (in_front line key (omega (arith, length-line)), after_blanks) (rw (a_kind line key text_kind t) refl)
          ∙ ap (λ (u : Token). after_key u (ending_at ts end) (skip_blanks (drop (key + 1) line))) (token-line key h)
          ∙ ap (λ (x : List Token). after_key (token_at ts key) (ending_at ts end) (skip_blanks (drop (key + 1) x))) l)

  -- what stands after the key, and after its blanks
  module _ (key : ℕ) (q : key < end) (t : (token_at ts key).kind ≡ text_kind) (mark : ℕ) (S : Skips line (key + 1) mark) where
    abbrev item : Result Item
    item = after_key (token_at ts key) (ending_at ts end) (skip_blanks (drop (key + 1) (take end ts)))

    key-then : item ≡ after_key (token_at ts key) (ending_at ts end) (drop mark line)
    key-then =
        ap (λ (x : List Token). after_key (token_at ts key) (ending_at ts end) (skip_blanks (drop (key + 1) x))) (sym l)
        ∙ ap (after_key (token_at ts key) (ending_at ts end)) S.is

    pub after-newline : end ≤ mark → end < length ts → Starts ts end key item (WrongAfter end)
    unfolding after_key nothing_after_key pick
    after-newline h m = (m, key-then ∙ rw (none-left line mark (omega (arith, length-line)), lt-ltb end (length ts) m) refl)

    pub after-end : end ≤ mark → length ts ≤ end → Starts ts end key item Ended
    unfolding after_key nothing_after_key pick
    after-end h m = key-then ∙ rw (none-left line mark (omega (arith, length-line)), le-ltb end (length ts) m) refl

    module _ (h : mark < end) where
      front : drop mark line ≡ token_at line mark ∷ drop (mark + 1) line
      front = in_front line mark (omega (arith, length-line))

      pub after-wrong : ((token_at line mark).kind ≡ colon_kind → ⊥) → ((token_at line mark).kind ≡ equals_kind → ⊥) → item ≡ refused (unexpected_after_key (token_at ts mark))
      unfolding after_key
      after-wrong a b =
          key-then
          ∙ rw (front, after_key) (rw (other-kind line mark colon_kind a) (rw (other-kind line mark equals_kind b) refl))
          ∙ ap (λ (u : Token). refused (unexpected_after_key u)) (token-line mark h)

      module _ (from : ℕ) (F : Skips line (mark + 1) from) where
        pub stands : Stands ts end key key from
        stands = record { key_on = omega arith; value_on = omega (arith, S.on, F.on); inside = omega (arith, F.inside, length-line); is_text = t }

        pub after-colon : (token_at line mark).kind ≡ colon_kind → item ≡ read_field (token_at ts key) (ending_at ts end) (drop from (take end ts))
        unfolding after_key
        after-colon a =
            key-then
            ∙ rw (front, after_key) (rw (a_kind line mark colon_kind a) refl)
            ∙ ap (read_field (token_at ts key) (ending_at ts end)) (F.is ∙ ap (drop from) l)

        pub after-equals : (token_at line mark).kind ≡ equals_kind → item ≡ read_assignment (token_at ts key) (ending_at ts end) (drop from (take end ts))
        unfolding after_key
        after-equals a =
            key-then
            ∙ rw (front, after_key) (rw (other-kind line mark colon_kind (λ z. omega arith)) (rw (a_kind line mark equals_kind a) refl))
            ∙ ap (read_assignment (token_at ts key) (ending_at ts end)) (F.is ∙ ap (drop from) l)

-- what stands after the key, told of all tokens of the same kinds
module _ (ts line : List Token) (end : ℕ) (l : line ≡ take end ts) (inside : end ≤ length ts) (key : ℕ) (q : key < end) (t : (token_at ts key).kind ≡ text_kind)
    (mark : ℕ) (S : Skips line (key + 1) mark) (us : List Token) (A : SameKinds us ts) where
  -- the line of those tokens, where it ends, its key, and the blanks after that
  ends : end ≤ length us
  ends = inside-alike ts line end l inside us A

  keyed : (token_at us key).kind ≡ text_kind
  keyed = A.same_kind key ∙ t

  blanks : Skips (take end us) (key + 1) mark
  blanks = skips-alike ts line end l inside us A (key + 1) mark S

  abbrev started : LineStart → Type 0
  started r = Starts us end key (after_key (token_at us key) (ending_at us end) (skip_blanks (drop (key + 1) (take end us)))) r

  pub newline-alike : end ≤ mark → end < length ts → started (WrongAfter end)
  newline-alike h m = after-newline us (take end us) end refl ends key q keyed mark blanks h (omega (arith, m, A.same_length))

  pub end-alike : end ≤ mark → length ts ≤ end → started Ended
  end-alike h m = after-end us (take end us) end refl ends key q keyed mark blanks h (omega (arith, m, A.same_length))

  module _ (h : mark < end) where
    pub wrong-alike : ((token_at line mark).kind ≡ colon_kind → ⊥) → ((token_at line mark).kind ≡ equals_kind → ⊥) → started (WrongAfter mark)
    wrong-alike a b =
        (omega (arith, h, ends), after-wrong us (take end us) end refl ends key q keyed mark blanks h (other-alike ts line end l inside us A mark colon_kind a) (other-alike ts line end l inside us A mark equals_kind b))

    module _ (from : ℕ) (F : Skips line (mark + 1) from) where
      value_blanks : Skips (take end us) (mark + 1) from
      value_blanks = skips-alike ts line end l inside us A (mark + 1) from F

      pub colon-alike : (token_at line mark).kind ≡ colon_kind → started (Gives key from)
      colon-alike e =
          (stands us (take end us) end refl ends key q keyed mark blanks h from value_blanks, after-colon us (take end us) end refl ends key q keyed mark blanks h from value_blanks (kind-alike ts line end l inside us A mark colon_kind e))

      pub equals-alike : (token_at line mark).kind ≡ equals_kind → started (Assigns key from)
      equals-alike e =
          (stands us (take end us) end refl ends key q keyed mark blanks h from value_blanks, after-equals us (take end us) end refl ends key q keyed mark blanks h from value_blanks (kind-alike ts line end l inside us A mark equals_kind e))

-- the end of a string value
drop-last : (ts : List Token) (t : Token) → drop_last_blank (ts ++ t ∷ []) ≡ pick (is_a blank_kind t) ts (ts ++ t ∷ [])
unfolding drop_last_blank pick
drop-last [] t = refl
drop-last (u ∷ []) t = go (is_a blank_kind t)
  where
    go : (b : Bool) → u ∷ pick b [] (t ∷ []) ≡ pick b (u ∷ []) (u ∷ t ∷ [])
    go true = refl
    go false = refl
drop-last (u ∷ w ∷ ts) t = ap (λ (l : List Token). u ∷ l) (drop-last (w ∷ ts) t) ∙ go (is_a blank_kind t)
  where
    go : (b : Bool) → u ∷ pick b (w ∷ ts) (w ∷ ts ++ t ∷ []) ≡ pick b (u ∷ w ∷ ts) (u ∷ w ∷ ts ++ t ∷ [])
    go true = refl
    go false = refl

module _ (ts : List Token) (end from : ℕ) (inside : end ≤ length ts) (on : from ≤ end) where
  whole : drop from (take end ts) ≡ between ts from end
  whole = sym (between-drop ts from end)

  pub value-at-end : length ts ≤ end → EndsValue ts end from end
  unfolding trimmed pick
  value-at-end h = record { on = on; inside = omega arith; is = rw (le-ltb end (length ts) h) whole }

  pub value-none : end ≤ from → EndsValue ts end from end
  unfolding trimmed drop_last_blank
  value-none h = record { on = on; inside = omega arith; is = rw nothing (go (ending_at ts end) ∙ sym nothing ∙ whole) }
    where
      nothing : drop from (take end ts) ≡ []
      nothing = none-left (take end ts) from (omega (arith, length-take-le end ts inside))

      go : (e : Ending) → trimmed e [] ≡ []
      go (newline t) = refl
      go end_of_text = refl

  module _ (h : end < length ts) (l : from < end) where
    last : drop from (take end ts) ≡ between ts from (end - 1) ++ token_at ts (end - 1) ∷ []
    last =
        let s : suc (end - 1) ≡ end = omega arith in
        let d : take end ts ≡ take (end - 1) ts ++ token_at ts (end - 1) ∷ [] =
        ap (λ (k : ℕ). take k ts) (sym s) ∙ take-suc ts (end - 1) no_name (omega arith) in
        let z : length (take (end - 1) ts) ≡ end - 1 = length-take-le (end - 1) ts (omega arith) in
        ap (drop from) d ∙ drop-append-le from (take (end - 1) ts) (token_at ts (end - 1) ∷ []) (omega arith)
        ∙ ap (λ (x : List Token). x ++ token_at ts (end - 1) ∷ []) (sym (between-drop ts from (end - 1)))

    pub value-blank : (token_at ts (end - 1)).kind ≡ blank_kind → EndsValue ts end from (end - 1)
    unfolding trimmed pick
    value-blank b =
        record {
          on = omega arith;
          inside = omega arith;
          is = rw (lt-ltb end (length ts) h) (ap drop_last_blank last ∙ drop-last (between ts from (end - 1)) (token_at ts (end - 1)) ∙ rw (a_kind ts (end - 1) blank_kind b) refl);
        }

    pub value-full : ((token_at ts (end - 1)).kind ≡ blank_kind → ⊥) → EndsValue ts end from end
    unfolding trimmed pick
    value-full b =
        record {
          on = on;
          inside = omega arith;
          is = rw (lt-ltb end (length ts) h) (ap drop_last_blank last ∙ drop-last (between ts from (end - 1)) (token_at ts (end - 1)) ∙ rw (other-kind ts (end - 1) blank_kind b) (sym last) ∙ whole);
        }

-- tokens are of their own kinds
pub same_kinds : (ts : List Token) → SameKinds ts ts
same_kinds ts = record { same_length = refl; same_kind = λ k. refl }

-- what the functions of a line are proved by
pub ruleset marking = (after-newline, after-end, after-wrong, stands, after-colon, after-equals)

pub ruleset starting = (starts-empty, starts-wrong, is_key, starts_key)

pub ruleset ending = (value-at-end, value-none, value-blank, value-full)
