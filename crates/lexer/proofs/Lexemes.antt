-- Laws of one lexeme: what the functions that read it answer shows rules' lexeme, by the classes that they meet. Assumes nothing.
use Prim.Native.Nat.{ℕ, suc, ◌+◌, ◌-◌, ◌≤◌, ◌<◌}
use mathlib.Core.Path.{◌≡◌, refl, ap, sym, ◌∙◌}
use mathlib.Core.Bool.{Bool, true, false, not}
use mathlib.Core.List.{List, [], ◌∷◌}
use mathlib.Core.Logic.{◌⊎◌, inl, inr}
use native.Mathlib.Omega.{arith}
use native.Mathlib.Decide.{dec_lt}
use lib.ListN.{length, take, drop, get_or, length-drop, drop_of_length-le}
use lib.Seq.{drop-drop, length-take-le}
use lib.Dec.{eqb}
use borrow.Author.Tests.{eq-eqb, ne_eqb, lt-ltb, le-ltb}
use Rattle.rules.specs.Bytes.{pick, run}
use Rattle.rules.specs.Lexing.{Class, chars, mark, is_identifier, is_line_end, class, second, comment, after_backslash, after_name, after_brace, after_dollar, lexeme}
use Rattle.rules.specs.Numbers.{invalid_variable_char}
use Rattle.rules.specs.Utf8.{code_point}
use Rattle.rules.proofs.LexingLaws.{second-le, run-le}
use Rattle.scan.specs.Classes.{class_number, class_at, number_of}
use Rattle.scan.specs.declared.class.ByteClass.{ByteClass}
use Rattle.scan.specs.declared.class.ByteClass.TheVariants.{Other, Identifier, Blank, Equals, Colon, Single, Double, Backslash, LineEnd, Dollar, Hash, OpenBrace, CloseBrace, Past}
use Rattle.scan.proofs.Classes.{class-is, test, test-true, test-false, class-in, past_end, not-past}
use Rattle.scan.proofs.Lists.{rest_at}
use Rattle.lexer.specs.Marks.{OnRun}
use Rattle.lexer.specs.Lexes.{error_of}
use Rattle.lexer.specs.Pieces.{lexeme_at, shown, Shows, Stands, Refuses, is_plain, Reads}
use Rattle.lexer.specs.declared.LexError.{LexError}
use Rattle.lexer.specs.declared.LexError.TheVariants.{MissingCloseVariable, InvalidVariableChar}

-- how far a test holds, from place j on
module _ (f : ℕ → Bool) (text : List ℕ) (j : ℕ) where
  pub run_on : j < length text → f (get_or text j 0) ≡ true → run f (drop j text) ≡ suc (run f (drop (j + 1) text))
  unfolding run
  run_on h t = rw (rest_at text j h, t, run)

  pub run-off : j < length text → f (get_or text j 0) ≡ false → run f (drop j text) ≡ 0
  unfolding run
  run-off h t = rw (rest_at text j h, t, run)

  pub run_end : length text ≤ j → run f (drop j text) ≡ 0
  unfolding run
  run_end h = rw (drop_of_length-le text h)

-- a run from place i on that goes on at place j
module _ (f : ℕ → Bool) (text : List ℕ) (i : ℕ) where
  pub on-run : i ≤ length text → OnRun f text i i
  on-run h = record { inside = h; same_end = refl }

  module _ (j : ℕ) (o : OnRun f text i j) where
    pub on-more : j < length text → f (get_or text j 0) ≡ true → OnRun f text i (j + 1)
    on-more h t = record { inside = omega arith; same_end = omega (arith, run_on f text j h t, o.same_end) }

    pub on-stop : (j < length text → f (get_or text j 0) ≡ false) → j ≡ i + run f (drop i text)
    on-stop n = go (dec_lt j (length text))
      where
        go : Dec (j < length text) → j ≡ i + run f (drop i text)
        go (yes h) = omega (arith, run-off f text j h (n h), o.same_end)
        go (no h) = omega (arith, run_end f text j (omega arith), o.same_end)

-- by the class r at place j
module _ (text : List ℕ) (j r : ℕ) (e : r ≡ class_at (drop j text)) where
  within : (r ≡ 15 → ⊥) → j < length text
  within n = not-past text j (λ q. n (e ∙ q))

  number : j < length text → r ≡ class_number (class (get_or text j 0))
  number h = e ∙ class-in text j h

  at-end : r ≡ 15 → length text ≤ j
  at-end q = past_end text j (sym e ∙ q)

  yes-at : (c : Class) → j < length text → r ≡ class_number c → test c (get_or text j 0) ≡ true
  yes-at c h q = test-true c (get_or text j 0) (sym (number h) ∙ q)

  no-at : (c : Class) → j < length text → (r ≡ class_number c → ⊥) → test c (get_or text j 0) ≡ false
  no-at c h n = test-false c (get_or text j 0) (λ q. n (number h ∙ q))

comment-le : (bs : List ℕ) → comment bs ≤ length bs
unfolding comment
comment-le bs = run-le (λ b. not (is_line_end b)) bs

-- the second byte of a line end at place i, by the class r of the next byte
module _ (text : List ℕ) (i r : ℕ) (e : r ≡ class_at (drop (i + 1) text)) where
  pub second_in : r ≡ 9 → i + 1 < length text
  second_in q = within text (i + 1) r e (λ p. omega arith)

  second-by : r ≡ 9 → second (get_or text i 0) (drop (i + 1) text) ≡ pick (not (eqb (get_or text i 0) (get_or text (i + 1) 0))) 1 0
  unfolding second class_number
  second-by q = rw (rest_at text (i + 1) (second_in q), yes-at text (i + 1) r e Class.line_end (second_in q) q)

  pub second-same : r ≡ 9 → get_or text i 0 ≡ get_or text (i + 1) 0 → i + 1 ≡ i + 1 + second (get_or text i 0) (drop (i + 1) text)
  unfolding pick
  second-same q s = let z : second (get_or text i 0) (drop (i + 1) text) ≡ 0 = second-by q ∙ rw (eq-eqb (get_or text i 0) (get_or text (i + 1) 0) s) in omega arith

  pub second-other : r ≡ 9 → (get_or text i 0 ≡ get_or text (i + 1) 0 → ⊥) → i + 2 ≡ i + 1 + second (get_or text i 0) (drop (i + 1) text)
  unfolding pick
  second-other q s = let z : second (get_or text i 0) (drop (i + 1) text) ≡ 1 = second-by q ∙ rw (ne_eqb (get_or text i 0) (get_or text (i + 1) 0) s) in omega arith

  pub second_none : (r ≡ 9 → ⊥) → i + 1 ≡ i + 1 + second (get_or text i 0) (drop (i + 1) text)
  unfolding second pick class_number
  second_none n = go (dec_lt (i + 1) (length text))
    where
      go : Dec (i + 1 < length text) → i + 1 ≡ i + 1 + second (get_or text i 0) (drop (i + 1) text)
      go (yes h) =
          let z : second (get_or text i 0) (drop (i + 1) text) ≡ 0 = rw (rest_at text (i + 1) h, no-at text (i + 1) r e Class.line_end h n) in
          omega arith
      go (no h) =
          let k : length text ≤ i + 1 = omega arith in
          let z : second (get_or text i 0) (drop (i + 1) text) ≡ 0 = rw (drop_of_length-le text k) in
          omega arith

-- past a line end there may be nothing more
pub second-inside : (text : List ℕ) (i n : ℕ) → i < length text → n ≡ i + 1 + second (get_or text i 0) (drop (i + 1) text) → n ≤ length text
second-inside text i n h q = omega (arith, second-le (get_or text i 0) (drop (i + 1) text), length-drop (i + 1) text)

-- one byte, as a part
one_at : (text : List ℕ) (i : ℕ) → i < length text → take 1 (drop i text) ≡ get_or text i 0 ∷ []
one_at text i h = rw (rest_at text i h)

-- backslash at place i, by the class c of the next byte
module _ (text : List ℕ) (i c : ℕ) (here : i < length text) (e : c ≡ class_at (drop (i + 1) text)) where
  pub join-in : c ≡ 9 → i + 1 < length text
  join-in q = within text (i + 1) c e (λ p. omega arith)

  pub backslash-hash : c ≡ 11 → Shows text i (after_backslash (drop (i + 1) text)) 1 (i + 1) 1 (i + 2)
  unfolding after_backslash shown pick class_number
  backslash-hash q =
      let h : i + 1 < length text = within text (i + 1) c e (λ p. omega arith) in
      let m : i + 2 - (i + 1) ≡ 1 = omega arith in
      record {
        is_lexeme = rw (one_at text (i + 1) h, m, rest_at text (i + 1) h, yes-at text (i + 1) c e Class.hash h q);
        on = omega arith;
        inside = omega arith;
        after = omega arith;
        part = omega arith;
      }

  pub backslash-join : (n : ℕ) → (c ≡ 11 → ⊥) → c ≡ 9 → n ≡ i + 1 + 1 + second (get_or text (i + 1) 0) (drop (i + 1 + 1) text) → Shows text i (after_backslash (drop (i + 1) text)) 1 i 0 n
  unfolding after_backslash shown pick class_number
  backslash-join n f q d =
      let h = join-in q in
      let m : n - (i + 1) ≡ 1 + second (get_or text (i + 1) 0) (drop (i + 1 + 1) text) = omega arith in
      record {
        is_lexeme = rw (m, rest_at text (i + 1) h, no-at text (i + 1) c e Class.hash h f, yes-at text (i + 1) c e Class.line_end h q);
        on = omega arith;
        inside = second-inside text (i + 1) n h d;
        after = omega arith;
        part = omega arith;
      }

  pub backslash-alone : (c ≡ 11 → ⊥) → (c ≡ 9 → ⊥) → Shows text i (after_backslash (drop (i + 1) text)) 8 i 1 (i + 1)
  unfolding after_backslash shown pick class_number
  backslash-alone f g = record { is_lexeme = go (dec_lt (i + 1) (length text)); on = omega arith; inside = omega arith; after = omega arith; part = omega arith }
    where
      m : i + 1 - (i + 1) ≡ 0
      m = omega arith

      go : Dec (i + 1 < length text) → after_backslash (drop (i + 1) text) ≡ shown text i 8 i 1 (i + 1)
      go (yes h) = rw (m, rest_at text (i + 1) h, no-at text (i + 1) c e Class.hash h f, no-at text (i + 1) c e Class.line_end h g)
      go (no h) = let k : length text ≤ i + 1 = omega arith in rw (m, drop_of_length-le text k)

-- `${` at place i: `end` is past the name, and c the class there
module _ (text : List ℕ) (i end c : ℕ) (here : i + 2 ≤ length text) (d : end ≡ i + 2 + run is_identifier (drop (i + 2) text)) (e : c ≡ class_at (drop end text)) where
  pub name-inside : end ≤ length text
  name-inside = omega (arith, run-le is_identifier (drop (i + 2) text), length-drop (i + 2) text)

  name-length : length (take (end - (i + 2)) (drop (i + 2) text)) ≡ end - (i + 2)
  name-length = let l = name-inside in length-take-le (end - (i + 2)) (drop (i + 2) text) (omega (arith, length-drop (i + 2) text))

  brace-by : after_brace (drop (i + 2) text) ≡ after_name (take (end - (i + 2)) (drop (i + 2) text)) (drop end text)
  unfolding after_brace
  brace-by =
      let n : run is_identifier (drop (i + 2) text) ≡ end - (i + 2) = omega arith in
      let m : i + 2 + (end - (i + 2)) ≡ end = omega arith in
      rw (n, drop-drop (end - (i + 2)) (i + 2) text, m)

  pub reference-closed : c ≡ 13 → Shows text i (after_brace (drop (i + 2) text)) 2 (i + 2) (end - (i + 2)) (end + 1)
  unfolding after_name shown pick class_number
  reference-closed q =
      let h : end < length text = within text end c e (λ p. omega arith) in
      let m : end + 1 - (i + 1) ≡ 2 + (end - (i + 2)) = omega arith in
      record {
        is_lexeme = rw (brace-by, m, rest_at text end h, yes-at text end c e Class.close_brace h q, name-length);
        on = omega arith;
        inside = omega arith;
        after = omega arith;
        part = omega arith;
      }

  pub reference-open : c ≡ 15 → Refuses text i (after_brace (drop (i + 2) text)) (record { error = MissingCloseVariable; at = end })
  unfolding after_name
  reference-open q =
      let k : length text ≤ end = at-end text end c e q in
      record { is_bad = rw (brace-by, drop_of_length-le text k); on = omega arith; inside = name-inside; stands = omega (arith, name-inside) }

  pub reference-bad : (x : LexError) → (c ≡ 13 → ⊥) → (c ≡ 15 → ⊥) → error_of x ≡ invalid_variable_char (code_point (get_or text end 0) (drop (end + 1) text))
      → Refuses text i (after_brace (drop (i + 2) text)) (record { error = x; at = end })
  unfolding after_name pick class_number
  reference-bad x f g w =
      let h : end < length text = within text end c e g in
      record {
        is_bad = rw (w, brace-by, rest_at text end h, no-at text end c e Class.close_brace h f);
        on = omega arith;
        inside = name-inside;
        stands = go x w h;
      }
    where
      go : (y : LexError) → error_of y ≡ invalid_variable_char (code_point (get_or text end 0) (drop (end + 1) text)) → end < length text → Stands text end y
      go MissingCloseVariable q h = let z : ◌≡◌ {A = ℕ} 0 1 = cc in absurd (omega arith)
      go (InvalidVariableChar p) q h = let z : p ≡ code_point (get_or text end 0) (drop (end + 1) text) = cc in (h, z)

-- `$` at place i, by the class c of the next byte
module _ (text : List ℕ) (i c : ℕ) (here : i < length text) (e : c ≡ class_at (drop (i + 1) text)) where
  pub brace-in : c ≡ 12 → i + 2 ≤ length text
  brace-in q = let h : i + 1 < length text = within text (i + 1) c e (λ p. omega arith) in omega arith

  pub dollar-brace : c ≡ 12 → after_dollar (get_or text i 0) (drop (i + 1) text) ≡ after_brace (drop (i + 2) text)
  unfolding after_dollar pick class_number
  dollar-brace q =
      let h : i + 1 < length text = within text (i + 1) c e (λ p. omega arith) in
      let m : i + 1 + 1 ≡ i + 2 = omega arith in
      rw (rest_at text (i + 1) h, yes-at text (i + 1) c e Class.open_brace h q, m)

  pub dollar-two : c ≡ 10 → Shows text i (after_dollar (get_or text i 0) (drop (i + 1) text)) 1 i 1 (i + 2)
  unfolding after_dollar shown pick class_number
  dollar-two q =
      let h : i + 1 < length text = within text (i + 1) c e (λ p. omega arith) in
      let m : i + 2 - (i + 1) ≡ 1 = omega arith in
      record {
        is_lexeme = rw (one_at text i here, m, rest_at text (i + 1) h, no-at text (i + 1) c e Class.open_brace h (λ p. omega arith), yes-at text (i + 1) c e Class.dollar h q);
        on = omega arith;
        inside = omega arith;
        after = omega arith;
        part = omega arith;
      }

  pub dollar-end : c ≡ 15 → Shows text i (after_dollar (get_or text i 0) (drop (i + 1) text)) 1 i 1 (i + 1)
  unfolding after_dollar shown pick
  dollar-end q =
      let k : length text ≤ i + 1 = at-end text (i + 1) c e q in
      let m : i + 1 - (i + 1) ≡ 0 = omega arith in
      record { is_lexeme = rw (one_at text i here, m, drop_of_length-le text k); on = omega arith; inside = omega arith; after = omega arith; part = omega arith }

  pub dollar-other : (c ≡ 12 → ⊥) → (c ≡ 10 → ⊥) → (c ≡ 15 → ⊥) → Shows text i (after_dollar (get_or text i 0) (drop (i + 1) text)) 1 i 2 (i + 2)
  unfolding after_dollar shown pick class_number
  dollar-other f g k =
      let h : i + 1 < length text = within text (i + 1) c e k in
      let m : i + 2 - (i + 1) ≡ 1 = omega arith in
      record {
        is_lexeme = rw (rest_at text i here, m, rest_at text (i + 1) h, no-at text (i + 1) c e Class.open_brace h f, no-at text (i + 1) c e Class.dollar h g);
        on = omega arith;
        inside = omega arith;
        after = omega arith;
        part = omega arith;
      }

-- the bytes that are text by themselves, and those that are tokens by themselves
pub plain : (c : Class) (b : ℕ) (bs : List ℕ) → (3 ≤ class_number c → class_number c < 12 → ⊥) → lexeme c b bs ≡ chars (b ∷ []) 0
unfolding lexeme class_number
plain Class.other b bs h = refl
plain Class.identifier b bs h = refl
plain Class.blank b bs h = absurd (h (omega arith) (omega arith))
plain Class.line_end b bs h = absurd (h (omega arith) (omega arith))
plain Class.hash b bs h = absurd (h (omega arith) (omega arith))
plain Class.dollar b bs h = absurd (h (omega arith) (omega arith))
plain Class.open_brace b bs h = refl
plain Class.close_brace b bs h = refl
plain Class.backslash b bs h = absurd (h (omega arith) (omega arith))
plain Class.equals b bs h = absurd (h (omega arith) (omega arith))
plain Class.colon b bs h = absurd (h (omega arith) (omega arith))
plain Class.single b bs h = absurd (h (omega arith) (omega arith))
plain Class.double b bs h = absurd (h (omega arith) (omega arith))

sign : (c : Class) (b : ℕ) (bs : List ℕ) → 3 ≤ class_number c → class_number c < 8 → lexeme c b bs ≡ mark (class_number c) 0
unfolding lexeme class_number
sign Class.other b bs h l = absurd (omega arith)
sign Class.identifier b bs h l = absurd (omega arith)
sign Class.blank b bs h l = refl
sign Class.line_end b bs h l = absurd (omega arith)
sign Class.hash b bs h l = absurd (omega arith)
sign Class.dollar b bs h l = absurd (omega arith)
sign Class.open_brace b bs h l = absurd (omega arith)
sign Class.close_brace b bs h l = absurd (omega arith)
sign Class.backslash b bs h l = absurd (omega arith)
sign Class.equals b bs h l = refl
sign Class.colon b bs h l = refl
sign Class.single b bs h l = refl
sign Class.double b bs h l = refl

-- the bytes that are text by themselves, by the class k
pub plain-byte : (b : ℕ) (k : ByteClass) → number_of k ≡ class_number (class b) → (k ≡ Other) ⊎ (k ≡ Identifier) → true ≡ is_plain b
unfolding is_plain
plain-byte b k e (inl p) = let z : number_of k ≡ 0 = ap number_of p in sym (lt-ltb (class_number (class b)) 3 (omega arith))
plain-byte b k e (inr p) = let z : number_of k ≡ 1 = ap number_of p in sym (lt-ltb (class_number (class b)) 3 (omega arith))

above_plain : (k : ByteClass) → (k ≡ Other → ⊥) → (k ≡ Identifier → ⊥) → 3 ≤ number_of k
above_plain Other f g = absurd (f refl)
above_plain Identifier f g = absurd (g refl)
above_plain Blank f g = omega arith
above_plain Equals f g = omega arith
above_plain Colon f g = omega arith
above_plain Single f g = omega arith
above_plain Double f g = omega arith
above_plain Backslash f g = omega arith
above_plain LineEnd f g = omega arith
above_plain Dollar f g = omega arith
above_plain Hash f g = omega arith
above_plain OpenBrace f g = omega arith
above_plain CloseBrace f g = omega arith
above_plain Past f g = omega arith

pub other-byte : (b : ℕ) (k : ByteClass) → number_of k ≡ class_number (class b) → (k ≡ Other → ⊥) → (k ≡ Identifier → ⊥) → false ≡ is_plain b
unfolding is_plain
other-byte b k e f g = sym (le-ltb (class_number (class b)) 3 (omega (arith, e, above_plain k f g)))

-- by the classes that are none of these
pub quiet : (k : ByteClass) → (k ≡ Blank → ⊥) → (k ≡ Equals → ⊥) → (k ≡ Colon → ⊥) → (k ≡ Single → ⊥) → (k ≡ Double → ⊥) → (k ≡ Backslash → ⊥) → (k ≡ LineEnd → ⊥) → (k ≡ Dollar → ⊥) → (k ≡ Hash → ⊥)
    → 3 ≤ number_of k → number_of k < 12 → ⊥
quiet Other a b c d e f g h i l m = omega arith
quiet Identifier a b c d e f g h i l m = omega arith
quiet Blank a b c d e f g h i l m = a refl
quiet Equals a b c d e f g h i l m = b refl
quiet Colon a b c d e f g h i l m = c refl
quiet Single a b c d e f g h i l m = d refl
quiet Double a b c d e f g h i l m = e refl
quiet Backslash a b c d e f g h i l m = f refl
quiet LineEnd a b c d e f g h i l m = g refl
quiet Dollar a b c d e f g h i l m = h refl
quiet Hash a b c d e f g h i l m = i refl
quiet OpenBrace a b c d e f g h i l m = omega arith
quiet CloseBrace a b c d e f g h i l m = omega arith
quiet Past a b c d e f g h i l m = omega arith

-- the lexeme at place i, by the class c of its first byte
module _ (text : List ℕ) (i c : ℕ) (here : i < length text) (by_number : c ≡ class_number (class (get_or text i 0))) where
  by-class : (k : Class) → c ≡ class_number k → lexeme_at text i ≡ lexeme k (get_or text i 0) (drop (i + 1) text)
  by-class k q = ap (λ (x : Class). lexeme x (get_or text i 0) (drop (i + 1) text)) (class-is (get_or text i 0) k (sym by_number ∙ q))

  pub plain-shows : (3 ≤ c → c < 12 → ⊥) → Shows text i (lexeme_at text i) 1 i 1 (i + 1)
  unfolding shown pick
  plain-shows f =
      let n = by_number in
      let m : i + 1 - (i + 1) ≡ 0 = omega arith in
      record {
        is_lexeme = plain (class (get_or text i 0)) (get_or text i 0) (drop (i + 1) text) (λ p q. f (omega arith) (omega arith)) ∙ rw (one_at text i here, m);
        on = omega arith;
        inside = omega arith;
        after = omega arith;
        part = omega arith;
      }

  pub lexeme-text : c < 3 → Shows text i (lexeme_at text i) 1 i 1 (i + 1)
  lexeme-text h = plain-shows (λ p q. omega arith)

  pub lexeme-brace : 8 ≤ c → (c ≡ 8 → ⊥) → (c ≡ 9 → ⊥) → (c ≡ 10 → ⊥) → (c ≡ 11 → ⊥) → Shows text i (lexeme_at text i) 1 i 1 (i + 1)
  lexeme-brace h f g k l = plain-shows (λ p q. omega arith)

  pub lexeme-sign : 3 ≤ c → c < 8 → Shows text i (lexeme_at text i) c i 1 (i + 1)
  unfolding shown pick
  lexeme-sign h l =
      let n = by_number in
      let m : i + 1 - (i + 1) ≡ 0 = omega arith in
      record {
        is_lexeme = sign (class (get_or text i 0)) (get_or text i 0) (drop (i + 1) text) (omega arith) (omega arith)
            ∙ rw (← n, m, ne_eqb c 1 (λ q. omega arith), ne_eqb c 2 (λ q. omega arith));
        on = omega arith;
        inside = omega arith;
        after = omega arith;
        part = omega arith;
      }

  pub lexeme-backslash : c ≡ 8 → lexeme_at text i ≡ after_backslash (drop (i + 1) text)
  unfolding lexeme class_number
  lexeme-backslash q = by-class Class.backslash q

  pub lexeme-dollar : c ≡ 10 → lexeme_at text i ≡ after_dollar (get_or text i 0) (drop (i + 1) text)
  unfolding lexeme class_number
  lexeme-dollar q = by-class Class.dollar q

  pub lexeme-newline : (n : ℕ) → c ≡ 9 → n ≡ i + 1 + second (get_or text i 0) (drop (i + 1) text) → Shows text i (lexeme_at text i) 9 i 1 n
  unfolding lexeme class_number shown pick
  lexeme-newline n q d =
      let m : n - (i + 1) ≡ second (get_or text i 0) (drop (i + 1) text) = omega arith in
      record { is_lexeme = by-class Class.line_end q ∙ rw m; on = omega arith; inside = second-inside text i n here d; after = omega arith; part = omega arith }

  pub lexeme-comment : (n : ℕ) → c ≡ 11 → n ≡ i + 1 + comment (drop (i + 1) text) → Shows text i (lexeme_at text i) 1 i 0 n
  unfolding lexeme class_number shown pick
  lexeme-comment n q d =
      let m : n - (i + 1) ≡ comment (drop (i + 1) text) = omega arith in
      record {
        is_lexeme = by-class Class.hash q ∙ rw m;
        on = omega arith;
        inside = let l = comment-le (drop (i + 1) text) in omega (arith, length-drop (i + 1) text);
        after = omega arith;
        part = omega arith;
      }

-- a run of bytes that are text by themselves, or else one lexeme
module _ (text : List ℕ) (i : ℕ) where
  pub reads-run : (end : ℕ) → i < length text → is_plain (get_or text i 0) ≡ true → end ≡ i + 1 + run is_plain (drop (i + 1) text) → Reads text i 1 i (end - i) end
  reads-run end here t d =
      let z = run_on is_plain text i here t in
      record {
        is_piece = inl (record { is_text = refl; is_from = refl; is_len = omega arith }, omega arith);
        on = omega arith;
        inside = omega (arith, run-le is_plain (drop i text), length-drop i text);
        after = omega arith;
        part = omega arith;
      }

  pub reads-one : (kind from len next : ℕ) → Shows text i (lexeme_at text i) kind from len next → Reads text i kind from len next
  reads-one kind from len next s = record { is_piece = inr s.is_lexeme; on = s.on; inside = s.inside; after = s.after; part = s.part }
