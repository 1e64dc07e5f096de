-- What a text is refused with, if it is. It doesn't depend on tokens and gathered Text, and bytes that are no part of a reference may be passed one by one. Assumes nothing.
use Prim.Native.Nat.{ℕ, zero, suc, ◌+◌, ◌-◌, ◌≤◌, ◌<◌}
use mathlib.Core.Path.{◌≡◌, refl, ap, sym, ◌∙◌}
use mathlib.Core.Bool.{Bool, true, false, not, ◌&&◌, ◌||◌}
use mathlib.Core.List.{List, [], ◌∷◌}
use mathlib.Core.Option.{Option, none, some, none-ne-some, some-injective}
use native.Mathlib.Omega.{arith}
use native.Mathlib.Decide.{ℕ_discrete, dec_lt}
use lib.ListN.{length, drop, get_or, drop_of_length-le}
use lib.Dec.{eqb}
use borrow.Author.Tests.{eqb-true, eq-eqb}
use Rattle.rules.specs.Bytes.{pick, is, run}
use Rattle.rules.proofs.BytesLaws.{false-true}
use Rattle.rules.specs.Tokens.{Token, backslash_kind}
use Rattle.rules.specs.Numbers.{LexError, Refusal, lex_error, Result, refused, ok}
use Rattle.rules.specs.Lexing.{Class, Lexeme, chars, reference, mark, bad, Gathered, nothing_yet, gather, is_line_end, class, second, comment, after_backslash, after_dollar, lexeme, prepend, lex, tokens}
use Rattle.rules.proofs.LexingLaws.{lex-chars, lex-reference, lex-mark, lex-bad}
use Rattle.scan.specs.Classes.{class_number}
use Rattle.scan.proofs.Classes.{class-is, test, tests, test-true}
use Rattle.scan.proofs.Lists.{rest_at}
use Rattle.lexer.specs.Pieces.{lexeme_at, Shows, Reads}
use Rattle.lexer.specs.Marks.{dollar_stop, free}
use Rattle.lexer.specs.Inner.{Accepted}
use Rattle.lexer.proofs.Lexemes.{run_on, run-off, run_end, lexeme-text, lexeme-sign, lexeme-brace, lexeme-comment, lexeme-backslash, lexeme-dollar, reads-one}
use Rattle.lexer.proofs.Lefts.{left-chars, left-token, left-bad}

-- the refusal, where there is one
abbrev pub fate : Result (List Token) → Option Refusal
fate (refused r) = some r
fate (ok ts) = none

fate-prepend : (ts : List Token) (r : Result (List Token)) → fate (prepend ts r) ≡ fate r
unfolding prepend
fate-prepend ts (refused r) = refl
fate-prepend ts (ok us) = refl

-- it is the same whatever was lexed before
fate-lex : (bs : List ℕ) (end end' : ℕ) (g g' : Gathered) (skip at : ℕ) → fate (lex end g skip at bs) ≡ fate (lex end' g' skip at bs)
unfolding lex
fate-lex [] end end' g g' skip at = refl
fate-lex (b ∷ bs) end end' g g' (suc skip) at = fate-lex bs end end' g g' skip (suc at)
fate-lex (b ∷ bs) end end' g g' zero at = go (lexeme (class b) b bs) refl (λ e e' h h' n. fate-lex bs e e' h h' n (suc at))
  where
    go : (x : Lexeme) → lexeme (class b) b bs ≡ x
        → ((e e' : ℕ) (h h' : Gathered) (n : ℕ) → fate (lex e h n (suc at) bs) ≡ fate (lex e' h' n (suc at) bs))
        → fate (lex end g 0 at (b ∷ bs)) ≡ fate (lex end' g' 0 at (b ∷ bs))
    go (chars cs n) q ih =
        ap fate (lex-chars end g at b bs cs n q) ∙ ih end end' (gather g cs at) (gather g' cs at) n ∙ sym (ap fate (lex-chars end' g' at b bs cs n q))
    go (reference name n) q ih =
        ap fate (lex-reference end g at b bs name n q) ∙ fate-prepend _ _ ∙ ih _ _ nothing_yet nothing_yet n
        ∙ sym (ap fate (lex-reference end' g' at b bs name n q) ∙ fate-prepend _ _)
    go (mark kind n) q ih =
        ap fate (lex-mark end g at b bs kind n q) ∙ fate-prepend _ _ ∙ ih _ _ nothing_yet nothing_yet n
        ∙ sym (ap fate (lex-mark end' g' at b bs kind n q) ∙ fate-prepend _ _)
    go (bad e) q ih = ap fate (lex-bad end g at b bs e q) ∙ sym (ap fate (lex-bad end' g' at b bs e q))

-- the refusal of the bytes from place `at` on
abbrev pub doom : ℕ → List ℕ → Option Refusal
doom at bs = fate (lex 0 nothing_yet 0 at bs)

is-line-end : (b : ℕ) → is_line_end b ≡ true → class b ≡ Class.line_end
unfolding class_number
is-line-end b e = class-is b Class.line_end (eqb-true (class_number (class b)) 9 (sym (tests Class.line_end b) ∙ e))

newline : (bs : List ℕ) (b at : ℕ) → class b ≡ Class.line_end → doom at (b ∷ bs) ≡ fate (lex 0 nothing_yet (second b bs) (suc at) bs)
unfolding lexeme
newline bs b at e =
    ap fate (lex-mark 0 nothing_yet at b bs 9 (second b bs) (ap (λ (x : Class). lexeme x b bs) e)) ∙ fate-prepend _ _
    ∙ fate-lex bs _ 0 nothing_yet nothing_yet (second b bs) (suc at)

-- a line end may be passed by itself, though it be the first of a pair
doom-line : (bs : List ℕ) (b at : ℕ) → class b ≡ Class.line_end → doom at (b ∷ bs) ≡ doom (suc at) bs
unfolding lex second pick
doom-line [] b at e = newline [] b at e
doom-line (c ∷ cs) b at e = newline (c ∷ cs) b at e ∙ go (is_line_end c) (eqb b c) refl (λ f. doom-line cs c (suc at) f)
  where
    go : (x y : Bool) → is_line_end c ≡ x → (class c ≡ Class.line_end → doom (suc at) (c ∷ cs) ≡ doom (suc (suc at)) cs)
        → fate (lex 0 nothing_yet (pick (x && not y) 1 0) (suc at) (c ∷ cs)) ≡ doom (suc at) (c ∷ cs)
    go true true f ih = refl
    go true false f ih = sym (ih (is-line-end c f))
    go false y f ih = refl

-- a backslash is never refused
never-bad : (bs : List ℕ) (e : LexError) → after_backslash bs ≡ bad e → ⊥
unfolding after_backslash pick
never-bad [] e q = let z : ◌≡◌ {A = ℕ} 0 1 = cc in absurd (omega arith)
never-bad (b ∷ bs) e q = go (is "#" b) (is_line_end b) q
  where
    go : (x y : Bool) → pick x (chars (b ∷ []) 1) (pick y (chars [] (1 + second b bs)) (mark backslash_kind 0)) ≡ bad e → ⊥
    go true y r = let z : ◌≡◌ {A = ℕ} 0 1 = cc in absurd (omega arith)
    go false true r = let z : ◌≡◌ {A = ℕ} 0 1 = cc in absurd (omega arith)
    go false false r = let z : ◌≡◌ {A = ℕ} 0 1 = cc in absurd (omega arith)

is-fine : (text : List ℕ) → fate (tokens text) ≡ none → Accepted text
is-fine text e = go (tokens text) refl e
  where
    go : (r : Result (List Token)) → tokens text ≡ r → fate r ≡ none → Accepted text
    go (refused f) q e = absurd (none-ne-some f (sym e))
    go (ok ts) q e = record { ts = ts; is_tokens = q }

-- at place i, the refusal of the text is that of the rest
pub record Fated (text : List ℕ) (i : ℕ) : Type 0 where
  pub here : i ≤ length text
  pub same : fate (tokens text) ≡ doom i (drop i text)

pub fated-start : (text : List ℕ) → Fated text 0
unfolding tokens
fated-start text = record { here = omega arith; same = refl }

module _ (text : List ℕ) (i : ℕ) (F : Fated text i) where
  module _ (kind from len next : ℕ) (h : i < length text) (s : Shows text i (lexeme_at text i) kind from len next) where
    reads : Reads text i kind from len next
    reads = reads-one text i kind from len next s

    -- past one lexeme
    fated-more : Fated text next
    fated-more = record { here = s.inside; same = F.same ∙ go (ℕ_discrete kind 1) }
      where
        go : Dec (kind ≡ 1) → doom i (drop i text) ≡ doom next (drop next text)
        go (yes q) = ap fate (left-chars text i kind from len next h reads 0 nothing_yet q) ∙ fate-lex (drop next text) 0 0 _ nothing_yet 0 next
        go (no q) = ap fate (left-token text i kind from len next h reads 0 nothing_yet q) ∙ fate-prepend _ _ ∙ fate-lex (drop next text) _ 0 nothing_yet nothing_yet 0 next

    fated-less : length text - next < length text - i
    fated-less = let a = s.on in let b = s.inside in omega arith

  -- the refusal of a reference that can't be lexed
  fated-bad : (x : LexError) → i < length text → lexeme_at text i ≡ bad x → tokens text ≡ refused (lex_error x i)
  fated-bad x h b = is_refused (tokens text) (lex_error x i) (F.same ∙ ap fate (left-bad text i x h b 0 nothing_yet))
    where
      is_refused : (r : Result (List Token)) (f : Refusal) → fate r ≡ some f → r ≡ refused f
      is_refused (refused g) f e = ap refused (some-injective g f e)
      is_refused (ok ts) f e = absurd (none-ne-some f e)

  -- by the class c of the byte
  module _ (c : ℕ) (h : i < length text) (e : c ≡ class_number (class (get_or text i 0))) where
    -- past one byte
    fated-byte : c < 8 → Fated text (i + 1)
    fated-byte l = go (dec_lt c 3)
      where
        go : Dec (c < 3) → Fated text (i + 1)
        go (yes p) = fated-more 1 i 1 (i + 1) h (lexeme-text text i c h e p)
        go (no p) = fated-more c i 1 (i + 1) h (lexeme-sign text i c h e (omega arith) l)

    fated-line : c ≡ 9 → Fated text (i + 1)
    unfolding class_number
    fated-line q =
        let z : suc i ≡ i + 1 = omega arith in
        record {
          here = omega arith;
          same = F.same ∙ ap (doom i) (rest_at text i h) ∙ doom-line (drop (i + 1) text) (get_or text i 0) i (class-is (get_or text i 0) Class.line_end (sym e ∙ q))
              ∙ ap (λ (k : ℕ). doom k (drop (i + 1) text)) z;
        }

    pub fated-other : (c ≡ 10 → ⊥) → (c ≡ 11 → ⊥) → (c ≡ 8 → ⊥) → Fated text (i + 1)
    fated-other f g k = go (dec_lt c 8) (ℕ_discrete c 9)
      where
        go : Dec (c < 8) → Dec (c ≡ 9) → Fated text (i + 1)
        go (yes l) q = fated-byte l
        go (no l) (yes q) = fated-line q
        go (no l) (no n) = fated-more 1 i 1 (i + 1) h (lexeme-brace text i c h e (omega arith) k n f g)

    -- past a comment
    module _ (next : ℕ) (q : c ≡ 11) (d : next ≡ i + 1 + comment (drop (i + 1) text)) where
      pub fated-comment : Fated text next
      fated-comment = fated-more 1 i 0 next h (lexeme-comment text i c h e next q d)

      pub comment-less : length text - next < length text - i
      comment-less = fated-less 1 i 0 next h (lexeme-comment text i c h e next q d)

    module _ (kind from len next : ℕ) where
      -- past what a backslash makes
      pub fated-backslash : c ≡ 8 → Shows text i (after_backslash (drop (i + 1) text)) kind from len next → Fated text next
      fated-backslash q s = fated-more kind from len next h (rw (lexeme-backslash text i c h e q) s)

      -- past what a `$` makes, or the refusal
      pub fated-dollar : c ≡ 10 → Shows text i (after_dollar (get_or text i 0) (drop (i + 1) text)) kind from len next → Fated text next
      fated-dollar q s = fated-more kind from len next h (rw (lexeme-dollar text i c h e q) s)

    pub dollar-bad : (x : LexError) → c ≡ 10 → after_dollar (get_or text i 0) (drop (i + 1) text) ≡ bad x → tokens text ≡ refused (lex_error x i)
    dollar-bad x q b = fated-bad x h (lexeme-dollar text i c h e q ∙ b)

  pub shown-less : {x : Lexeme} (kind from len next : ℕ) → Shows text i x kind from len next → length text - next < length text - i
  shown-less kind from len next s = let a = s.on in let b = s.inside in omega arith

  pub fated-end : length text ≤ i → Accepted text
  unfolding lex
  fated-end h = is-fine text (F.same ∙ rw (drop_of_length-le text h))

-- a byte that is no `$` and hides none
marked-class : (b : ℕ) (c : Class) → class_number (class b) ≡ class_number c → (test c b ≡ true → dollar_stop b ≡ true) → free dollar_stop b ≡ true → ⊥
marked-class b c q p e = let y : dollar_stop b ≡ true = p (test-true c b q) in let z = rw y at e in cc

or_mid : (s u : Bool) → (s || true || u) ≡ true
or_mid true u = refl
or_mid false u = refl

or_last : (s t : Bool) → (s || t || true) ≡ true
or_last true t = refl
or_last false true = refl
or_last false false = refl

module _ (b : ℕ) (e : free dollar_stop b ≡ true) where
  not-dollar : class_number (class b) ≡ 10 → ⊥
  unfolding dollar_stop class_number
  not-dollar q = marked-class b Class.dollar q (λ t. rw t (or_mid (is "#" b) (is "\\" b))) e

  not-hash : class_number (class b) ≡ 11 → ⊥
  unfolding dollar_stop class_number
  not-hash q = marked-class b Class.hash q (λ t. rw t) e

  not-backslash : class_number (class b) ≡ 8 → ⊥
  unfolding dollar_stop class_number
  not-backslash q = marked-class b Class.backslash q (λ t. rw t (or_last (is "#" b) (is "$" b))) e

-- past such bytes
fated-run : (text : List ℕ) (r i : ℕ) → Fated text i → run (free dollar_stop) (drop i text) ≡ r → Fated text (i + r)
fated-run text zero i F e = let z : i ≡ i + 0 = omega arith in rw (sym z) F
fated-run text (suc r) i F e = go (dec_lt i (length text)) (free dollar_stop b) refl (λ G d. fated-run text r (i + 1) G d)
  where
    b : ℕ
    b = get_or text i 0

    go : Dec (i < length text) → (t : Bool) → free dollar_stop b ≡ t → (Fated text (i + 1) → run (free dollar_stop) (drop (i + 1) text) ≡ r → Fated text (i + 1 + r)) → Fated text (i + suc r)
    go (no h) t q ih = let z = run_end (free dollar_stop) text i (omega arith) in absurd (omega arith)
    go (yes h) false q ih = let z = run-off (free dollar_stop) text i h q in absurd (omega arith)
    go (yes h) true q ih =
        let n = run_on (free dollar_stop) text i h q in
        let z : i + 1 + r ≡ i + suc r = omega arith in
        rw (sym z) (ih (fated-other text i F (class_number (class b)) h refl (not-dollar b q) (not-hash b q) (not-backslash b q)) (omega arith))

-- past the byte of class c at place i, and such bytes after it
module _ (text : List ℕ) (i : ℕ) (F : Fated text i) (c end : ℕ) (h : i < length text) (e : c ≡ class_number (class (get_or text i 0))) (f : c ≡ 10 → ⊥) (g : c ≡ 11 → ⊥) (k : c ≡ 8 → ⊥)
    (d : end ≡ i + 1 + run (free dollar_stop) (drop (i + 1) text)) where
  pub fated-quiet : Fated text end
  fated-quiet = rw d (fated-run text (run (free dollar_stop) (drop (i + 1) text)) (i + 1) (fated-other text i F c h e f g k) refl)

  pub quiet-less : length text - end < length text - i
  quiet-less = let m = fated-quiet.here in omega arith

-- only `$` can be refused
bad-dollar : (c : Class) (b : ℕ) (bs : List ℕ) (e : LexError) → lexeme c b bs ≡ bad e → c ≡ Class.dollar
unfolding lexeme
bad-dollar Class.other b bs e q = let z : ◌≡◌ {A = ℕ} 0 1 = cc in absurd (omega arith)
bad-dollar Class.identifier b bs e q = let z : ◌≡◌ {A = ℕ} 0 1 = cc in absurd (omega arith)
bad-dollar Class.blank b bs e q = let z : ◌≡◌ {A = ℕ} 0 1 = cc in absurd (omega arith)
bad-dollar Class.line_end b bs e q = let z : ◌≡◌ {A = ℕ} 0 1 = cc in absurd (omega arith)
bad-dollar Class.hash b bs e q = let z : ◌≡◌ {A = ℕ} 0 1 = cc in absurd (omega arith)
bad-dollar Class.dollar b bs e q = refl
bad-dollar Class.open_brace b bs e q = let z : ◌≡◌ {A = ℕ} 0 1 = cc in absurd (omega arith)
bad-dollar Class.close_brace b bs e q = let z : ◌≡◌ {A = ℕ} 0 1 = cc in absurd (omega arith)
bad-dollar Class.backslash b bs e q = absurd (never-bad bs e q)
bad-dollar Class.equals b bs e q = let z : ◌≡◌ {A = ℕ} 0 1 = cc in absurd (omega arith)
bad-dollar Class.colon b bs e q = let z : ◌≡◌ {A = ℕ} 0 1 = cc in absurd (omega arith)
bad-dollar Class.single b bs e q = let z : ◌≡◌ {A = ℕ} 0 1 = cc in absurd (omega arith)
bad-dollar Class.double b bs e q = let z : ◌≡◌ {A = ℕ} 0 1 = cc in absurd (omega arith)

is-dollar : (b : ℕ) → class b ≡ Class.dollar → eqb b 36 ≡ true
unfolding is
is-dollar b q = tests Class.dollar b ∙ eq-eqb _ _ (ap class_number q)

-- without `$` there is no refusal
calm : (bs : List ℕ) (end : ℕ) (g : Gathered) (skip at : ℕ) → ((k : ℕ) → k < length bs → eqb (get_or bs k 0) 36 ≡ false) → fate (lex end g skip at bs) ≡ none
unfolding lex
calm [] end g skip at h = refl
calm (b ∷ bs) end g (suc skip) at h = calm bs end g skip (suc at) (λ k l. h (suc k) (omega arith))
calm (b ∷ bs) end g zero at h = go (lexeme (class b) b bs) refl (λ end' g' n. calm bs end' g' n (suc at) (λ k l. h (suc k) (omega arith)))
  where
    go : (x : Lexeme) → lexeme (class b) b bs ≡ x → ((end' : ℕ) (g' : Gathered) (n : ℕ) → fate (lex end' g' n (suc at) bs) ≡ none) → fate (lex end g 0 at (b ∷ bs)) ≡ none
    go (chars cs n) q ih = ap fate (lex-chars end g at b bs cs n q) ∙ ih end (gather g cs at) n
    go (reference name n) q ih = ap fate (lex-reference end g at b bs name n q) ∙ fate-prepend _ _ ∙ ih _ nothing_yet n
    go (mark kind n) q ih = ap fate (lex-mark end g at b bs kind n q) ∙ fate-prepend _ _ ∙ ih _ nothing_yet n
    go (bad e) q ih = absurd (false-true (h 0 (omega arith)) (is-dollar b (bad-dollar (class b) b bs e q)))

pub no-dollar : (text : List ℕ) → ((k : ℕ) → k < length text → eqb (get_or text k 0) 36 ≡ false) → Accepted text
unfolding tokens
no-dollar text h = is-fine text (calm text 0 nothing_yet 0 0 h)
