-- What is left at a place of the text: a lexeme, and what is left at the next. Assumes nothing.
use Prim.Native.Nat.{ℕ, suc, ◌+◌, ◌-◌, ◌≤◌, ◌<◌}
use mathlib.Core.Path.{◌≡◌, refl, ap, sym, ◌∙◌}
use mathlib.Core.List.{List, [], ◌∷◌, ◌++◌, append_assoc}
use mathlib.Core.Logic.{⊎_elim}
use mathlib.Core.Bool.{Bool, true, false}
use native.Mathlib.Omega.{arith}
use native.Mathlib.Decide.{ℕ_discrete}
use lib.ListN.{length, take, drop, get_or}
use lib.Seq.{drop-drop}
use borrow.Author.Tests.{ltb-true, ne_eqb, lt-leb}
use Rattle.rules.specs.Bytes.{pick, run}
use Rattle.rules.specs.Tokens.{Token, token, variable_kind, pooled}
use Rattle.rules.specs.Numbers.{LexError, lex_error, Result, refused, ok}
use Rattle.rules.specs.Lexing.{chars, reference, mark, bad, Gathered, nothing_yet, first_source, gather, class, lexeme, flush, prepend, lex, tokens}
use Rattle.rules.proofs.LexingLaws.{lexeme-fits, lex-chars, lex-reference, lex-mark, lex-bad, lex-skip}
use Rattle.scan.specs.Classes.{class_number}
use Rattle.scan.proofs.Lists.{rest_at}
use Rattle.tokens.specs.Entries.{pool_text}
use Rattle.lexer.specs.Pieces.{lexeme_at, shown, is_plain, Plain, Reads}
use Rattle.lexer.proofs.Lexemes.{plain}
use Rattle.lexer.specs.Inner.{made}

pub prepend-nil : (r : Result (List Token)) → prepend [] r ≡ r
unfolding prepend
prepend-nil (refused r) = refl
prepend-nil (ok us) = refl

pub prepend-prepend : (ts us : List Token) (r : Result (List Token)) → prepend ts (prepend us r) ≡ prepend (ts ++ us) r
unfolding prepend
prepend-prepend ts us (refused r) = refl
prepend-prepend ts us (ok vs) = ap ok (sym (append_assoc ts us vs))

lex-here : (text : List ℕ) (i end : ℕ) (g : Gathered) → i < length text → lex end g 0 i (drop i text) ≡ lex end g 0 i (get_or text i 0 ∷ drop (i + 1) text)
lex-here text i end g h = ap (lex end g 0 i) (rest_at text i h)

-- more text after a byte
gather-on : (g : Gathered) (b : ℕ) (cs : List ℕ) (at next : ℕ) → gather (gather g (b ∷ []) at) cs next ≡ gather g (b ∷ cs) at
unfolding gather first_source
gather-on g b cs at next = go g.text
  where
    go : (s : List ℕ)
        → ◌≡◌ {A = Gathered} (record { text = s ++ (b ∷ []) ++ cs; source = first_source (s ++ (b ∷ [])) (first_source s g.source at) next }) (record { text = s ++ (b ∷ cs); source = first_source s g.source at })
    go [] = refl
    go (c ∷ s) = rw (append_assoc (c ∷ s) (b ∷ []) cs)

plain-lexeme : (b : ℕ) (bs : List ℕ) → is_plain b ≡ true → lexeme (class b) b bs ≡ chars (b ∷ []) 0
unfolding is_plain
plain-lexeme b bs e = let l : class_number (class b) < 3 = ltb-true (class_number (class b)) 3 e in plain (class b) b bs (λ p q. omega arith)

-- a run of bytes that are text by themselves is gathered at once
lex-plain : (bs : List ℕ) (b at end : ℕ) (g : Gathered) → is_plain b ≡ true
    → lex end g 0 at (b ∷ bs) ≡ lex end (gather g (b ∷ take (run is_plain bs) bs) at) 0 (at + 1 + run is_plain bs) (drop (run is_plain bs) bs)
unfolding lex run
lex-plain [] b at end g e = lex-chars end g at b [] (b ∷ []) 0 (plain-lexeme b [] e)
lex-plain (c ∷ r) b at end g e =
    lex-chars end g at b (c ∷ r) (b ∷ []) 0 (plain-lexeme b (c ∷ r) e) ∙ go (is_plain c) refl (λ q. lex-plain r c (suc at) end (gather g (b ∷ []) at) q)
  where
    go : (t : Bool) → is_plain c ≡ t
        → (is_plain c ≡ true → lex end (gather g (b ∷ []) at) 0 (suc at) (c ∷ r) ≡ lex end (gather (gather g (b ∷ []) at) (c ∷ take (run is_plain r) r) (suc at)) 0 (suc at + 1 + run is_plain r) (drop (run is_plain r) r))
        → lex end (gather g (b ∷ []) at) 0 (suc at) (c ∷ r) ≡ lex end (gather g (b ∷ take (run is_plain (c ∷ r)) (c ∷ r)) at) 0 (at + 1 + run is_plain (c ∷ r)) (drop (run is_plain (c ∷ r)) (c ∷ r))
    go true q ih =
        let n : run is_plain (c ∷ r) ≡ suc (run is_plain r) = rw (q, run) in
        let m : suc at + 1 + run is_plain r ≡ at + 1 + suc (run is_plain r) = omega arith in
        ih q ∙ rw (gather-on g b (c ∷ take (run is_plain r) r) at (suc at), m, n)
    go false q ih =
        let n : run is_plain (c ∷ r) ≡ 0 = rw (q, run) in
        let m : at + 1 + 0 ≡ suc at = omega arith in
        rw (n, m)

-- the piece at place i, shown by four numbers
module _ (text : List ℕ) (i kind from len next : ℕ) (h : i < length text) (s : Reads text i kind from len next) where
  lex-next : (end : ℕ) (g : Gathered) → lex end g (next - (i + 1)) (suc i) (drop (i + 1) text) ≡ lex end g 0 next (drop next text)
  lex-next end g =
      let a : suc i + (next - (i + 1)) ≡ next = omega arith in
      let b : i + 1 + (next - (i + 1)) ≡ next = omega arith in
      lex-skip end g (next - (i + 1)) (suc i) (drop (i + 1) text) ∙ rw (drop-drop (next - (i + 1)) (i + 1) text, a, b)

  pub next-less : length text - next < length text - i
  next-less = omega arith

  -- a piece that isn't Text is one lexeme
  is_lexeme : (kind ≡ 1 → ⊥) → lexeme_at text i ≡ shown text i kind from len next
  is_lexeme n = ⊎_elim (λ p. absurd (n p.0.is_text)) (λ x. x) s.is_piece

  shown-mark : (kind ≡ 1 → ⊥) → (kind ≡ 2 → ⊥) → lexeme_at text i ≡ mark kind (next - (i + 1))
  unfolding shown pick
  shown-mark n q = is_lexeme n ∙ rw (ne_eqb kind 1 n, ne_eqb kind 2 q)

  mark-above : lexeme_at text i ≡ mark kind (next - (i + 1)) → variable_kind < kind
  mark-above x = (rw x at (lexeme-fits (class (get_or text i 0)) (get_or text i 0) (drop (i + 1) text))).1

  -- a token that isn't Text
  pub kind-above : (kind ≡ 1 → ⊥) → variable_kind ≤ kind
  kind-above n = go (ℕ_discrete kind 2)
    where
      go : Dec (kind ≡ 2) → variable_kind ≤ kind
      go (yes q) = omega arith
      go (no q) = let f : variable_kind < kind = mark-above (shown-mark n q) in omega arith

  module _ (end : ℕ) (g : Gathered) where
    left-plain : Plain text i kind from len × (next ≡ i + len) → lex end g 0 i (drop i text) ≡ lex end (gather g (take len (drop from text)) i) 0 next (drop next text)
    unfolding run
    left-plain p = go (is_plain (get_or text i 0)) refl
      where
        bs : List ℕ
        bs = drop (i + 1) text

        l : len ≡ run is_plain (get_or text i 0 ∷ bs)
        l = p.0.is_len ∙ ap (run is_plain) (rest_at text i h)

        go : (t : Bool) → is_plain (get_or text i 0) ≡ t → lex end g 0 i (drop i text) ≡ lex end (gather g (take len (drop from text)) i) 0 next (drop next text)
        go false q = let z : run is_plain (get_or text i 0 ∷ bs) ≡ 0 = rw (q, run) in absurd (omega (arith, s.on, p.1, l))
        go true q =
            let n : len ≡ suc (run is_plain bs) = l ∙ rw (q, run) in
            let m : next ≡ i + 1 + run is_plain bs = omega (arith, p.1, n) in
            lex-here text i end g h ∙ lex-plain bs (get_or text i 0) i end g q ∙ rw (p.0.is_from, n, m, rest_at text i h, ← drop-drop (run is_plain bs) (i + 1) text)

    pub left-chars : kind ≡ 1 → lex end g 0 i (drop i text) ≡ lex end (gather g (take len (drop from text)) i) 0 next (drop next text)
    unfolding shown pick
    left-chars q = ⊎_elim left-plain one s.is_piece
      where
        one : lexeme_at text i ≡ shown text i kind from len next → lex end g 0 i (drop i text) ≡ lex end (gather g (take len (drop from text)) i) 0 next (drop next text)
        one e =
            let x : lexeme_at text i ≡ chars (take len (drop from text)) (next - (i + 1)) = e ∙ rw q in
            lex-here text i end g h ∙ lex-chars end g i (get_or text i 0) (drop (i + 1) text) (take len (drop from text)) (next - (i + 1)) x
            ∙ lex-next end (gather g (take len (drop from text)) i)

    pub left-token : (kind ≡ 1 → ⊥)
        → lex end g 0 i (drop i text)
        ≡ prepend (flush end g ++ (made text i kind from len (end + length g.text) ∷ []))
        (lex (end + length g.text + length (pool_text (made text i kind from len (end + length g.text)))) nothing_yet 0 next (drop next text))
    unfolding shown made pick pooled token
    left-token n = go (ℕ_discrete kind 2)
      where
        go : Dec (kind ≡ 2)
            → lex end g 0 i (drop i text)
            ≡ prepend (flush end g ++ (made text i kind from len (end + length g.text) ∷ []))
            (lex (end + length g.text + length (pool_text (made text i kind from len (end + length g.text)))) nothing_yet 0 next (drop next text))
        go (yes q) =
            let x : lexeme_at text i ≡ reference (take len (drop from text)) (next - (i + 1)) = is_lexeme n ∙ rw q in
            lex-here text i end g h ∙ lex-reference end g i (get_or text i 0) (drop (i + 1) text) (take len (drop from text)) (next - (i + 1)) x
            ∙ rw (q, lex-next (end + length g.text + length (take len (drop from text))) nothing_yet)
        go (no q) =
            let x = shown-mark n q in
            let z : end + length g.text + 0 ≡ end + length g.text = omega arith in
            lex-here text i end g h ∙ lex-mark end g i (get_or text i 0) (drop (i + 1) text) kind (next - (i + 1)) x
            ∙ rw (ne_eqb kind 2 q, lt-leb kind 2 (mark-above x), z, lex-next (end + length g.text) nothing_yet)

-- what is left at place i: tokens before it, and Text that is being gathered
pub record Left (text : List ℕ) (i : ℕ) : Type 0 where
  pub ts : List Token
  pub end : ℕ
  pub g : Gathered
  pub here : i ≤ length text
  pub rest : tokens text ≡ prepend ts (lex end g 0 i (drop i text))

-- a reference that can't be lexed at place i
module _ (text : List ℕ) (i : ℕ) (x : LexError) (h : i < length text) (b : lexeme_at text i ≡ bad x) where
  pub left-bad : (end : ℕ) (g : Gathered) → lex end g 0 i (drop i text) ≡ refused (lex_error x i)
  left-bad end g = lex-here text i end g h ∙ lex-bad end g i (get_or text i 0) (drop (i + 1) text) x b

  pub left-refused : Left text i → tokens text ≡ refused (lex_error x i)
  unfolding prepend
  left-refused L = L.rest ∙ ap (prepend L.ts) (left-bad L.end L.g)
