-- Laws of lexing: its steps; no more tokens than bytes, and no more text than bytes; each name stands in the pool at its own place. Assumes nothing.
use Prim.Native.Nat.{ℕ, zero, suc, ◌+◌, ◌-◌, ◌<◌, ◌≤◌}
use mathlib.Core.Path.{◌≡◌, refl, ap, sym, ◌∙◌, subst}
use mathlib.Core.Bool.{Bool, true, false, ◌&&◌, not}
use mathlib.Core.List.{List, [], ◌∷◌, ◌++◌, append_assoc, append-nil}
use native.Mathlib.Omega.{arith}
use lib.ListN.{length, take, drop, length-append, length-drop}
use lib.Seq.{length-take-le, take_at, drop_at}
use lib.Dec.{eqb}
use borrow.Author.Tests.{lt-leb}
use Rattle.rules.specs.Bytes.{is, pick, run}
use Rattle.rules.specs.Tokens.{Token, token, variable_kind, pooled}
use Rattle.rules.specs.Numbers.{LexError, lex_error, Result, refused, ok}
use Rattle.rules.specs.Lexing.{Class, Lexeme, chars, reference, mark, bad, Gathered, nothing_yet, gather, is_identifier, is_line_end, class, second, after_backslash, after_name, after_brace, after_dollar, comment, lexeme, prepend, text_token, flush, lex, tokens, pool_of}
use Rattle.rules.proofs.TableLaws.{ok-one, refused-ok}

-- a lexeme takes bytes that are there, and brings no more text than it takes
abbrev pub Fits : List ℕ → Lexeme → Type 0
Fits bs (chars cs n) = (n ≤ length bs) × (length cs ≤ suc n)
Fits bs (reference name n) = (n ≤ length bs) × (length name ≤ n)
Fits bs (mark kind n) = (n ≤ length bs) × (variable_kind < kind)
Fits bs (bad e) = Unit {0}

pick-fits : (bs : List ℕ) (b : Bool) (x y : Lexeme) → Fits bs x → Fits bs y → Fits bs (pick b x y)
unfolding pick
pick-fits bs true x y h k = h
pick-fits bs false x y h k = k

pub second-le : (a : ℕ) (bs : List ℕ) → second a bs ≤ length bs
unfolding second pick
second-le a [] = omega arith
second-le a (b ∷ bs) = go (is_line_end b && not (eqb a b)) refl
  where
    go : (t : Bool) → (is_line_end b && not (eqb a b)) ≡ t → second a (b ∷ bs) ≤ length (b ∷ bs)
    go true q = rw (q, second) (omega arith)
    go false q = rw (q, second) (omega arith)

pub run-le : (f : ℕ → Bool) (bs : List ℕ) → run f bs ≤ length bs
unfolding run
run-le f [] = omega arith
run-le f (b ∷ bs) = go (f b) refl (run-le f bs)
  where
    go : (t : Bool) → f b ≡ t → run f bs ≤ length bs → run f (b ∷ bs) ≤ length (b ∷ bs)
    go true q h = rw (q, run) (omega arith)
    go false q h = rw (q, run) (omega arith)

backslash-fits : (bs : List ℕ) → Fits bs (after_backslash bs)
unfolding after_backslash
backslash-fits [] = (omega arith, omega arith)
backslash-fits (b ∷ bs) =
    pick-fits (b ∷ bs) (is "#" b) _ _ (omega arith, omega arith)
    (pick-fits (b ∷ bs) (is_line_end b) _ _ (omega (arith, second-le b bs), omega arith) (omega arith, omega arith))

name-fits : (a : ℕ) (name rest bs : List ℕ) → length name + length rest ≡ length bs → Fits (a ∷ bs) (after_name name rest)
unfolding after_name
name-fits a name [] bs h = tt
name-fits a name (b ∷ rest) bs h = pick-fits (a ∷ bs) (is "}" b) _ _ (omega arith, omega arith) tt

brace-fits : (a : ℕ) (bs : List ℕ) → Fits (a ∷ bs) (after_brace bs)
unfolding after_brace
brace-fits a bs =
    let n = run is_identifier bs in
    let h : n ≤ length bs = run-le is_identifier bs in
    name-fits a (take n bs) (drop n bs) bs (omega (arith, h, length-take-le n bs h, length-drop n bs))

dollar-fits : (a : ℕ) (bs : List ℕ) → Fits bs (after_dollar a bs)
unfolding after_dollar
dollar-fits a [] = (omega arith, omega arith)
dollar-fits a (b ∷ bs) = pick-fits (b ∷ bs) (is "{" b) _ _ (brace-fits b bs) (pick-fits (b ∷ bs) (is "$" b) _ _ (omega arith, omega arith) (omega arith, omega arith))

pub lexeme-fits : (c : Class) (b : ℕ) (bs : List ℕ) → Fits bs (lexeme c b bs)
unfolding lexeme comment
lexeme-fits Class.other b bs = (omega arith, omega arith)
lexeme-fits Class.identifier b bs = (omega arith, omega arith)
lexeme-fits Class.blank b bs = (omega arith, omega arith)
lexeme-fits Class.line_end b bs = (second-le b bs, omega arith)
lexeme-fits Class.hash b bs = (run-le (λ x. not (is_line_end x)) bs, omega arith)
lexeme-fits Class.dollar b bs = dollar-fits b bs
lexeme-fits Class.open_brace b bs = (omega arith, omega arith)
lexeme-fits Class.close_brace b bs = (omega arith, omega arith)
lexeme-fits Class.backslash b bs = backslash-fits bs
lexeme-fits Class.equals b bs = (omega arith, omega arith)
lexeme-fits Class.colon b bs = (omega arith, omega arith)
lexeme-fits Class.single b bs = (omega arith, omega arith)
lexeme-fits Class.double b bs = (omega arith, omega arith)

-- a step of the lexer, as laws
pub lex-chars : (end : ℕ) (g : Gathered) (at b : ℕ) (bs cs : List ℕ) (n : ℕ) → lexeme (class b) b bs ≡ chars cs n
    → lex end g 0 at (b ∷ bs) ≡ lex end (gather g cs at) n (suc at) bs
unfolding lex
lex-chars end g at b bs cs n q = rw (q, lex)

pub lex-reference : (end : ℕ) (g : Gathered) (at b : ℕ) (bs name : List ℕ) (n : ℕ) → lexeme (class b) b bs ≡ reference name n
    → lex end g 0 at (b ∷ bs)
    ≡ prepend (flush end g ++ (token variable_kind name (end + length g.text) at ∷ [])) (lex (end + length g.text + length name) nothing_yet n (suc at) bs)
unfolding lex
lex-reference end g at b bs name n q = rw (q, lex)

pub lex-mark : (end : ℕ) (g : Gathered) (at b : ℕ) (bs : List ℕ) (kind n : ℕ) → lexeme (class b) b bs ≡ mark kind n
    → lex end g 0 at (b ∷ bs) ≡ prepend (flush end g ++ (token kind (b ∷ []) 0 at ∷ [])) (lex (end + length g.text) nothing_yet n (suc at) bs)
unfolding lex
lex-mark end g at b bs kind n q = rw (q, lex)

pub lex-bad : (end : ℕ) (g : Gathered) (at b : ℕ) (bs : List ℕ) (e : LexError) → lexeme (class b) b bs ≡ bad e → lex end g 0 at (b ∷ bs) ≡ refused (lex_error e at)
unfolding lex
lex-bad end g at b bs e q = rw (q, lex)

-- bytes to be skipped are dropped
pub lex-skip : (end : ℕ) (g : Gathered) (n at : ℕ) (bs : List ℕ) → lex end g n at bs ≡ lex end g 0 (at + n) (drop n bs)
unfolding lex
lex-skip end g zero at bs = let z : at ≡ at + 0 = omega arith in ap (λ (k : ℕ). lex end g 0 k bs) z
lex-skip end g (suc n) at [] = refl
lex-skip end g (suc n) at (b ∷ bs) =
    let z : suc at + n ≡ at + suc n = omega arith in
    lex-skip end g n (suc at) bs ∙ ap (λ (k : ℕ). lex end g 0 k (drop n bs)) z

pub prepend-ok : (ts : List Token) (r : Result (List Token)) (us : List Token) → prepend ts r ≡ ok us → (vs : List Token) × (r ≡ ok vs) × (us ≡ ts ++ vs)
unfolding prepend
prepend-ok ts (refused r) us e = absurd (refused-ok e)
prepend-ok ts (ok vs) us e = (vs, refl, sym (ok-one e))

-- the text that a token has in the pool
abbrev pub pool_text : Token → List ℕ
pool_text t = pick (pooled t) t.text []

pub pool-append : (ts us : List Token) → pool_of (ts ++ us) ≡ pool_of ts ++ pool_of us
unfolding pool_of
pool-append [] us = refl
pool-append (t ∷ ts) us = ap (λ (l : List ℕ). pool_text t ++ l) (pool-append ts us) ∙ sym (append_assoc (pool_text t) (pool_of ts) (pool_of us))

pub pool-one : (t : Token) → pool_of (t ∷ []) ≡ pool_text t
unfolding pool_of
pool-one t = append-nil (pool_text t)

-- a token of a kind above 2 has no text in the pool
pub unpooled : (kind : ℕ) (s : List ℕ) (place source : ℕ) → variable_kind < kind → pooled (token kind s place source) ≡ false
unfolding pooled token
unpooled kind s place source h = lt-leb kind variable_kind h

pub flush-le : (end : ℕ) (g : Gathered) → length (flush end g) ≤ length g.text
unfolding flush text_token
flush-le end g = go g.text
  where
    go : (s : List ℕ) → length (text_token end g.source s) ≤ length s
    go [] = omega arith
    go (b ∷ bs) = omega arith

pub flush-pool : (end : ℕ) (g : Gathered) → pool_of (flush end g) ≡ g.text
unfolding flush text_token pool_of pooled token pick
flush-pool end g = go g.text
  where
    go : (s : List ℕ) → pool_of (text_token end g.source s) ≡ s
    go [] = refl
    go (b ∷ bs) = append-nil (b ∷ bs)

-- the room that the tokens take
abbrev Room : List Token → ℕ → Type 0
Room ts n = (length ts ≤ n) × (length (pool_of ts) ≤ n)

-- a token more, with the text gathered before it
room-more : (end : ℕ) (g : Gathered) (t : Token) (us : List Token) (n k : ℕ) → length (pool_text t) ≤ n → Room us k
    → Room (flush end g ++ (t ∷ []) ++ us) (length g.text + suc n + k)
room-more end g t us n k h r = (
  simp length-append (omega (arith, flush-le end g, r.0)),
  simp (pool-append, length-append, pool-one) (omega (arith, ap length (flush-pool end g), r.1)),
)

lex-room : (bs : List ℕ) (end : ℕ) (g : Gathered) (skip at k : ℕ) (ts : List Token) → skip + k ≡ length bs → lex end g skip at bs ≡ ok ts → Room ts (length g.text + k)
unfolding lex nothing_yet gather pooled token pick
lex-room [] end g skip at k ts h e =
    subst (λ (us : List Token). Room us (length g.text + k)) (ok-one e) (omega (arith, flush-le end g), omega (arith, ap length (flush-pool end g)))
lex-room (b ∷ bs) end g (suc skip) at k ts h e = lex-room bs end g skip (suc at) k ts (omega arith) e
lex-room (b ∷ bs) end g zero at k ts h e =
    go (lexeme (class b) b bs) refl (lexeme-fits (class b) b bs) (λ end' g' n k' us h' e'. lex-room bs end' g' n (suc at) k' us h' e')
  where
    more : (t : Token) (n end' : ℕ) → ((end' : ℕ) (g' : Gathered) (n k' : ℕ) (us : List Token) → n + k' ≡ length bs → lex end' g' n (suc at) bs ≡ ok us → Room us (length g'.text + k'))
        → n ≤ length bs → length (pool_text t) ≤ n → prepend (flush end g ++ (t ∷ [])) (lex end' nothing_yet n (suc at) bs) ≡ ok ts → Room ts (length g.text + k)
    more t n end' ih l m e' =
        let x = prepend-ok (flush end g ++ (t ∷ [])) (lex end' nothing_yet n (suc at) bs) ts e' in
        let r = ih end' nothing_yet n (length bs - n) x.0 (omega arith) x.1 in
        let y = room-more end g t x.0 n (length bs - n) m (omega (arith, r.0), omega (arith, r.1)) in
        rw x.2 (omega (arith, y.0), omega (arith, y.1))

    go : (x : Lexeme) → lexeme (class b) b bs ≡ x → Fits bs x
        → ((end' : ℕ) (g' : Gathered) (n k' : ℕ) (us : List Token) → n + k' ≡ length bs → lex end' g' n (suc at) bs ≡ ok us → Room us (length g'.text + k')) → Room ts (length g.text + k)
    go (chars cs n) q f ih =
        let r = ih end (gather g cs at) n (length bs - n) ts (omega arith) (sym (lex-chars end g at b bs cs n q) ∙ e) in
        (omega (arith, r.0, length-append g.text cs), omega (arith, r.1, length-append g.text cs))
    go (reference name n) q f ih = more (token variable_kind name (end + length g.text) at) n (end + length g.text + length name) ih f.0 f.1 (sym (lex-reference end g at b bs name n q) ∙ e)
    go (mark kind n) q f ih =
        more (token kind (b ∷ []) 0 at) n (end + length g.text) ih f.0 (rw (unpooled kind (b ∷ []) 0 at f.1) (omega arith)) (sym (lex-mark end g at b bs kind n q) ∙ e)
    go (bad r) q f ih = absurd (refused-ok (sym (lex-bad end g at b bs r q) ∙ e))

-- a text of n bytes has at most n tokens, and their text is at most n bytes
pub tokens-room : (input : List ℕ) (ts : List Token) → tokens input ≡ ok ts → (length ts ≤ length input) × (length (pool_of ts) ≤ length input)
unfolding tokens nothing_yet
tokens-room input ts e = let r = lex-room input 0 nothing_yet 0 0 (length input) ts (omega arith) e in (omega (arith, r.0), omega (arith, r.1))

-- a token with text in the pool stands where the texts before it end; another is one byte, and has no place
abbrev pub Stands : Bool → ℕ → Token → Type 0
Stands true end t = t.place ≡ end
Stands false end t = (t.place ≡ 0) × ((b : ℕ) × (t.text ≡ b ∷ []))

abbrev pub Placed : ℕ → List Token → Type 0
Placed end [] = Unit {0}
Placed end (t ∷ ts) = Stands (pooled t) end t × Placed (end + length (pool_text t)) ts

-- the text gathered, a token, and the rest
placed-more : (end : ℕ) (g : Gathered) (t : Token) (us : List Token) (next : ℕ) → Stands (pooled t) (end + length g.text) t
    → next ≡ end + length g.text + length (pool_text t) → Placed next us → Placed end (flush end g ++ (t ∷ []) ++ us)
unfolding flush text_token pooled token pick
placed-more end g t us next h e p = go g.text h e
  where
    go : (s : List ℕ) → Stands (pooled t) (end + length s) t → next ≡ end + length s + length (pool_text t) → Placed end (text_token end g.source s ++ (t ∷ []) ++ us)
    go [] h' e' =
        let z : end + 0 ≡ end = omega arith in
        let y : next ≡ end + length (pool_text t) = omega (arith, e') in
        (subst (λ (k : ℕ). Stands (pooled t) k t) z h', subst (λ (k : ℕ). Placed k us) y p)
    go (b ∷ bs) h' e' = (refl, (h', subst (λ (k : ℕ). Placed k us) e' p))

flush-placed : (end : ℕ) (g : Gathered) → Placed end (flush end g)
unfolding flush text_token pooled token
flush-placed end g = go g.text
  where
    go : (s : List ℕ) → Placed end (text_token end g.source s)
    go [] = tt
    go (b ∷ bs) = (refl, tt)

lex-placed : (bs : List ℕ) (end : ℕ) (g : Gathered) (skip at : ℕ) (ts : List Token) → lex end g skip at bs ≡ ok ts → Placed end ts
unfolding lex nothing_yet gather pooled token pick
lex-placed [] end g skip at ts e = subst (λ (us : List Token). Placed end us) (ok-one e) (flush-placed end g)
lex-placed (b ∷ bs) end g (suc skip) at ts e = lex-placed bs end g skip (suc at) ts e
lex-placed (b ∷ bs) end g zero at ts e = go (lexeme (class b) b bs) refl (lexeme-fits (class b) b bs) (λ end' g' n us e'. lex-placed bs end' g' n (suc at) us e')
  where
    more : (t : Token) (n next : ℕ) → ((end' : ℕ) (g' : Gathered) (n : ℕ) (us : List Token) → lex end' g' n (suc at) bs ≡ ok us → Placed end' us)
        → Stands (pooled t) (end + length g.text) t → next ≡ end + length g.text + length (pool_text t)
        → prepend (flush end g ++ (t ∷ [])) (lex next nothing_yet n (suc at) bs) ≡ ok ts → Placed end ts
    more t n next ih h l e' =
        let x = prepend-ok (flush end g ++ (t ∷ [])) (lex next nothing_yet n (suc at) bs) ts e' in
        rw x.2 (placed-more end g t x.0 next h l (ih next nothing_yet n x.0 x.1))

    go : (x : Lexeme) → lexeme (class b) b bs ≡ x → Fits bs x → ((end' : ℕ) (g' : Gathered) (n : ℕ) (us : List Token) → lex end' g' n (suc at) bs ≡ ok us → Placed end' us) → Placed end ts
    go (chars cs n) q f ih = ih end (gather g cs at) n ts (sym (lex-chars end g at b bs cs n q) ∙ e)
    go (reference name n) q f ih =
        more (token variable_kind name (end + length g.text) at) n (end + length g.text + length name) ih refl refl (sym (lex-reference end g at b bs name n q) ∙ e)
    go (mark kind n) q f ih =
        let u = unpooled kind (b ∷ []) 0 at f.1 in
        more (token kind (b ∷ []) 0 at) n (end + length g.text) ih (rw u (refl, (b, refl))) (rw u (omega arith)) (sym (lex-mark end g at b bs kind n q) ∙ e)
    go (bad r) q f ih = absurd (refused-ok (sym (lex-bad end g at b bs r q) ∙ e))

pub tokens-placed : (input : List ℕ) (ts : List Token) → tokens input ≡ ok ts → Placed 0 ts
unfolding tokens
tokens-placed input ts e = lex-placed input 0 nothing_yet 0 0 ts e

-- t is a token of the text
pub data In : Token → List Token → Type 0 where
  first : {t : Token} {ts : List Token} → In t (t ∷ ts)
  later : {t u : Token} {ts : List Token} → In t ts → In t (u ∷ ts)

in-pool : {t : Token} {ts : List Token} (end : ℕ) (before : List ℕ) → length before ≡ end → Placed end ts → In t ts → pooled t ≡ true
    → take (length t.text) (drop t.place (before ++ pool_of ts)) ≡ t.text
unfolding pool_of pick
in-pool end before l p (In.first {t} {ts}) f =
    let q : t.place ≡ end = rw f at p.0 in
    let x : pool_text t ≡ t.text = rw f refl in
    ap (λ (y : List ℕ). take (length t.text) (drop t.place (before ++ (y ++ pool_of ts)))) x
    ∙ ap (λ (y : List ℕ). take (length t.text) y) (drop_at before (t.text ++ pool_of ts) t.place (l ∙ sym q)) ∙ take_at t.text (pool_of ts) (length t.text) refl
in-pool end before l p (In.later {t} {u} {ts} m) f =
    ap (λ (x : List ℕ). take (length t.text) (drop t.place x)) (sym (append_assoc before (pool_text u) (pool_of ts)))
    ∙ in-pool (end + length (pool_text u)) (before ++ pool_text u) (length-append before (pool_text u) ∙ ap (λ (k : ℕ). k + length (pool_text u)) l) p.1 m f

-- a name of a text stands in its pool at its own place
pub name-in-pool : (input : List ℕ) (ts : List Token) → tokens input ≡ ok ts → (t : Token) → In t ts → pooled t ≡ true
    → take (length t.text) (drop t.place (pool_of ts)) ≡ t.text
name-in-pool input ts e t m f = in-pool 0 [] refl (tokens-placed input ts e) m f
