-- The tokens of a text can be parsed: none has the kind of those dropped. Assumes nothing.
use Prim.Native.Nat.{ℕ, zero, suc, ◌+◌, ◌<◌}
use mathlib.Core.Path.{◌≡◌, refl, sym, ◌∙◌, ap, subst}
use mathlib.Core.List.{List, [], ◌∷◌, ◌++◌}
use native.Mathlib.Omega.{arith}
use lib.ListN.{length}
use Rattle.rules.specs.Tokens.{Token, token, variable_kind}
use Rattle.rules.specs.Numbers.{ok}
use Rattle.rules.specs.Lexing.{Lexeme, chars, reference, mark, bad, Gathered, nothing_yet, gather, class, lexeme, text_token, flush, prepend, lex, tokens}
use Rattle.rules.proofs.TableLaws.{ok-one, refused-ok}
use Rattle.rules.proofs.LexingLaws.{Fits, lexeme-fits, lex-chars, lex-reference, lex-mark, lex-bad, prepend-ok}
use Rattle.tokens.specs.Entries.{decode, token_at}
use Rattle.tokens.proofs.TokenLaws.{kind-at, length-decode}
use Rattle.parser.specs.Parse.{Fresh}

-- each has a kind
abbrev Kinded : List Token → Type 0
Kinded [] = Unit {0}
Kinded (t ∷ ts) = (0 < t.kind) × Kinded ts

kinded-append : (ts us : List Token) → Kinded ts → Kinded us → Kinded (ts ++ us)
kinded-append [] us h k = k
kinded-append (t ∷ ts) us h k = (h.0, kinded-append ts us h.1 k)

flush-kinded : (end : ℕ) (g : Gathered) → Kinded (flush end g)
unfolding flush text_token token
flush-kinded end g = go g.text
  where
    go : (s : List ℕ) → Kinded (text_token end g.source s)
    go [] = tt
    go (b ∷ bs) = (omega arith, tt)

lex-kinded : (bs : List ℕ) (end : ℕ) (g : Gathered) (skip at : ℕ) (ts : List Token) → lex end g skip at bs ≡ ok ts → Kinded ts
unfolding lex nothing_yet gather token
lex-kinded [] end g skip at ts e = subst Kinded (ok-one e) (flush-kinded end g)
lex-kinded (b ∷ bs) end g (suc skip) at ts e = lex-kinded bs end g skip (suc at) ts e
lex-kinded (b ∷ bs) end g zero at ts e = go (lexeme (class b) b bs) refl (lexeme-fits (class b) b bs) (λ end' g' n us e'. lex-kinded bs end' g' n (suc at) us e')
  where
    more : (t : Token) (n next : ℕ) → ((end' : ℕ) (g' : Gathered) (n : ℕ) (us : List Token) → lex end' g' n (suc at) bs ≡ ok us → Kinded us) → 0 < t.kind
        → prepend (flush end g ++ (t ∷ [])) (lex next nothing_yet n (suc at) bs) ≡ ok ts → Kinded ts
    more t n next ih h e' =
        let x = prepend-ok (flush end g ++ (t ∷ [])) (lex next nothing_yet n (suc at) bs) ts e' in
        rw x.2 (kinded-append (flush end g ++ (t ∷ [])) x.0 (kinded-append (flush end g) (t ∷ []) (flush-kinded end g) (h, tt)) (ih next nothing_yet n x.0 x.1))

    go : (x : Lexeme) → lexeme (class b) b bs ≡ x → Fits bs x → ((end' : ℕ) (g' : Gathered) (n : ℕ) (us : List Token) → lex end' g' n (suc at) bs ≡ ok us → Kinded us) → Kinded ts
    go (chars cs n) q f ih = ih end (gather g cs at) n ts (sym (lex-chars end g at b bs cs n q) ∙ e)
    go (reference name n) q f ih =
        more (token variable_kind name (end + length g.text) at) n (end + length g.text + length name) ih (omega arith) (sym (lex-reference end g at b bs name n q) ∙ e)
    go (mark kind n) q f ih = more (token kind (b ∷ []) 0 at) n (end + length g.text) ih (omega (arith, f.1)) (sym (lex-mark end g at b bs kind n q) ∙ e)
    go (bad r) q f ih = absurd (refused-ok (sym (lex-bad end g at b bs r q) ∙ e))

kind-of : (ts : List Token) (k : ℕ) → k < length ts → Kinded ts → 0 < (token_at ts k).kind
kind-of [] k h a = absurd (omega arith)
kind-of (t ∷ ts) zero h a = a.0
kind-of (t ∷ ts) (suc k) h a = kind-of ts k (omega arith) a.1

-- THE LAW: where workspace and pool hold the tokens of a text, they can be parsed
pub lexed-fresh : (text : List ℕ) (ts : List Token) (count : ℕ) (ws pool : List ℕ) → tokens text ≡ ok ts → decode count ws pool ≡ ts → Fresh count 0 ws
unfolding tokens
lexed-fresh text ts count ws pool e d k a b z =
    let l : k < length ts = omega (arith, length-decode count ws pool, ap length d) in
    let h = kind-of ts k l (lex-kinded text 0 nothing_yet 0 0 ts e) in
    let q : (token_at ts k).kind ≡ 0 = ap (λ (us : List Token). (token_at us k).kind) (sym d) ∙ sym (kind-at count ws pool k) ∙ z in
    omega arith
