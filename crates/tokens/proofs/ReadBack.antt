-- What the tokens of a text were written as is read back as those tokens. Assumes nothing.
use Prim.Native.Nat.{ℕ, zero, suc, ◌+◌, ◌%◌, ◌<◌}
use mathlib.Core.Path.{◌≡◌, refl, ap, ap₂, sym, ◌∙◌, subst}
use mathlib.Core.Bool.{Bool, true, false}
use mathlib.Core.List.{List, [], ◌∷◌, ◌++◌, append_assoc}
use native.Mathlib.Omega.{arith}
use native.Mathlib.Decide.{dec_lt}
use lib.ListN.{length, drop, get_or, length-append}
use lib.Seq.{drop_at, take_at}
use lib.Dec.{leb}
use Rattle.rules.specs.Bytes.{pick, overwrite}
use Rattle.rules.specs.Tokens.{Token, token, variable_kind, pooled}
use Rattle.rules.specs.Numbers.{ok}
use Rattle.rules.specs.Lexing.{Class, Lexeme, chars, reference, mark, bad, Gathered, nothing_yet, gather, class, lexeme, text_token, flush, prepend, lex, tokens, pool_of}
use Rattle.rules.proofs.TableLaws.{ok-one, refused-ok}
use Rattle.rules.proofs.LexingLaws.{Fits, lexeme-fits, lex-chars, lex-reference, lex-mark, lex-bad, prepend-ok, unpooled, Stands, Placed, tokens-placed}
use Rattle.scan.proofs.Classes.{is-other}
use Rattle.tokens.specs.Entries.{entry, entries, from_entry, decode, pool_text}

-- a token that has no text in the pool is a byte
abbrev Byte : Bool → Token → Type 0
Byte true t = Unit {0}
Byte false t = get_or t.text 0 0 < 256

abbrev Bytes : List Token → Type 0
Bytes [] = Unit {0}
Bytes (t ∷ ts) = Byte (pooled t) t × Bytes ts

bytes-append : (ts us : List Token) → Bytes ts → Bytes us → Bytes (ts ++ us)
bytes-append [] us h k = k
bytes-append (t ∷ ts) us h k = (h.0, bytes-append ts us h.1 k)

flush-bytes : (end : ℕ) (g : Gathered) → Bytes (flush end g)
unfolding flush text_token pooled token
flush-bytes end g = go g.text
  where
    go : (s : List ℕ) → Bytes (text_token end g.source s)
    go [] = tt
    go (b ∷ bs) = (tt, tt)

-- the token of four entries that were written of t
one : (t : Token) (end : ℕ) (p q : List ℕ) → length p ≡ end → Stands (pooled t) end t → Byte (pooled t) t
    → from_entry t.kind (pick (pooled t) t.place (get_or t.text 0 0)) (length t.text) t.source (p ++ (pool_text t ++ q)) ≡ t
unfolding from_entry token pooled pick
one t end p q l s y = go (leb t.kind variable_kind) refl s y
  where
    go : (b : Bool) → leb t.kind variable_kind ≡ b → Stands b end t → Byte b t
        → from_entry t.kind (pick (pooled t) t.place (get_or t.text 0 0)) (length t.text) t.source (p ++ (pool_text t ++ q)) ≡ t
    go true e h k = rw (e, drop_at p (t.text ++ q) t.place (l ∙ sym h), take_at t.text q (length t.text) refl)
    go false e h k =
        let m : get_or t.text 0 0 % 256 ≡ get_or t.text 0 0 = omega arith in
        let x : get_or t.text 0 0 ∷ [] ≡ t.text = rw h.1.1 in
        rw (e, m, x, ← h.0)

back : (ts : List Token) (end : ℕ) (p q x : List ℕ) → length p ≡ end → Placed end ts → Bytes ts → decode (length ts) (entries ts ++ x) (p ++ (pool_of ts ++ q)) ≡ ts
unfolding decode entries entry pool_of
back [] end p q x l h k = refl
back (t ∷ ts) end p q x l h k =
    let a : p ++ (pool_text t ++ pool_of ts ++ q) ≡ p ++ (pool_text t ++ (pool_of ts ++ q)) = rw (append_assoc (pool_text t) (pool_of ts) q) in
    let b : p ++ (pool_text t ++ pool_of ts ++ q) ≡ p ++ pool_text t ++ (pool_of ts ++ q) = a ∙ sym (append_assoc p (pool_text t) (pool_of ts ++ q)) in
    let m : length (p ++ pool_text t) ≡ end + length (pool_text t) = omega (arith, length-append p (pool_text t)) in
    ap₂ {C = List Token} (λ (u : Token) (us : List Token). u ∷ us)
    (ap (λ (l : List ℕ). from_entry t.kind (pick (pooled t) t.place (get_or t.text 0 0)) (length t.text) t.source l) a ∙ one t end p (pool_of ts ++ q) l h.0 k.0)
    (ap (λ (l : List ℕ). decode (length ts) (entries ts ++ x) l) b ∙ back ts (end + length (pool_text t)) (p ++ pool_text t) q x m h.1 k.1)

-- a mark is made of a byte
mark-byte : (b : ℕ) (bs : List ℕ) (kind n : ℕ) → lexeme (class b) b bs ≡ mark kind n → b < 256
unfolding lexeme
mark-byte b bs kind n e = go (dec_lt b 256)
  where
    go : Dec (b < 256) → b < 256
    go (yes h) = h
    go (no h) =
        let q : class b ≡ Class.other = is-other b (omega arith) in
        let x : chars (b ∷ []) 0 ≡ mark kind n = sym (ap (λ (c : Class). lexeme c b bs) q) ∙ e in
        let z : ◌≡◌ {A = ℕ} 0 1 = cc in absurd (omega arith)

lex-bytes : (bs : List ℕ) (end : ℕ) (g : Gathered) (skip at : ℕ) (ts : List Token) → lex end g skip at bs ≡ ok ts → Bytes ts
unfolding lex nothing_yet gather pooled token pick
lex-bytes [] end g skip at ts e = subst Bytes (ok-one e) (flush-bytes end g)
lex-bytes (b ∷ bs) end g (suc skip) at ts e = lex-bytes bs end g skip (suc at) ts e
lex-bytes (b ∷ bs) end g zero at ts e = go (lexeme (class b) b bs) refl (lexeme-fits (class b) b bs) (λ end' g' n us e'. lex-bytes bs end' g' n (suc at) us e')
  where
    more : (t : Token) (n next : ℕ) → ((end' : ℕ) (g' : Gathered) (n : ℕ) (us : List Token) → lex end' g' n (suc at) bs ≡ ok us → Bytes us) → Byte (pooled t) t
        → prepend (flush end g ++ (t ∷ [])) (lex next nothing_yet n (suc at) bs) ≡ ok ts → Bytes ts
    more t n next ih h e' =
        let x = prepend-ok (flush end g ++ (t ∷ [])) (lex next nothing_yet n (suc at) bs) ts e' in
        rw x.2 (bytes-append (flush end g ++ (t ∷ [])) x.0 (bytes-append (flush end g) (t ∷ []) (flush-bytes end g) (h, tt)) (ih next nothing_yet n x.0 x.1))

    go : (x : Lexeme) → lexeme (class b) b bs ≡ x → Fits bs x → ((end' : ℕ) (g' : Gathered) (n : ℕ) (us : List Token) → lex end' g' n (suc at) bs ≡ ok us → Bytes us) → Bytes ts
    go (chars cs n) q f ih = ih end (gather g cs at) n ts (sym (lex-chars end g at b bs cs n q) ∙ e)
    go (reference name n) q f ih =
        more (token variable_kind name (end + length g.text) at) n (end + length g.text + length name) ih tt (sym (lex-reference end g at b bs name n q) ∙ e)
    go (mark kind n) q f ih =
        more (token kind (b ∷ []) 0 at) n (end + length g.text) ih (rw (unpooled kind (b ∷ []) 0 at f.1) (mark-byte b bs kind n q)) (sym (lex-mark end g at b bs kind n q) ∙ e)
    go (bad r) q f ih = absurd (refused-ok (sym (lex-bad end g at b bs r q) ∙ e))

-- THE LAW: the tokens of a text, written as entries and pool, are read back
pub read_back : (text ws pool : List ℕ) (ts : List Token) → tokens text ≡ ok ts → decode (length ts) (overwrite (entries ts) ws) (overwrite (pool_of ts) pool) ≡ ts
unfolding tokens overwrite
read_back text ws pool ts e = back ts 0 [] (drop (length (pool_of ts)) pool) (drop (length (entries ts)) ws) refl (tokens-placed text ts e) (lex-bytes text 0 nothing_yet 0 0 ts e)
