-- Laws of the parts of tokens, of rows, and of what is kept. Assumes nothing.
use Prim.Native.Nat.{ℕ, zero, suc, ◌+◌, ◌*◌, ◌-◌, ◌≤◌, ◌<◌}
use mathlib.Core.Path.{◌≡◌, refl, sym, ◌∙◌, ap, ap₂}
use mathlib.Core.Bool.{Bool, true, false}
use mathlib.Core.List.{List, [], ◌∷◌, ◌++◌, map, append-nil}
use native.Mathlib.Decide.{dec_lt}
use native.Mathlib.Nat.{add-zero}
use native.Mathlib.Numerals.{add-one}
use native.Mathlib.Omega.{arith}
use lib.ListN.{length, get_or, take, drop, set, length-set}
use lib.Seq.{length-take-le, take-suc, drop-append-le, get_or-set_other}
use Rattle.rules.specs.Bytes.{pick}
use Rattle.rules.specs.Tokens.{Token, no_name, is_a}
use Rattle.rules.specs.Lines.{Part, as_part, listed}
use Rattle.scan.proofs.Lists.{cell_in, cell-past}
use Rattle.tokens.specs.Entries.{decode, token_at}
use Rattle.tokens.proofs.TokenLaws.{decode-same, decode-take}
use Rattle.workspace.specs.Map.{dropped_kind, parts_of, between, parts_between, starts_of, ends_of, arguments_from}
use Rattle.lines.specs.Rows.{has_parts, Keeps}
use Rattle.lines.proofs.Tokens.{between-drop}

pub parts-append : (ts us : List Token) → parts_of (ts ++ us) ≡ parts_of ts ++ parts_of us
unfolding parts_of pick
parts-append [] us = refl
parts-append (t ∷ ts) us = rw (parts-append ts us) (go (is_a dropped_kind t))
  where
    go : (b : Bool) → pick b (parts_of ts ++ parts_of us) (as_part t ∷ parts_of ts ++ parts_of us) ≡ pick b (parts_of ts) (as_part t ∷ parts_of ts) ++ parts_of us
    go true = refl
    go false = refl

-- tokens of which none was dropped
pub parts-map : (ts : List Token) → ((k : ℕ) → k < length ts → is_a dropped_kind (token_at ts k) ≡ false) → parts_of ts ≡ map as_part ts
unfolding parts_of pick
parts-map [] h = refl
parts-map (t ∷ ts) h = rw (h 0 (omega arith)) (ap (λ (l : List Part). as_part t ∷ l) (parts-map ts (λ k q. h (suc k) (omega arith))))

between-snoc : (ts : List Token) (a i : ℕ) → a ≤ i → i < length ts → between ts a (i + 1) ≡ between ts a i ++ (token_at ts i ∷ [])
between-snoc ts a i h l =
    let z : length (take i ts) ≡ i = length-take-le i ts (omega arith) in
    between-drop ts a (i + 1) ∙ ap (λ (k : ℕ). drop a (take k ts)) (add-one i) ∙ ap (drop a) (take-suc ts i no_name l)
    ∙ drop-append-le a (take i ts) (token_at ts i ∷ []) (omega arith) ∙ ap (λ (x : List Token). x ++ (token_at ts i ∷ [])) (sym (between-drop ts a i))

-- one token more
pub parts_more : (ts : List Token) (a i : ℕ) → a ≤ i → i < length ts → is_a dropped_kind (token_at ts i) ≡ false → parts_between ts a (i + 1) ≡ parts_between ts a i ++ (as_part (token_at ts i) ∷ [])
unfolding parts_of pick
parts_more ts a i h l d = ap parts_of (between-snoc ts a i h l) ∙ parts-append (between ts a i) (token_at ts i ∷ []) ∙ rw d

pub parts-dropped : (ts : List Token) (a i : ℕ) → a ≤ i → i < length ts → is_a dropped_kind (token_at ts i) ≡ true → parts_between ts a (i + 1) ≡ parts_between ts a i
unfolding parts_of pick
parts-dropped ts a i h l d = ap parts_of (between-snoc ts a i h l) ∙ parts-append (between ts a i) (token_at ts i ∷ []) ∙ rw (d, append-nil)

pub parts_none : (ts : List Token) (a : ℕ) → parts_between ts a a ≡ []
unfolding parts_of
parts_none ts a = let e : a - a ≡ 0 = omega arith in rw e

-- what is read of the tokens before b rests on their entries
pub parts_same : (count : ℕ) (ws ws' pool : List ℕ) (a b : ℕ) → b ≤ count → ((k : ℕ) → k < 4 * b → get_or ws' k 0 ≡ get_or ws k 0) → parts_between (decode count ws' pool) a b ≡ parts_between (decode count ws pool) a b
parts_same count ws ws' pool a b h s =
    ap parts_of
    (between-drop (decode count ws' pool) a b
    ∙ ap (drop a) (sym (decode-take b count ws' pool h) ∙ decode-same b ws ws' pool s ∙ decode-take b count ws pool h)
    ∙ sym (between-drop (decode count ws pool) a b))

pub has-parts-more : (ps : List Part) (p : Part) → has_parts (ps ++ (p ∷ [])) ≡ true
unfolding has_parts
has-parts-more [] p = refl
has-parts-more (q ∷ ps) p = refl

pub listed-some : (ps : List Part) → has_parts ps ≡ true → listed ps ≡ ps ∷ []
unfolding has_parts listed
listed-some [] e = let z : ◌≡◌ {A = ℕ} 0 1 = cc in absurd (omega arith)
listed-some (p ∷ ps) e = refl

pub listed-none : (ps : List Part) → has_parts ps ≡ false → listed ps ≡ []
unfolding has_parts listed
listed-none [] e = refl
listed-none (p ∷ ps) e = let z : ◌≡◌ {A = ℕ} 0 1 = cc in absurd (omega arith)

-- rows
pub arguments-more : (ts : List Token) (starts ends : List ℕ) (i m : ℕ)
    → arguments_from ts starts ends i (suc m) ≡ arguments_from ts starts ends i m ++ (parts_between ts (get_or starts (i + m) 0) (get_or ends (i + m) 0) ∷ [])
unfolding arguments_from
arguments-more ts starts ends i zero = rw add-zero
arguments-more ts starts ends i (suc m) =
    let e : suc i + m ≡ i + suc m = omega arith in
    ap (λ (l : List (List Part)). parts_between ts (get_or starts i 0) (get_or ends i 0) ∷ l) (arguments-more ts starts ends (suc i) m ∙ rw e)

pub arguments-same : (ts ts' : List Token) (starts starts' ends ends' : List ℕ) (i m : ℕ)
    → ((k : ℕ) → i ≤ k → k < i + m → parts_between ts' (get_or starts' k 0) (get_or ends' k 0) ≡ parts_between ts (get_or starts k 0) (get_or ends k 0))
    → arguments_from ts' starts' ends' i m ≡ arguments_from ts starts ends i m
unfolding arguments_from
arguments-same ts ts' starts starts' ends ends' i zero h = refl
arguments-same ts ts' starts starts' ends ends' i (suc m) h =
    ap₂ (λ (x : List Part) (l : List (List Part)). x ∷ l) (h i (omega arith) (omega arith))
    (arguments-same ts ts' starts starts' ends ends' (suc i) m (λ k p q. h k (omega arith) (omega arith)))

-- cells of the columns of starts and ends
pub start-same : (n k : ℕ) (ws ws' : List ℕ) → (k < n → get_or ws' (5 * n + k) 0 ≡ get_or ws (5 * n + k) 0) → get_or (starts_of n ws') k 0 ≡ get_or (starts_of n ws) k 0
start-same n k ws ws' e = go (dec_lt k n)
  where
    go : Dec (k < n) → get_or (starts_of n ws') k 0 ≡ get_or (starts_of n ws) k 0
    go (yes h) = sym (cell_in ws' (5 * n) n k h) ∙ e h ∙ cell_in ws (5 * n) n k h
    go (no h) = sym (cell-past ws' (5 * n) n k (omega arith)) ∙ cell-past ws (5 * n) n k (omega arith)

pub end_same : (n k : ℕ) (ws ws' : List ℕ) → (k < n → get_or ws' (6 * n + k) 0 ≡ get_or ws (6 * n + k) 0) → get_or (ends_of n ws') k 0 ≡ get_or (ends_of n ws) k 0
end_same n k ws ws' e = go (dec_lt k n)
  where
    go : Dec (k < n) → get_or (ends_of n ws') k 0 ≡ get_or (ends_of n ws) k 0
    go (yes h) = sym (cell_in ws' (6 * n) n k h) ∙ e h ∙ cell_in ws (6 * n) n k h
    go (no h) = sym (cell-past ws' (6 * n) n k (omega arith)) ∙ cell-past ws (6 * n) n k (omega arith)

-- keeping
pub keeps-none : (n from to : ℕ) (ws : List ℕ) → Keeps n from to ws ws
keeps-none n from to ws = record { long = refl; same = λ k a b d. refl }

pub keeps_then : {n from to : ℕ} {ws ws' ws'' : List ℕ} → Keeps n from to ws ws' → Keeps n from to ws' ws'' → Keeps n from to ws ws''
keeps_then K L = record { long = L.long ∙ K.long; same = λ k a b d. L.same k a b d ∙ K.same k a b d }

pub keeps-wider : (n from to from' to' : ℕ) {ws ws' : List ℕ} → from' ≤ from → to ≤ to' → Keeps n from to ws ws' → Keeps n from' to' ws ws'
keeps-wider n from to from' to' h l K =
    record { long = K.long; same = λ k a b d. K.same k (λ x y. a (omega arith) (omega arith)) (λ x y. b (omega arith) (omega arith)) (λ x y. d (omega arith) (omega arith)) }

-- a store into an entry of a token, or a cell of it
pub keeps-token : (n from to i : ℕ) (ws : List ℕ) (x v : ℕ) → from ≤ i → i < to → 4 * i ≤ x → x < 4 * i + 4 → Keeps n from to ws (set ws x v)
keeps-token n from to i ws x v h l a b = record { long = length-set ws x v; same = λ k p q r. get_or-set_other ws x k v 0 (λ e. p (omega arith) (omega arith)) }

pub keeps-start : (n from to i : ℕ) (ws : List ℕ) (v : ℕ) → from ≤ i → i < to → Keeps n from to ws (set ws (5 * n + i) v)
keeps-start n from to i ws v h l = record { long = length-set ws (5 * n + i) v; same = λ k p q r. get_or-set_other ws (5 * n + i) k v 0 (λ e. q (omega arith) (omega arith)) }

pub keeps-end : (n from to i : ℕ) (ws : List ℕ) (v : ℕ) → from ≤ i → i < to → Keeps n from to ws (set ws (6 * n + i) v)
keeps-end n from to i ws v h l = record { long = length-set ws (6 * n + i) v; same = λ k p q r. get_or-set_other ws (6 * n + i) k v 0 (λ e. r (omega arith) (omega arith)) }
