-- Laws of reading tokens: each by its entries. Assumes nothing.
use Prim.Native.Nat.{ℕ, zero, suc, ◌+◌, ◌*◌, ◌%◌, ◌≤◌, ◌<◌}
use mathlib.Core.Path.{◌≡◌, refl, ap, sym, ◌∙◌, subst}
use mathlib.Core.Bool.{Bool, true, false}
use mathlib.Core.List.{List, [], ◌∷◌, ◌++◌, map, append_assoc, append-nil}
use native.Mathlib.Omega.{arith}
use native.Mathlib.Decide.{dec_lt}
use native.Mathlib.Numerals.{add-one}
use lib.ListN.{length, length-take, take, drop, get_or, set, drop_of_length-le, length-append}
use lib.Seq.{get_or-drop, drop-cons}
use lib.Dec.{leb, ltb}
use borrow.Author.Tests.{lt-ltb, le-ltb, lt-leb, le-leb}
use Rattle.rules.specs.Bytes.{pick}
use Rattle.rules.specs.Tokens.{Token, token, pooled, no_name}
use Rattle.answers.specs.declared.Name.{Name}
use Rattle.answers.specs.Tells.{Names}
use Rattle.scan.specs.Stores.{puts}
use Rattle.scan.proofs.Stores.{get_or-puts-below}
use Rattle.tokens.specs.Entries.{entry, entries, from_entry, decode, token_at, pool_text, byte_of, kinds, kind_at, place_at, source_at, byte_at, entry_at}

pub length-decode : (count : ℕ) (ws pool : List ℕ) → length (decode count ws pool) ≡ count
unfolding decode
length-decode zero ws pool = refl
length-decode (suc n) ws pool = ap suc (length-decode n (drop 4 ws) pool)

entry_next : (n : ℕ) (ws : List ℕ) (j f : ℕ) → entry_at n (drop 4 ws) j f ≡ entry_at (suc n) ws (suc j) f
unfolding pick
entry_next n ws j f = go (dec_lt j n)
  where
    go : Dec (j < n) → entry_at n (drop 4 ws) j f ≡ entry_at (suc n) ws (suc j) f
    go (yes h) =
        let e : 4 + (4 * j + f) ≡ 4 * suc j + f = omega arith in
        rw (lt-ltb j n h, lt-ltb (suc j) (suc n) (omega arith), get_or-drop 4 ws (4 * j + f) 0, e)
    go (no h) = rw (le-ltb j n (omega arith), le-ltb (suc j) (suc n) (omega arith))

-- THE LAW of reading: the j-th token is that of its entries, past the last too
pub token-by : (count : ℕ) (ws pool : List ℕ) (j : ℕ) → token_at (decode count ws pool) j ≡ from_entry (entry_at count ws j 0) (entry_at count ws j 1) (entry_at count ws j 2) (entry_at count ws j 3) pool
unfolding decode from_entry pick no_name
token-by zero ws pool j = rw (le-ltb j 0 (omega arith))
token-by (suc n) ws pool zero = rw (lt-ltb 0 (suc n) (omega arith))
token-by (suc n) ws pool (suc j) =
    token-by n (drop 4 ws) pool j ∙ rw (entry_next n ws j 0, entry_next n ws j 1, entry_next n ws j 2, entry_next n ws j 3)

pub kind-by : (count : ℕ) (ws : List ℕ) (j : ℕ) → kind_at count ws j ≡ entry_at count ws j 0
unfolding kinds pick
kind-by zero ws j = rw (le-ltb j 0 (omega arith))
kind-by (suc n) ws zero = rw (lt-ltb 0 (suc n) (omega arith))
kind-by (suc n) ws (suc j) = kind-by n (drop 4 ws) j ∙ entry_next n ws j 0

-- kind, place, source and byte of a token, whatever the pool
module _ (count : ℕ) (ws pool : List ℕ) (j : ℕ) where
  pub kind-at : kind_at count ws j ≡ (token_at (decode count ws pool) j).kind
  unfolding from_entry token
  kind-at = kind-by count ws j ∙ rw (token-by count ws pool j)

  pub place_at_lem : place_at count ws j ≡ (token_at (decode count ws pool) j).place
  unfolding from_entry token
  place_at_lem = ap (λ (t : Token). t.place) (token-by count ws [] j) ∙ sym (ap (λ (t : Token). t.place) (token-by count ws pool j))

  pub source-at : source_at count ws j ≡ (token_at (decode count ws pool) j).source
  unfolding from_entry token
  source-at = ap (λ (t : Token). t.source) (token-by count ws [] j) ∙ sym (ap (λ (t : Token). t.source) (token-by count ws pool j))

  pub byte-at : byte_at count ws j ≡ byte_of (token_at (decode count ws pool) j)
  unfolding from_entry token pooled pick
  byte-at = rw (token-by count ws [] j, token-by count ws pool j) (go (leb (entry_at count ws j 0) 2))
    where
      go : (b : Bool)
          → pick b 0 (get_or (pick b (take (entry_at count ws j 2) (drop (entry_at count ws j 1) [])) (entry_at count ws j 1 % 256 ∷ [])) 0 0)
          ≡ pick b 0 (get_or (pick b (take (entry_at count ws j 2) (drop (entry_at count ws j 1) pool)) (entry_at count ws j 1 % 256 ∷ [])) 0 0)
      go true = refl
      go false = refl

  -- its text
  text-by : (token_at (decode count ws pool) j).text ≡ pick (leb (entry_at count ws j 0) 2) (take (entry_at count ws j 2) (drop (entry_at count ws j 1) pool)) (entry_at count ws j 1 % 256 ∷ [])
  unfolding from_entry token
  text-by = rw (token-by count ws pool j)

  -- the token is in the pool by its kind
  pooled-by : pooled (token_at (decode count ws pool) j) ≡ leb (entry_at count ws j 0) 2
  unfolding from_entry token pooled
  pooled-by = rw (token-by count ws pool j)

-- what the accessors answer, by the entries that they read
module _ (count : ℕ) (ws : List ℕ) (j : ℕ) where
  pub entry_in : (f : ℕ) → j < count → get_or ws (4 * j + f) 0 ≡ entry_at count ws j f
  unfolding pick
  entry_in f h = rw (lt-ltb j count h)

  pub entry_past : (f : ℕ) → count ≤ j → 0 ≡ entry_at count ws j f
  unfolding pick
  entry_past f h = rw (le-ltb j count h)

  pub reads-kind : (k : ℕ) → k ≡ entry_at count ws j 0 → k ≡ kind_at count ws j
  reads-kind k e = e ∙ sym (kind-by count ws j)

  pub reads-source : (s : ℕ) → s ≡ entry_at count ws j 3 → s ≡ source_at count ws j
  unfolding from_entry token
  reads-source s e = e ∙ sym (ap (λ (t : Token). t.source) (token-by count ws [] j))

  place-by : place_at count ws j ≡ pick (leb (entry_at count ws j 0) 2) (entry_at count ws j 1) 0
  unfolding from_entry token
  place-by = ap (λ (t : Token). t.place) (token-by count ws [] j)

  pub reads-place : (k a : ℕ) → k ≡ entry_at count ws j 0 → k ≤ 2 → a ≡ entry_at count ws j 1 → a ≡ place_at count ws j
  unfolding pick
  reads-place k a e h q = q ∙ sym (place-by ∙ rw (le-leb (entry_at count ws j 0) 2 (omega arith)))

  pub reads-no-place : (k : ℕ) → k ≡ entry_at count ws j 0 → 2 < k → 0 ≡ place_at count ws j
  unfolding pick
  reads-no-place k e h = sym (place-by ∙ rw (lt-leb (entry_at count ws j 0) 2 (omega arith)))

  byte-by : byte_at count ws j ≡ pick (leb (entry_at count ws j 0) 2) 0 (entry_at count ws j 1 % 256)
  unfolding from_entry token pooled pick
  byte-by = rw (token-by count ws [] j) (go (leb (entry_at count ws j 0) 2))
    where
      go : (b : Bool)
          → pick b 0 (get_or (pick b (take (entry_at count ws j 2) (drop (entry_at count ws j 1) [])) (entry_at count ws j 1 % 256 ∷ [])) 0 0)
          ≡ pick b 0 (entry_at count ws j 1 % 256)
      go true = refl
      go false = refl

  pub reads_byte : (k a : ℕ) → k ≡ entry_at count ws j 0 → 2 < k → a ≡ entry_at count ws j 1 → a % 256 ≡ byte_at count ws j
  unfolding pick
  reads_byte k a e h q = sym (byte-by ∙ rw (lt-leb (entry_at count ws j 0) 2 (omega arith), ← q))

  pub reads-no-byte : (k : ℕ) → k ≡ entry_at count ws j 0 → k ≤ 2 → 0 ≡ byte_at count ws j
  unfolding pick
  reads-no-byte k e h = sym (byte-by ∙ rw (le-leb (entry_at count ws j 0) 2 (omega arith)))

-- what the accessors that read the pool answer
module _ (count : ℕ) (ws pool : List ℕ) (j k : ℕ) (e : k ≡ entry_at count ws j 0) where
  in-pool : k ≤ 2 → pooled (token_at (decode count ws pool) j) ≡ true
  in-pool h = pooled-by count ws pool j ∙ le-leb (entry_at count ws j 0) 2 (omega arith)

  not-in-pool : 2 < k → pooled (token_at (decode count ws pool) j) ≡ false
  not-in-pool h = pooled-by count ws pool j ∙ lt-leb (entry_at count ws j 0) 2 (omega arith)

  pub reads-text : (r : List ℕ) (a l : ℕ) → k ≤ 2 → a ≡ entry_at count ws j 1 → l ≡ entry_at count ws j 2 → r ≡ take l (drop a pool)
      → r ≡ pool_text (token_at (decode count ws pool) j)
  unfolding pick
  reads-text r a l h p q x = x ∙ rw (in-pool h, text-by count ws pool j, le-leb (entry_at count ws j 0) 2 (omega arith), p, q)

  pub reads-no-text : (r : List ℕ) → 2 < k → r ≡ take 0 (drop 0 pool) → r ≡ pool_text (token_at (decode count ws pool) j)
  unfolding pick
  reads-no-text r h x = x ∙ rw (not-in-pool h)

  -- a token in the pool has its text there, and another is a byte
  pub text-pooled : k ≤ 2 → pool_text (token_at (decode count ws pool) j) ≡ (token_at (decode count ws pool) j).text
  unfolding pick
  text-pooled h = rw (in-pool h)

  pub text-byte : 2 < k → byte_at count ws j ∷ [] ≡ (token_at (decode count ws pool) j).text
  unfolding pick
  text-byte h = rw (byte-by count ws j, text-by count ws pool j, lt-leb (entry_at count ws j 0) 2 (omega arith))

  pub reads-length : (r : List ℕ) → k ≤ 2 → r ≡ pool_text (token_at (decode count ws pool) j) → length r ≡ length (token_at (decode count ws pool) j).text
  reads-length r h x = ap length (x ∙ text-pooled h)

  pub reads-one : 2 < k → 1 ≡ length (token_at (decode count ws pool) j).text
  reads-one h = ap length (text-byte h)

  -- the text is copied from the pool, or is a byte
  module _ (out : List ℕ) (to : ℕ) where
    pub copy-fits : (r : List ℕ) → k ≤ 2 → r ≡ pool_text (token_at (decode count ws pool) j) → to + length (token_at (decode count ws pool) j).text ≤ length out
        → to + length r ≤ length out
    copy-fits r h x f = let l = reads-length r h x in omega arith

    pub copied-to : (r : List ℕ) → k ≤ 2 → r ≡ pool_text (token_at (decode count ws pool) j) → to + length r ≡ to + length (token_at (decode count ws pool) j).text
    copied-to r h x = let l = reads-length r h x in omega arith

    pub copied : (out' r : List ℕ) → k ≤ 2 → r ≡ pool_text (token_at (decode count ws pool) j) → out' ≡ puts out to r → out' ≡ puts out to (token_at (decode count ws pool) j).text
    copied out' r h x q = q ∙ ap (puts out to) (x ∙ text-pooled h)

    pub byte_fits : 2 < k → to + length (token_at (decode count ws pool) j).text ≤ length out → to < length out
    byte_fits h f = let l = reads-one h in omega arith

    pub byte-to : 2 < k → to + 1 ≡ to + length (token_at (decode count ws pool) j).text
    byte-to h = let l = reads-one h in omega arith

    pub byte-stored : (b : ℕ) → 2 < k → b ≡ byte_at count ws j → set out to b ≡ puts out to (token_at (decode count ws pool) j).text
    byte-stored b h q = rw (q, ← text-byte h)

pub kinds-decode : (count : ℕ) (ws pool : List ℕ) → kinds count ws ≡ map (λ (t : Token). t.kind) (decode count ws pool)
unfolding kinds decode from_entry token
kinds-decode zero ws pool = refl
kinds-decode (suc n) ws pool = ap (λ (ks : List ℕ). get_or ws 0 0 ∷ ks) (kinds-decode n (drop 4 ws) pool)

-- only the first 4 * count entries count
pub decode-same : (count : ℕ) (ws ws' pool : List ℕ) → ((k : ℕ) → k < 4 * count → get_or ws' k 0 ≡ get_or ws k 0) → decode count ws' pool ≡ decode count ws pool
unfolding decode
decode-same zero ws ws' pool h = refl
decode-same (suc n) ws ws' pool h =
    let ih : decode n (drop 4 ws') pool ≡ decode n (drop 4 ws) pool =
    decode-same n (drop 4 ws) (drop 4 ws') pool (λ k l. get_or-drop 4 ws' k 0 ∙ h (4 + k) (omega arith) ∙ sym (get_or-drop 4 ws k 0))
    in
    rw (h 0 (omega arith), h 1 (omega arith), h 2 (omega arith), h 3 (omega arith), ih)

pub kinds-same : (count : ℕ) (ws ws' : List ℕ) → ((k : ℕ) → k < 4 * count → get_or ws' k 0 ≡ get_or ws k 0) → kinds count ws' ≡ kinds count ws
kinds-same count ws ws' h =
    kinds-decode count ws' [] ∙ ap (map (λ (t : Token). t.kind)) (decode-same count ws ws' [] h) ∙ sym (kinds-decode count ws [])

-- THE FRAME: what is stored past the tokens leaves them
pub decode-puts : (count : ℕ) (ws pool : List ℕ) (base : ℕ) (vs : List ℕ) → 4 * count ≤ base → decode count (puts ws base vs) pool ≡ decode count ws pool
decode-puts count ws pool base vs h = decode-same count ws (puts ws base vs) pool (λ k l. get_or-puts-below ws base vs k 0 (omega arith))

pub kinds-puts : (count : ℕ) (ws : List ℕ) (base : ℕ) (vs : List ℕ) → 4 * count ≤ base → kinds count (puts ws base vs) ≡ kinds count ws
kinds-puts count ws base vs h = kinds-same count ws (puts ws base vs) (λ k l. get_or-puts-below ws base vs k 0 (omega arith))

-- the j-th token stands in front of the later ones
pub token-cons : (count : ℕ) (ws pool : List ℕ) (j : ℕ) → j < count → drop j (decode count ws pool) ≡ token_at (decode count ws pool) j ∷ drop (j + 1) (decode count ws pool)
token-cons count ws pool j h = rw (add-one, drop-cons (decode count ws pool) j no_name (omega (arith, length-decode count ws pool)))

pub token_end : (count : ℕ) (ws pool : List ℕ) (j : ℕ) → count ≤ j → drop j (decode count ws pool) ≡ []
token_end count ws pool j h = let k : length (decode count ws pool) ≤ j = omega (arith, length-decode count ws pool) in drop_of_length-le (decode count ws pool) k

-- entries of tokens one after another
pub entries-append : (ts us : List Token) → entries (ts ++ us) ≡ entries ts ++ entries us
unfolding entries
entries-append [] us = refl
entries-append (t ∷ ts) us = rw (entries-append ts us, append_assoc)

pub entries-one : (t : Token) → entries (t ∷ []) ≡ entry t
unfolding entries
entries-one t = append-nil (entry t)

pub length-entries : (ts : List Token) → length (entries ts) ≡ 4 * length ts
unfolding entries entry
length-entries [] = refl
length-entries (t ∷ ts) = omega (arith, length-append (entry t) (entries ts), length-entries ts)

-- a text's length fits an entry
module _ (count : ℕ) (ws pool : List ℕ) (j : ℕ) where
  pub name-small : get_or ws (4 * j + 2) 0 ≤ 4294967295 → (len : ℕ) → len ≡ length (token_at (decode count ws pool) j).text → len < 4294967296
  unfolding from_entry token pick
  name-small h len e =
      let x : length (token_at (decode count ws pool) j).text < 4294967296 = rw (token-by count ws pool j) (go (leb (entry_at count ws j 0) 2) (entry (ltb j count))) in
      omega (arith, e, x)
    where
      entry : (b : Bool) → pick b (get_or ws (4 * j + 2) 0) 0 < 4294967296
      entry true = omega (arith, h)
      entry false = omega arith

      go : (b : Bool) → entry_at count ws j 2 < 4294967296 → length (pick b (take (entry_at count ws j 2) (drop (entry_at count ws j 1) pool)) (entry_at count ws j 1 % 256 ∷ [])) < 4294967296
      go true l = omega (arith, length-take (entry_at count ws j 2) (drop (entry_at count ws j 1) pool))
      go false l = omega arith

  pub names-token : (place len : ℕ) → place ≡ place_at count ws j → len ≡ length (token_at (decode count ws pool) j).text → Names (record { place = place; length = len }) (token_at (decode count ws pool) j)
  names-token place len p l = record { is_place = p ∙ place_at_lem count ws pool j; is_length = l }

-- the tokens before the end-th
pub decode-take : (end count : ℕ) (ws pool : List ℕ) → end ≤ count → decode end ws pool ≡ take end (decode count ws pool)
unfolding decode
decode-take zero count ws pool h = refl
decode-take (suc e) zero ws pool h = absurd (omega arith)
decode-take (suc e) (suc c) ws pool h = ap (λ (l : List Token). from_entry (get_or ws 0 0) (get_or ws 1 0) (get_or ws 2 0) (get_or ws 3 0) pool ∷ l) (decode-take e c (drop 4 ws) pool (omega arith))

-- what a table answers, by its list
module _ (count : ℕ) (ws pool : List ℕ) (ts : List Token) (v : decode count ws pool ≡ ts) where
  pub table-len : count ≡ length ts
  table-len = sym (length-decode count ws pool) ∙ ap length v

  pub table-kind : (j k : ℕ) → k ≡ kind_at count ws j → k ≡ (token_at ts j).kind
  table-kind j k e = e ∙ kind-at count ws pool j ∙ ap (λ (l : List Token). (token_at l j).kind) v

  pub table-source : (j k : ℕ) → k ≡ source_at count ws j → k ≡ (token_at ts j).source
  table-source j k e = e ∙ source-at count ws pool j ∙ ap (λ (l : List Token). (token_at l j).source) v

  pub table-place : (j k : ℕ) → k ≡ place_at count ws j → k ≡ (token_at ts j).place
  table-place j k e = e ∙ place_at_lem count ws pool j ∙ ap (λ (l : List Token). (token_at l j).place) v

  pub table-byte : (j k : ℕ) → k ≡ byte_at count ws j → k ≡ byte_of (token_at ts j)
  table-byte j k e = e ∙ byte-at count ws pool j ∙ ap (λ (l : List Token). byte_of (token_at l j)) v

  pub table-name : (j : ℕ) (r : Name) → Names r (token_at (decode count ws pool) j) → Names r (token_at ts j)
  table-name j r h = subst (λ (l : List Token). Names r (token_at l j)) v h

  pub table-fits : (end : ℕ) → 4 * count ≤ length ws → end ≤ length ts → 4 * end ≤ length ws
  table-fits end h k = let l = table-len in omega arith

  pub table-until : (end : ℕ) → end ≤ length ts → decode end ws pool ≡ take end ts
  table-until end k = let l = table-len in decode-take end count ws pool (omega arith) ∙ ap (take end) v

-- what the functions that read tokens are proved by
pub ruleset reading = (entry_in, entry_past, reads-kind, reads-source, reads-place, reads-no-place, reads-no-byte, reads-text, reads-no-text, reads-one)

pub ruleset tables = (table-len, table-kind, table-source, table-place, table-byte, table-name, table-fits, table-until)
