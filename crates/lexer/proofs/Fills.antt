-- The pass that fills workspace and pool: what holds at the head of its loop, and that a turn keeps it. Assumes nothing.
use Prim.Native.Nat.{ℕ, suc, ◌+◌, ◌-◌, ◌*◌, ◌≤◌, ◌<◌}
use mathlib.Core.Path.{◌≡◌, refl, ap, sym, ◌∙◌}
use mathlib.Core.Bool.{Bool, true, false}
use mathlib.Core.List.{List, [], ◌∷◌, ◌++◌, append_assoc, append-nil}
use native.Mathlib.Omega.{arith}
use native.Mathlib.Decide.{ℕ_discrete}
use lib.ListN.{length, take, drop, length-append, drop_of_length-le}
use lib.Dec.{eqb, ltb}
use borrow.Author.Tests.{ne_eqb, eq-eqb, lt-ltb, le-ltb, ltb-true, lt-leb}
use Rattle.rules.specs.Bytes.{pick, overwrite}
use Rattle.rules.specs.Tokens.{Token, token, variable_kind, pooled}
use Rattle.rules.specs.Lexing.{Gathered, nothing_yet, first_source, gather, text_token, flush, prepend, lex, tokens, pool_of}
use Rattle.rules.proofs.TableLaws.{refused-ok}
use Rattle.rules.proofs.LexingLaws.{pool-append, pool-one, flush-pool}
use Rattle.scan.specs.Stores.{puts}
use Rattle.scan.proofs.Lists.{length_part}
use Rattle.scan.proofs.Stores.{length-puts, puts-overwrite, overwrite-nil}
use Rattle.tokens.specs.Entries.{entry, entries, pool_text}
use Rattle.tokens.proofs.TokenLaws.{entries-append, entries-one, length-entries}
use Rattle.lexer.specs.Lexes.{Room, Holds}
use Rattle.lexer.specs.Pieces.{Reads}
use Rattle.lexer.specs.Inner.{Accepted, Fillable, flushed, flushed_count, FlushRoom, made, PutRoom, KeepRoom, Sound, kept}
use Rattle.lexer.proofs.Lefts.{prepend-nil, prepend-prepend, kind-above, left-chars, left-token, Left, left-refused}

-- Text that is being gathered
abbrev gathered : List ℕ → ℕ → Gathered
gathered w source = record { text = w; source = source }

flushed-entries : (w : List ℕ) (start used source : ℕ) → used ≡ start + length w → flushed start used source ≡ entries (flush start (gathered w source))
unfolding flushed flush text_token entries entry pick pooled token
flushed-entries [] start used source e = rw (le-ltb start used (omega arith))
flushed-entries (b ∷ w) start used source e = let z : used - start ≡ suc (length w) = omega arith in rw (lt-ltb start used (omega arith), z)

flushed-count : (w : List ℕ) (start used source : ℕ) → used ≡ start + length w → flushed_count start used ≡ length (flush start (gathered w source))
unfolding flushed_count flush text_token pick
flushed-count [] start used source e = rw (le-ltb start used (omega arith))
flushed-count (b ∷ w) start used source e = rw (lt-ltb start used (omega arith))

flushed-le : (start used : ℕ) → flushed_count start used ≤ used - start
unfolding flushed_count pick
flushed-le start used = go (ltb start used) refl
  where
    go : (b : Bool) → ltb start used ≡ b → flushed_count start used ≤ used - start
    go true e = rw (e, flushed_count) (omega (arith, ltb-true start used e))
    go false e = rw (e, flushed_count) (omega arith)

first-is : (w : List ℕ) (source at start used : ℕ) → used ≡ start + length w → pick (eqb start used) at source ≡ first_source w source at
unfolding pick first_source
first-is [] source at start used e = rw (eq-eqb start used (omega arith))
first-is (b ∷ w) source at start used e = rw (ne_eqb start used (λ q. omega arith))

first-le : (b : Bool) (at source n : ℕ) → at ≤ n → source ≤ n → pick b at source ≤ n
unfolding pick
first-le true at source n h k = h
first-le false at source n h k = k

made-le : (text : List ℕ) (i kind from len used : ℕ) → from + len ≤ length text → variable_kind ≤ kind → length (pool_text (made text i kind from len used)) ≤ len
unfolding made pick pooled token
made-le text i kind from len used h v = go (ℕ_discrete kind 2)
  where
    go : Dec (kind ≡ 2) → length (pool_text (made text i kind from len used)) ≤ len
    go (yes q) = rw (q, made) (omega (arith, length_part text from len h))
    go (no q) = rw (ne_eqb kind 2 q, lt-leb kind 2 (omega arith)) (omega arith)

-- more tokens are written
ws-more : (l₀ l l' : List ℕ) (ts us : List Token) (n : ℕ) → l ≡ overwrite (entries ts) l₀ → n ≡ length ts → 4 * (n + length us) ≤ length l₀ → l' ≡ puts l (4 * n) (entries us)
    → l' ≡ overwrite (entries (ts ++ us)) l₀
ws-more l₀ l l' ts us n a b r c =
    let z : 4 * n ≡ length (entries ts) = omega (arith, length-entries ts) in
    c ∙ rw (a, z, entries-append ts us) (puts-overwrite (entries ts) (entries us) l₀ (omega (arith, length-entries us)))

pool-more : (l₀ l l' vs us : List ℕ) (n : ℕ) → l ≡ overwrite vs l₀ → n ≡ length vs → n + length us ≤ length l₀ → l' ≡ puts l n us → l' ≡ overwrite (vs ++ us) l₀
pool-more l₀ l l' vs us n a b r c = c ∙ rw (a, b) (puts-overwrite vs us l₀ (omega arith))

-- at the head of the loop: `count` tokens ts are written, and the bytes w of Text that goes on stand in the pool from `start` up to `used`
pub record Filling (text ws₀ pool₀ ws pool : List ℕ) (i count start used source : ℕ) : Type 0 where
  pub ts : List Token
  pub w : List ℕ
  pub is_ws : ws ≡ overwrite (entries ts) ws₀
  pub is_pool : pool ≡ overwrite (pool_of ts ++ w) pool₀
  pub is_count : count ≡ length ts
  pub is_start : start ≡ length (pool_of ts)
  pub is_used : used ≡ start + length w
  pub room : Room text ws₀ pool₀
  pub long_ws : length ws ≡ length ws₀
  pub long_pool : length pool ≡ length pool₀
  pub tokens_fit : count + (used - start) ≤ i
  pub bytes_fit : used ≤ i
  pub source_fit : source ≤ i
  pub here : i ≤ length text
  pub fine : Accepted text
  pub rest : tokens text ≡ prepend ts (lex start (gathered w source) 0 i (drop i text))

pub fill_start : (text ws pool : List ℕ) → Fillable text ws pool → Filling text ws pool ws pool 0 0 0 0 0
unfolding pool_of entries tokens nothing_yet
fill_start text ws pool f =
    record {
      ts = [];
      w = [];
      is_ws = sym (overwrite-nil ws);
      is_pool = sym (overwrite-nil pool);
      is_count = refl;
      is_start = refl;
      is_used = refl;
      room = f.room;
      long_ws = refl;
      long_pool = refl;
      tokens_fit = omega arith;
      bytes_fit = omega arith;
      source_fit = omega arith;
      here = omega arith;
      fine = f.fine;
      rest = sym (prepend-nil (lex 0 nothing_yet 0 0 text));
    }

module _ (text ws₀ pool₀ ws pool : List ℕ) (i count start used source : ℕ) (F : Filling text ws₀ pool₀ ws pool i count start used source) where
  all-used : used ≡ length (pool_of F.ts ++ F.w)
  all-used = omega (arith, F, length-append (pool_of F.ts) F.w)

  pub flush-fits : FlushRoom ws count start used source
  flush-fits =
      let e = flushed-le start used in
      record { order = omega arith; used_small = omega arith; source_small = omega arith; ws_room = omega arith }

  -- gathered Text is written
  flush-more : (ws' : List ℕ) → ws' ≡ puts ws (4 * count) (flushed start used source) → ws' ≡ overwrite (entries (F.ts ++ flush start (gathered F.w source))) ws₀
  flush-more ws' b =
      let e = flushed-le start used in
      let c = flushed-count F.w start used source F.is_used in
      ws-more ws₀ ws ws' F.ts (flush start (gathered F.w source)) count F.is_ws F.is_count (omega arith) (rw (flushed-entries F.w start used source F.is_used) at b)

  flush-texts : pool_of (F.ts ++ flush start (gathered F.w source)) ≡ pool_of F.ts ++ F.w
  flush-texts = pool-append F.ts (flush start (gathered F.w source)) ∙ ap (λ (x : List ℕ). pool_of F.ts ++ x) (flush-pool start (gathered F.w source))

  pub fill_end : (ws' : List ℕ) (count' : ℕ) → length text ≤ i → count' ≡ count + flushed_count start used → ws' ≡ puts ws (4 * count) (flushed start used source)
      → Holds text ws₀ ws' pool₀ pool count' used
  unfolding lex prepend
  fill_end ws' count' h a b =
      let g = gathered F.w source in
      record {
        ts = F.ts ++ flush start g;
        is_tokens = F.rest ∙ rw (drop_of_length-le text h);
        is_count = rw (length-append F.ts (flush start g)) (omega (arith, a, flushed-count F.w start used source F.is_used, F.is_count));
        is_used = rw flush-texts all-used;
        is_ws = flush-more ws' b;
        is_pool = rw flush-texts F.is_pool;
      }

  pub keep-room : i < length text → KeepRoom text pool i used
  keep-room h = record { here = F.here; fits = omega arith }

  -- no lexeme is refused
  pub sound : i < length text → Sound text i
  sound h e b =
      let L : Left text i = record { ts = F.ts; end = start; g = gathered F.w source; here = F.here; rest = F.rest } in
      refused-ok (sym (left-refused text i e h b L) ∙ F.fine.is_tokens)

  -- a turn, by its lexeme
  module _ (kind from len next : ℕ) (h : i < length text) (s : Reads text i kind from len next) where
    part_length : length (take len (drop from text)) ≡ len
    part_length = length_part text from len (omega arith)

    pub used-word : used + len < 18446744073709551616
    used-word = omega arith

    -- what the piece gives to the pool
    kept-chars : kind ≡ 1 → kept text kind from len ≡ take len (drop from text)
    unfolding kept pick
    kept-chars q = rw q

    kept-none : (kind ≡ 1 → ⊥) → kept text kind from len ≡ []
    unfolding kept pick
    kept-none n = rw (ne_eqb kind 1 n)

    pub fill-text : (pool' : List ℕ) (source' : ℕ) → kind ≡ 1 → source' ≡ pick (eqb start used) i source
        → pool' ≡ puts pool used (kept text kind from len) → Filling text ws₀ pool₀ ws pool' next count start (used + len) source'
    unfolding gather
    fill-text pool' source' q a k =
        let bs = take len (drop from text) in
        let c : pool' ≡ puts pool used bs = k ∙ ap (puts pool used) (kept-chars q) in
        let l : length bs ≡ len = part_length in
        let f : source' ≡ first_source F.w source i = a ∙ first-is F.w source i start used F.is_used in
        record {
          ts = F.ts;
          w = F.w ++ bs;
          is_ws = F.is_ws;
          is_pool = pool-more pool₀ pool pool' (pool_of F.ts ++ F.w) bs used F.is_pool all-used (omega arith) c ∙ ap (λ (x : List ℕ). overwrite x pool₀) (append_assoc (pool_of F.ts) F.w bs);
          is_count = F.is_count;
          is_start = F.is_start;
          is_used = omega (arith, length-append F.w bs, l, F.is_used);
          room = F.room;
          long_ws = F.long_ws;
          long_pool = ap length c ∙ length-puts pool used bs ∙ F.long_pool;
          tokens_fit = omega arith;
          bytes_fit = omega arith;
          source_fit = rw a (first-le (eqb start used) i source next (omega arith) (omega arith));
          here = omega arith;
          fine = F.fine;
          rest = F.rest ∙ ap (prepend F.ts) (left-chars text i kind from len next h s start (gathered F.w source) q) ∙ rw f;
        }

    -- a piece that isn't Text leaves the pool as it is
    same_pool : (pool₁ : List ℕ) → (kind ≡ 1 → ⊥) → pool₁ ≡ puts pool used (kept text kind from len) → pool₁ ≡ pool
    same_pool pool₁ n p = p ∙ ap (puts pool used) (kept-none n)

    pub put-fits : (ws' pool₁ : List ℕ) (count' : ℕ) → (kind ≡ 1 → ⊥) → pool₁ ≡ puts pool used (kept text kind from len) → ws' ≡ puts ws (4 * count) (flushed start used source)
        → count' ≡ count + flushed_count start used → PutRoom text ws' pool₁ i kind from len count' used
    put-fits ws' pool₁ count' n p b a =
        let e = flushed-le start used in
        let m = ap length (same_pool pool₁ n p) in
        let l = ap length b ∙ length-puts ws (4 * count) (flushed start used source) in
        record {
          kind_is = kind-above text i kind from len next h s n;
          here = omega arith;
          part = omega arith;
          small = F.room.small;
          used_small = omega arith;
          ws_room = omega arith;
          pool_room = omega arith;
        }

    pub count_word : (count' : ℕ) → count' ≡ count + flushed_count start used → count' + 1 < 18446744073709551616
    count_word count' a = omega (arith, flushed-le start used)

    pub fill-token : (ws' ws'' pool₁ pool' : List ℕ) (count' used' : ℕ) → (kind ≡ 1 → ⊥)
        → pool₁ ≡ puts pool used (kept text kind from len)
        → count' ≡ count + flushed_count start used
        → ws' ≡ puts ws (4 * count) (flushed start used source)
        → used' ≡ used + length (pool_text (made text i kind from len used))
        → ws'' ≡ puts ws' (4 * count') (entry (made text i kind from len used))
        → pool' ≡ puts pool₁ used (pool_text (made text i kind from len used))
        → Filling text ws₀ pool₀ ws'' pool' next (count' + 1) used' used' 0
    unfolding nothing_yet
    fill-token ws' ws'' pool₁ pool' count' used' n p a b c d f =
        let e : pool' ≡ puts pool used (pool_text (made text i kind from len used)) = f ∙ rw (same_pool pool₁ n p) in
        let g = gathered F.w source in
        let t = made text i kind from len used in
        let us = F.ts ++ flush start g in
        let k = kind-above text i kind from len next h s n in
        let m = made-le text i kind from len used (omega arith) k in
        let fl = flushed-le start used in
        let cn : count' ≡ length us = omega (arith, a, length-append F.ts (flush start g), flushed-count F.w start used source F.is_used, F.is_count) in
        let un : used ≡ length (pool_of us) = rw flush-texts all-used in
        let tx : pool_of (us ++ (t ∷ [])) ≡ pool_of us ++ pool_text t = pool-append us (t ∷ []) ∙ ap (λ (x : List ℕ). pool_of us ++ x) (pool-one t) in
        record {
          ts = us ++ (t ∷ []);
          w = [];
          is_ws = ws-more ws₀ ws' ws'' us (t ∷ []) count' (flush-more ws' b) cn (omega arith) (rw (entries-one t) d);
          is_pool = pool-more pool₀ pool pool' (pool_of us) (pool_text t) used (rw flush-texts F.is_pool) un (omega arith) e
              ∙ ap (λ (x : List ℕ). overwrite x pool₀) (sym (append-nil (pool_of (us ++ (t ∷ []))) ∙ tx));
          is_count = omega (arith, cn, length-append us (t ∷ []));
          is_start = omega (arith, c, un, ap length tx, length-append (pool_of us) (pool_text t));
          is_used = omega arith;
          room = F.room;
          long_ws = ap length d ∙ length-puts ws' (4 * count') (entry t) ∙ ap length b ∙ length-puts ws (4 * count) (flushed start used source) ∙ F.long_ws;
          long_pool = ap length e ∙ length-puts pool used (pool_text t) ∙ F.long_pool;
          tokens_fit = omega arith;
          bytes_fit = omega arith;
          source_fit = omega arith;
          here = omega arith;
          fine = F.fine;
          rest = F.rest ∙ ap (prepend F.ts) (left-token text i kind from len next h s start g n ∙ rw (← F.is_used, ← c))
              ∙ prepend-prepend F.ts (flush start g ++ (t ∷ [])) (lex used' nothing_yet 0 next (drop next text)) ∙ rw (append_assoc F.ts (flush start g) (t ∷ []));
        }
