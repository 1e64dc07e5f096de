-- Laws of the whole call: the five ways it can go, what stood in the buffers has no effect, what they hold afterwards. Assumes nothing.
use Prim.Native.Nat.{ℕ, ◌+◌, ◌<◌, ◌≤◌}
use mathlib.Core.Path.{◌≡◌, refl, ap, ◌∙◌}
use mathlib.Core.Bool.{Bool, true, false}
use mathlib.Core.List.{List, ◌++◌}
use native.Mathlib.Omega.{arith}
use lib.ListN.{length, replicate, drop, length-append, length-drop, length-replicate}
use lib.Dec.{ltb}
use borrow.Author.Tests.{ltb-true, ltb-false, lt-ltb, le-ltb}
use Rattle.rules.specs.Bytes.{overwrite}
use Rattle.rules.specs.Tokens.{Token}
use Rattle.rules.specs.Numbers.{accepted, too_long, workspace_short, pool_short, not_utf8, output_short, Result, refused, ok}
use Rattle.rules.specs.Utf8.{well_formed}
use Rattle.rules.specs.Lexing.{tokens, pool_of}
use Rattle.rules.specs.Reading.{reading}
use Rattle.rules.specs.Reader.{Buffers, longest, room, pool_after, zeroed, read_buffers, written, untouched, read}
use Rattle.rules.proofs.LexingLaws.{tokens-room}

-- the text is within 65,535 bytes and well-formed, and workspace and pool suffice
pub record Ready (text : List ℕ) (b : Buffers) : Type 0 where
  pub short : length text ≤ longest
  pub space : room (length text) ≤ length b.workspace
  pub pools : length text ≤ length b.pool
  pub utf8 : well_formed text ≡ true

-- the tests 1 to 4 in their order, and what comes after them
pub data Checked (text : List ℕ) (b : Buffers) : Type 0 where
  answers1 : longest < length text → read text b ≡ untouched too_long b → Checked text b
  answers2 : length text ≤ longest → length b.workspace < room (length text) → read text b ≡ untouched workspace_short b → Checked text b
  answers3 : length text ≤ longest → room (length text) ≤ length b.workspace → length b.pool < length text → read text b ≡ untouched pool_short b → Checked text b
  answers4 : length text ≤ longest → room (length text) ≤ length b.workspace → length text ≤ length b.pool → well_formed text ≡ false → read text b ≡ untouched not_utf8 b → Checked text b
  goes_on : Ready text b → read text b ≡ written (reading text) (read_buffers text b) → Checked text b

module _ (text : List ℕ) (b : Buffers) where
  pub checked : Checked text b
  unfolding read
  checked = go (ltb longest (length text)) refl (ltb (length b.workspace) (room (length text))) refl (ltb (length b.pool) (length text)) refl (well_formed text) refl
    where
      go : (x1 : Bool) → ltb longest (length text) ≡ x1 → (x2 : Bool) → ltb (length b.workspace) (room (length text)) ≡ x2
          → (x3 : Bool) → ltb (length b.pool) (length text) ≡ x3 → (x4 : Bool) → well_formed text ≡ x4 → Checked text b
      go true q1 x2 q2 x3 q3 x4 q4 = answers1 (ltb-true longest (length text) q1) (rw (q1, read) refl)
      go false q1 true q2 x3 q3 x4 q4 = answers2 (ltb-false longest (length text) q1) (ltb-true (length b.workspace) (room (length text)) q2) (rw (q1, read) (rw q2 refl))
      go false q1 false q2 true q3 x4 q4 =
          answers3 (ltb-false longest (length text) q1) (ltb-false (length b.workspace) (room (length text)) q2) (ltb-true (length b.pool) (length text) q3) (rw (q1, read) (rw q2 (rw q3 refl)))
      go false q1 false q2 false q3 false q4 =
          answers4 (ltb-false longest (length text) q1) (ltb-false (length b.workspace) (room (length text)) q2) (ltb-false (length b.pool) (length text) q3) q4
          (rw (q1, read) (rw q2 (rw q3 (rw q4 refl))))
      go false q1 false q2 false q3 true q4 =
          goes_on (record {
            short = ltb-false longest (length text) q1;
            space = ltb-false (length b.workspace) (room (length text)) q2;
            pools = ltb-false (length b.pool) (length text) q3;
            utf8 = q4;
          })
          (rw (q1, read) (rw q2 (rw q3 (rw q4 refl))))

  -- the equation of each way, from its conditions
  pub read-long : longest < length text → read text b ≡ untouched too_long b
  unfolding read
  read-long h = rw (lt-ltb longest (length text) h, read) refl

  pub read-space : length text ≤ longest → length b.workspace < room (length text) → read text b ≡ untouched workspace_short b
  unfolding read
  read-space s h = rw (le-ltb longest (length text) s, lt-ltb (length b.workspace) (room (length text)) h, read) refl

  pub read-pool : length text ≤ longest → room (length text) ≤ length b.workspace → length b.pool < length text → read text b ≡ untouched pool_short b
  unfolding read
  read-pool s w h = rw (le-ltb longest (length text) s, le-ltb (length b.workspace) (room (length text)) w, lt-ltb (length b.pool) (length text) h, read) refl

  pub read-utf8 : length text ≤ longest → room (length text) ≤ length b.workspace → length text ≤ length b.pool → well_formed text ≡ false → read text b ≡ untouched not_utf8 b
  unfolding read
  read-utf8 s w p u = rw (le-ltb longest (length text) s, le-ltb (length b.workspace) (room (length text)) w, le-ltb (length b.pool) (length text) p, read) (rw u refl)

  pub read-on : Ready text b → read text b ≡ written (reading text) (read_buffers text b)
  unfolding read
  read-on r =
      rw (le-ltb longest (length text) r.short, le-ltb (length b.workspace) (room (length text)) r.space, le-ltb (length b.pool) (length text) r.pools, read) (rw r.utf8 refl)

-- the end of a call that goes on, as equations
pub written-short : (rs : List ℕ) (b : Buffers) → length b.output < length rs → written (ok rs) b ≡ record { answer = output_short (length rs); after = b }
unfolding written
written-short rs b h = rw (lt-ltb (length b.output) (length rs) h, written) refl

pub written_all : (rs : List ℕ) (b : Buffers) → length rs ≤ length b.output
    → written (ok rs) b ≡ record { answer = accepted (length rs); after = record { workspace = b.workspace; pool = b.pool; output = overwrite rs b.output } }
unfolding written
written_all rs b h = rw (le-ltb (length b.output) (length rs) h, written) refl

same-written : (r : Result (List ℕ)) (b c : Buffers) → length b.output ≡ length c.output → (written r b).answer ≡ (written r c).answer
unfolding written
same-written (refused r) b c e = refl
same-written (ok rs) b c e = go (ltb (length c.output) (length rs)) refl
  where
    go : (t : Bool) → ltb (length c.output) (length rs) ≡ t → (written (ok rs) b).answer ≡ (written (ok rs) c).answer
    go true q = rw (e, q, written) refl
    go false q = rw (e, q, written) refl

-- "What stood in workspace, pool or output before a call has no effect on the answer."
pub no-effect : (text : List ℕ) (b c : Buffers) → length b.workspace ≡ length c.workspace → length b.pool ≡ length c.pool → length b.output ≡ length c.output
    → (read text b).answer ≡ (read text c).answer
unfolding untouched read_buffers
no-effect text b c w p o = go (checked text c)
  where
    go : Checked text c → (read text b).answer ≡ (read text c).answer
    go (answers1 h e) = rw (read-long text b h, e) refl
    go (answers2 h k e) = rw (read-space text b h (rw w k), e) refl
    go (answers3 h k l e) = rw (read-pool text b h (rw w k) (rw p l), e) refl
    go (answers4 h k l u e) = rw (read-utf8 text b h (rw w k) (rw p l) u, e) refl
    go (goes_on r e) = rw (read-on text b (record { short = r.short; space = rw w r.space; pools = rw p r.pools; utf8 = r.utf8 }), e) (same-written (reading text) (read_buffers text b) (read_buffers text c) o)

-- the buffers keep their lengths
pub overwrite-length : (xs l : List ℕ) → length xs ≤ length l → length (overwrite xs l) ≡ length l
unfolding overwrite
overwrite-length xs l h = let e : length (xs ++ drop (length xs) l) ≡ length xs + length (drop (length xs) l) = length-append xs (drop (length xs) l) in omega (arith, e, length-drop (length xs) l)

pool-length : (text pool : List ℕ) → length text ≤ length pool → length (pool_after (tokens text) pool) ≡ length pool
unfolding pool_after
pool-length text pool h = go (tokens text) refl
  where
    go : (r : Result (List Token)) → tokens text ≡ r → length (pool_after (tokens text) pool) ≡ length pool
    go (refused r) q = rw q refl
    go (ok ts) q = rw q (overwrite-length (pool_of ts) pool (omega (arith, (tokens-room text ts q).1)))

-- what comes last touches the output alone
pub record OutputOnly (b after : Buffers) : Type 0 where
  pub workspace : after.workspace ≡ b.workspace
  pub pool : after.pool ≡ b.pool
  pub output : length after.output ≡ length b.output

pub written-buffers : (r : Result (List ℕ)) (b : Buffers) → OutputOnly b (written r b).after
unfolding written
written-buffers (refused r) b = record { workspace = refl; pool = refl; output = refl }
written-buffers (ok rs) b = go (ltb (length b.output) (length rs)) refl
  where
    go : (t : Bool) → ltb (length b.output) (length rs) ≡ t → OutputOnly b (written (ok rs) b).after
    go true q = rw (q, written) (record { workspace = refl; pool = refl; output = refl })
    go false q = rw (q, written) (record { workspace = refl; pool = refl; output = overwrite-length rs b.output (ltb-false (length b.output) (length rs) q) })

pub record SameLengths (b after : Buffers) : Type 0 where
  pub workspace : length after.workspace ≡ length b.workspace
  pub pool : length after.pool ≡ length b.pool
  pub output : length after.output ≡ length b.output

pub lengths-kept : (text : List ℕ) (b : Buffers) → SameLengths b (read text b).after
unfolding untouched read_buffers zeroed
lengths-kept text b = go (checked text b)
  where
    as-found : SameLengths b b
    as-found = record { workspace = refl; pool = refl; output = refl }

    go : Checked text b → SameLengths b (read text b).after
    go (answers1 h e) = rw e as-found
    go (answers2 h k e) = rw e as-found
    go (answers3 h k l e) = rw e as-found
    go (answers4 h k l u e) = rw e as-found
    go (goes_on r e) =
        let o = written-buffers (reading text) (read_buffers text b) in
        rw e (record {
          workspace = ap length o.workspace ∙ overwrite-length (replicate (room (length text)) 0) b.workspace (rw length-replicate r.space);
          pool = ap length o.pool ∙ pool-length text b.pool r.pools;
          output = o.output;
        })
