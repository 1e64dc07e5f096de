-- Laws of writing one token. Assumes nothing.
use Prim.Native.Nat.{ℕ, ◌+◌, ◌-◌, ◌*◌, ◌≤◌, ◌<◌}
use mathlib.Core.Path.{◌≡◌, refl, sym, ap, ◌∙◌}
use lib.Dec.{eqb}
use mathlib.Core.List.{List, [], ◌∷◌}
use native.Mathlib.Nat.{add-zero}
use native.Mathlib.Omega.{arith}
use lib.ListN.{length, take, drop, get_or}
use borrow.Author.Tests.{ne_eqb, lt-ltb, le-ltb, lt-leb}
use Rattle.rules.specs.Bytes.{pick}
use Rattle.rules.specs.Tokens.{token, pooled}
use Rattle.scan.specs.Stores.{puts}
use Rattle.scan.proofs.Lists.{length_part}
use Rattle.tokens.specs.Entries.{entry, pool_text}
use Rattle.tokens.specs.declared.TokenKind.{TokenKind}
use Rattle.tokens.specs.declared.TokenKind.TheVariants.{Dropped, Text, Variable, Blank, Equals, Colon, SingleQuote, DoubleQuote, Backslash, NewLine}
use Rattle.lexer.specs.Pieces.{kind_of}
use Rattle.lexer.specs.Inner.{flushed, flushed_count, FlushRoom, made, PutRoom}

-- a number tells the kind
unfoldable by_kind : ℕ → TokenKind
by_kind n =
    pick (eqb n 1) Text
    (pick (eqb n 2) Variable
    (pick (eqb n 3) Blank
    (pick (eqb n 4) Equals
    (pick (eqb n 5) Colon
    (pick (eqb n 6) SingleQuote
    (pick (eqb n 7) DoubleQuote
    (pick (eqb n 8) Backslash
    (pick (eqb n 9) NewLine Dropped))))))))

by_kind_lem : (k : TokenKind) → by_kind (kind_of k) ≡ k
unfolding by_kind pick
by_kind_lem Dropped = refl
by_kind_lem Text = refl
by_kind_lem Variable = refl
by_kind_lem Blank = refl
by_kind_lem Equals = refl
by_kind_lem Colon = refl
by_kind_lem SingleQuote = refl
by_kind_lem DoubleQuote = refl
by_kind_lem Backslash = refl
by_kind_lem NewLine = refl

pub kind_named : (k j : TokenKind) → kind_of k ≡ kind_of j → k ≡ j
kind_named k j e = sym (by_kind_lem k) ∙ ap by_kind e ∙ by_kind_lem j

-- gathered Text ends
module _ (count start used source : ℕ) where
  pub flush-room : (ws : List ℕ) → FlushRoom ws count start used source → start < used → 4 * count + 4 ≤ length ws
  unfolding flushed_count pick
  flush-room ws r h = let e : flushed_count start used ≡ 1 = rw (lt-ltb start used h) in omega arith

  pub flush-one : start < used → count + 1 ≡ count + flushed_count start used
  unfolding flushed_count pick
  flush-one h = rw (lt-ltb start used h)

  pub flush-put : (l l' : List ℕ) → start < used → l' ≡ puts l (4 * count) (1 ∷ start ∷ (used - start) ∷ source ∷ []) → l' ≡ puts l (4 * count) (flushed start used source)
  unfolding flushed pick
  flush-put l l' h e = rw (lt-ltb start used h) e

  pub flush-none : used ≤ start → count ≡ count + flushed_count start used
  unfolding flushed_count pick
  flush-none h = rw (le-ltb start used h, add-zero)

  pub flush-same : (l : List ℕ) → used ≤ start → l ≡ puts l (4 * count) (flushed start used source)
  unfolding flushed pick
  flush-same l h = rw (le-ltb start used h)

-- a token that isn't Text
module _ (text : List ℕ) (i kind from len used : ℕ) where
  module _ (ws pool : List ℕ) (count : ℕ) (r : PutRoom text ws pool i kind from len count used) where
    pub name-end : kind ≡ 2 → used + len ≡ used + length (pool_text (made text i kind from len used))
    unfolding made pick pooled token
    name-end q = rw (q, length_part text from len r.part)

    pub name-entry : (ws' : List ℕ) → kind ≡ 2 → ws' ≡ puts ws (4 * count) (kind ∷ used ∷ len ∷ i ∷ []) → ws' ≡ puts ws (4 * count) (entry (made text i kind from len used))
    unfolding made pick pooled token entry
    name-entry ws' q e = e ∙ rw (q, length_part text from len r.part)

    pub name-put : (pool' : List ℕ) → kind ≡ 2 → pool' ≡ puts pool used (take len (drop from text)) → pool' ≡ puts pool used (pool_text (made text i kind from len used))
    unfolding made pick pooled token
    name-put pool' q e = e ∙ rw q

    -- a byte by itself is not in the pool
    above : (kind ≡ 2 → ⊥) → 2 < kind
    above n = omega arith

    pub mark-end : (kind ≡ 2 → ⊥) → used ≡ used + length (pool_text (made text i kind from len used))
    unfolding made pick pooled token
    mark-end n = rw (ne_eqb kind 2 n, lt-leb kind 2 (above n), add-zero)

    pub mark-entry : (ws' : List ℕ) (b : ℕ) → (kind ≡ 2 → ⊥) → b ≡ get_or text i 0 → ws' ≡ puts ws (4 * count) (kind ∷ b ∷ 1 ∷ i ∷ [])
        → ws' ≡ puts ws (4 * count) (entry (made text i kind from len used))
    unfolding made pick pooled token entry
    mark-entry ws' b n q e = e ∙ rw (ne_eqb kind 2 n, lt-leb kind 2 (above n), q)

    pub mark-put : (kind ≡ 2 → ⊥) → pool ≡ puts pool used (pool_text (made text i kind from len used))
    unfolding made pick pooled token
    mark-put n = rw (ne_eqb kind 2 n, lt-leb kind 2 (above n))
