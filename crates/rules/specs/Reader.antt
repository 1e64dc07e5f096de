-- Document 01, "Buffers" and "Numbers returned": the whole call, with what it leaves in the buffers. Assumes nothing.
use Rattle.std.specs.Prelude.{ℕ, ◌+◌, ◌*◌, true, false, List, length, replicate, ltb}
use Rattle.rules.specs.Bytes.{overwrite}
use Rattle.rules.specs.Tokens.{Token}
use Rattle.rules.specs.Numbers.{Answer, accepted, too_long, workspace_short, pool_short, not_utf8, refusal, output_short, Result, refused, ok}
use Rattle.rules.specs.Utf8.{well_formed}
use Rattle.rules.specs.Lexing.{tokens, pool_of}
use Rattle.rules.specs.Reading.{reading}

-- what the caller lends
pub record Buffers : Type 0 where
  pub workspace : List ℕ
  pub pool : List ℕ
  pub output : List ℕ

pub record Outcome : Type 0 where
  pub answer : Answer
  pub after : Buffers

-- the most bytes that a text may have
abbrev pub longest : ℕ
longest = 65535

-- the entries of workspace that a text of n bytes needs
unfoldable pub room : ℕ → ℕ
room n = 12 * n + 64

-- "After lexing succeeds, the pool holds the text of all Text and Variable tokens"
unfoldable pub pool_after : Result (List Token) → List ℕ → List ℕ
pool_after (refused r) pool = pool
pool_after (ok ts) pool = overwrite (pool_of ts) pool

-- "From number 5 on, and on 0, the first 12n + 64 workspace entries are zero and the rest unchanged."
unfoldable pub zeroed : List ℕ → List ℕ → List ℕ
zeroed text workspace = overwrite (replicate (room (length text)) 0) workspace

-- the buffers once a well-formed text was read; the output comes last
unfoldable pub read_buffers : List ℕ → Buffers → Buffers
read_buffers text b = record { workspace = zeroed text b.workspace; pool = pool_after (tokens text) b.pool; output = b.output }

-- "17 is given exactly if the output is shorter than all records together"
unfoldable pub written : Result (List ℕ) → Buffers → Outcome
written (refused r) b = record { answer = refusal r; after = b }
written (ok rs) b = elim (ltb (length b.output) (length rs)) [
  | true ↦ record { answer = output_short (length rs); after = b }
  | false ↦ record {
    answer = accepted (length rs);
    after = record { workspace = b.workspace; pool = b.pool; output = overwrite rs b.output };
  }
]

-- as found
unfoldable pub untouched : Answer → Buffers → Outcome
untouched a b = record { answer = a; after = b }

-- "1 to 4 leave the workspace as found. They are tested in that order."
unfoldable pub read : List ℕ → Buffers → Outcome
read text b = elim (ltb longest (length text)) [
  | true ↦ untouched too_long b
  | false ↦ elim (ltb (length b.workspace) (room (length text))) [
    | true ↦ untouched workspace_short b
    | false ↦ elim (ltb (length b.pool) (length text)) [
      | true ↦ untouched pool_short b
      | false ↦ elim (well_formed text) [
        | false ↦ untouched not_utf8 b
        | true ↦ written (reading text) (read_buffers text b)
      ]
    ]
  ]
]
