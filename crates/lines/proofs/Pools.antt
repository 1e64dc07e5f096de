-- A workspace's tokens have the same kinds with each pool, so what goes by kinds alone holds with each. Assumes nothing.
use Prim.Native.Nat.{ℕ}
use mathlib.Core.Path.{sym, ◌∙◌}
use mathlib.Core.List.{List}
use Rattle.rules.specs.Tokens.{Token}
use Rattle.rules.specs.Lines.{read_line}
use Rattle.tokens.specs.Entries.{decode}
use Rattle.tokens.proofs.TokenLaws.{length-decode, kind-at}
use Rattle.lines.specs.declared.line.LineStart.{LineStart}
use Rattle.lines.specs.Line.{SameKinds, line_at, Starts, EndsValue}

pub pools-alike : (count : ℕ) (ws pool pool' : List ℕ) → SameKinds (decode count ws pool') (decode count ws pool)
pools-alike count ws pool pool' =
    record {
      same_length = length-decode count ws pool' ∙ sym (length-decode count ws pool);
      same_kind = λ k. sym (kind-at count ws pool' k) ∙ kind-at count ws pool k;
    }

-- what the clauses of `line_start` and `value_end` say of a table's tokens, with each pool
module _ (count end : ℕ) (ws pool : List ℕ) where
  pub starts-each : (j : ℕ) (r : LineStart) → ((ts : List Token) → SameKinds ts (decode count ws pool) → Starts ts end j (read_line (line_at ts end j)) r)
      → (pool' : List ℕ) → Starts (decode count ws pool') end j (read_line (line_at (decode count ws pool') end j)) r
  starts-each j r s pool' = s (decode count ws pool') (pools-alike count ws pool pool')

  pub ends-each : (from r : ℕ) → ((ts : List Token) → SameKinds ts (decode count ws pool) → EndsValue ts end from r) → (pool' : List ℕ) → EndsValue (decode count ws pool') end from r
  ends-each from r s pool' = s (decode count ws pool') (pools-alike count ws pool pool')
