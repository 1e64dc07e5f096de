-- A counter as a sink. Assumes nothing.
use Rattle.std.specs.Prelude.{ℕ, ◌+◌, ◌≡◌, List, [], ◌++◌, length}
use Rattle.std.proofs.Common.{arith}
use Rattle.std.proofs.lemmas.List.{length-append}
use Rattle.sink.specs.declared.Counter.{Counter}

-- the bytes were counted
pub record Counts (a : Counter) (xs : List ℕ) (b : Counter) : Type 0 where
  pub count : b.count ≡ a.count + length xs

pub counts_then : (a : Counter) (xs : List ℕ) (b : Counter) (ys : List ℕ) (c : Counter) → Counts a xs b → Counts b ys c → Counts a (xs ++ ys) c
counts_then a xs b ys c p q = record { count = omega (arith, p.count, q.count, length-append xs ys) }

pub counts_nothing : (a : Counter) → Counts a [] a
counts_nothing a = record { count = omega arith }
