-- A buffer as a sink. Assumes nothing.
use Rattle.std.specs.Prelude.{ℕ, ◌+◌, ◌-◌, ◌≡◌, List, [], ◌++◌, length}
use Rattle.std.proofs.Common.{arith, refl, ap, ◌∙◌}
use Rattle.std.proofs.lemmas.List.{length-append}
use Rattle.scan.specs.Stores.{puts}
use Rattle.scan.proofs.Stores.{puts-puts}
use Rattle.sink.specs.declared.Buffer.{Buffer}

-- how many bytes may still go there
abbrev pub room_in : Buffer → ℕ
room_in b = length b.bytes.now - b.at

-- the bytes were stored at the next place, in the same memory
pub record Stores (a : Buffer) (xs : List ℕ) (b : Buffer) : Type 0 where
  pub bytes : b.bytes.now ≡ puts a.bytes.now a.at xs
  pub at : b.at ≡ a.at + length xs
  pub same_reference : b.bytes.ghost_name ≡ a.bytes.ghost_name

pub stores_then : (a : Buffer) (xs : List ℕ) (b : Buffer) (ys : List ℕ) (c : Buffer) → Stores a xs b → Stores b ys c → Stores a (xs ++ ys) c
stores_then a xs b ys c p q = record {
  bytes = q.bytes ∙ ap (λ (l : List ℕ). puts l b.at ys) p.bytes ∙ ap (λ (i : ℕ). puts (puts a.bytes.now a.at xs) i ys) p.at ∙ puts-puts a.bytes.now a.at xs ys;
  at = omega (arith, p.at, q.at, length-append xs ys);
  same_reference = q.same_reference ∙ p.same_reference;
}

pub stores_nothing : (a : Buffer) → Stores a [] a
stores_nothing a = record { bytes = refl; at = omega arith; same_reference = refl }
