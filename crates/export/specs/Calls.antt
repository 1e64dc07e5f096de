-- What the exported calls answer, and what they leave in the lent buffers (document 01, "Records and listing"). Assumes nothing.
use Rattle.std.specs.Prelude.{ℕ, ◌≡◌, List, [], ◌∷◌, replicate}
use Rattle.rules.specs.Export.{exported_in, exported}
use Rattle.answers.specs.declared.Answer.{Answer}
use Rattle.answers.specs.Tells.{number_of}
use Rattle.pkg_config.specs.Call.{lent}
use Rattle.export.specs.Details.{numbers_bytes}

-- THE PROMISE of the call with a lent workspace: the number, and the final contents of all that is lent, on every input
pub record ExportsIn (text ws pool out det ws' pool' out' det' : List ℕ) (r : ℕ) : Type 0 where
  pub is_number : r ≡ (exported_in text (lent ws pool out) det).number
  pub is_workspace : ws' ≡ (exported_in text (lent ws pool out) det).after.workspace
  pub is_pool : pool' ≡ (exported_in text (lent ws pool out) det).after.pool
  pub is_output : out' ≡ (exported_in text (lent ws pool out) det).after.output
  pub is_detail : det' ≡ (exported_in text (lent ws pool out) det).detail

-- of a call whose workspace has so many entries, whatever they hold
pub record ExportsWith (entries : ℕ) (text pool out det pool' out' det' : List ℕ) (r : ℕ) : Type 0 where
  pub is_number : r ≡ (exported_in text (lent (replicate entries 0) pool out) det).number
  pub is_pool : pool' ≡ (exported_in text (lent (replicate entries 0) pool out) det).after.pool
  pub is_output : out' ≡ (exported_in text (lent (replicate entries 0) pool out) det).after.output
  pub is_detail : det' ≡ (exported_in text (lent (replicate entries 0) pool out) det).detail

-- THE PROMISE of the call with its own workspace
pub record Exports (text pool out det pool' out' det' : List ℕ) (r : ℕ) : Type 0 where
  pub is_number : r ≡ (exported text pool out det).number
  pub is_pool : pool' ≡ (exported text pool out det).after.pool
  pub is_output : out' ≡ (exported text pool out det).after.output
  pub is_detail : det' ≡ (exported text pool out det).detail

-- the six numbers of an answer of the code
abbrev pub detail_of : Answer → List ℕ
detail_of a = numbers_bytes (number_of a.number ∷ a.detail.value ∷ a.detail.first.place ∷ a.detail.first.length ∷ a.detail.second.place ∷ a.detail.second.length ∷ [])
