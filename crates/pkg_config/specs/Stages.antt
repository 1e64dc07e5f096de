-- What the stages after the lines ask of the workspace. Assumes nothing.
use Rattle.std.specs.Prelude.{ℕ, ◌≤◌, ◌<◌, ◌≡◌, List, get_or, Ok}
use Rattle.rules.specs.Tokens.{Token}
use Rattle.rules.specs.Numbers as Rules
use Rattle.rules.specs.Numbers.{in_variable, in_field, undefined_variable, content_too_large}
use Rattle.rules.specs.Lines.{Assignment}
use Rattle.rules.specs.Variables.{key_at}
use Rattle.rules.proofs.TableLaws.{Sorted}
use Rattle.tokens.specs.Entries.{decode, token_at}
use Rattle.workspace.specs.Map.{Room, keys_of, ends_of, variables_in, Looked}
use Rattle.names.specs.Store.{Texts}
use Rattle.passes.specs.declared.visits.Unresolved.{Unresolved}
use Rattle.passes.specs.declared.visits.Unresolved.TheVariants as Variable
use Rattle.writer.specs.Tables.{tables_in}
use Rattle.writer.specs.Writing.{Ready}
use Rattle.records.specs.Contents.{fields_of, Spans}
use Rattle.records.specs.Measuring.{measure_in}
use Rattle.records.specs.declared.measure.Stop.{Stop}
use Rattle.records.specs.declared.measure.Stop.TheVariants as Field

-- the lines are read: workspace and pool hold a file
pub record Filed (n count v : ℕ) (ws pool : List ℕ) : Type 0 where
  pub room : Room n count v ws
  pub sorted : Sorted (variables_in n count v ws pool)
  pub texts : Texts (decode count ws pool) (keys_of n v ws)
  pub in_table : (j : ℕ) → j < v → get_or (ends_of n ws) (get_or (keys_of n v ws) j 0) 0 ≤ count
  pub spans : Spans count (tables_in n count v ws pool) (fields_of n ws)

-- its references are looked up, and its variables are resolved
pub record Solved (n count v : ℕ) (ws pool : List ℕ) : Type 0 where
  pub room : Room n count v ws
  pub ready : Ready count v (tables_in n count v ws pool)
  pub looked : Looked n count ws pool (variables_in n count v ws pool)
  pub spans : Spans count (tables_in n count v ws pool) (fields_of n ws)

-- and its fields, whose records need so many bytes
pub record Measures (n count v need : ℕ) (ws pool : List ℕ) : Type 0 where
  pub solved : Solved n count v ws pool
  pub is_need : Ok need ≡ measure_in n count v ws pool

-- what 15 and 16 say of a variable, by its rank
abbrev pub unresolved : List Token → List Assignment → Unresolved → Rules.Refusal
unresolved ts vs (Variable.TooLarge i) = content_too_large (in_variable (key_at vs i))
unresolved ts vs (Variable.Lacks i j) = undefined_variable (token_at ts j) (in_variable (key_at vs i))

-- and of a field, by its number
abbrev pub stopped : List Token → Token → Stop → Rules.Refusal
stopped ts key (Field.Undefined f j) = undefined_variable (token_at ts j) (in_field f key)
stopped ts key (Field.TooLarge f) = content_too_large (in_field f key)
