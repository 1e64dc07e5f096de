-- Variables by their names alone, and what looking for one asks. Assumes nothing.
use Rattle.std.specs.Prelude.{ℕ, List, [], map}
use Rattle.rules.specs.Tokens.{Token}
use Rattle.rules.specs.Lines.{Assignment}
use Rattle.rules.proofs.TableLaws.{Sorted}
use Rattle.workspace.specs.Map.{variable_at}
use Rattle.names.specs.Store.{Texts}

-- the variables of these key tokens, without their values
unfoldable pub named : List Token → List ℕ → List Assignment
named ts keys = map (variable_at ts [] []) keys

-- the keys are Text, in byte order of their names
pub record Searchable (ts : List Token) (keys : List ℕ) : Type 0 where
  pub texts : Texts ts keys
  pub sorted : Sorted (named ts keys)
