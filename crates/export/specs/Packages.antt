-- What the exported call for packages answers, and what it leaves in the lent buffers. Assumes nothing.
use Rattle.std.specs.Prelude.{ℕ, ◌≡◌, List}
use Rattle.rules.specs.Packages.{exported_packages}

-- THE PROMISE: the number, and the final contents of all that is lent, on every input
pub record ExportsPackages (records out det out' det' : List ℕ) (r : ℕ) : Type 0 where
  pub is_number : r ≡ (exported_packages records out det).number
  pub is_output : out' ≡ (exported_packages records out det).output
  pub is_detail : det' ≡ (exported_packages records out det).detail
