-- Versions in order. Assumes nothing.
use Rattle.std.specs.Prelude.{Bool}
use Rattle.std.specs.declared.cmp.Ordering.{Ordering}
use Rattle.std.specs.Ordering.{is_eq}
use Rattle.rules.specs.Versions.{compare_versions}
use Rattle.versions.specs.declared.version.Version.{Version}
use Rattle.versions.specs.Told.{told}

abbrev pub version_cmp : Version → Version → Ordering
version_cmp a b = told (compare_versions a.0.now b.0.now)

abbrev pub version_eq : Version → Version → Bool
version_eq a b = is_eq (version_cmp a b)
