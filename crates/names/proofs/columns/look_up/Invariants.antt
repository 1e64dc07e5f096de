use Rattle.std.proofs.Common.{◌≡◌, take}
use Rattle.rules.specs.Bytes.{overwrite}
use Rattle.names.specs.Store.{ranks}
use Rattle.names.specs.Named.{named}
use Rattle.names.proofs.columns.look_up.Given as goal

abbrev pub invariant-loop-j : goal.invariant-loop-j
invariant-loop-j l = l.column ≡ overwrite (take l.j (ranks (named l.tokens l.keys) l.tokens)) l.initial.column
