-- What a stack holds: the entries from its top on, three a frame, the last pushed first. Assumes nothing.
use Rattle.std.specs.Prelude.{ℕ, List, drop}
use Rattle.writer.specs.declared.stack.Stack.{Stack}

abbrev pub frames : Stack → List ℕ
frames s = drop s.top s.entries.now
