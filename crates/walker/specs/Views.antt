-- What the code's record is, and the list that its records yield. Assumes nothing.
use Rattle.std.specs.Prelude.{List}
use Rattle.walker.specs.Records.{Told, records_of}
use Rattle.walker.specs.declared.front.Record.{Record}
use Rattle.walker.specs.declared.front.Records.{Records}

abbrev pub told_of : Record → Told
told_of r = record { kind = r.kind; payload = r.payload.now }

abbrev pub records_left : Records → List Told
records_left s = records_of s.rest.now
