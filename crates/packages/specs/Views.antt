-- What the code's items are, and the entries that they yield. Assumes nothing.
use Rattle.std.specs.Prelude.{List, Result, Ok, Err}
use Rattle.packages.specs.declared.cut.Item.{Item}
use Rattle.packages.specs.declared.cut.MalformedItem.{MalformedItem}
use Rattle.packages.specs.declared.cut.Items.{Items}
use Rattle.packages.specs.Cuts.{told_item}
use Rattle.packages.specs.Entries.{Entry, whole, broken, entries_of}

abbrev pub told_entry : Result Item MalformedItem → Entry
told_entry (Ok i) = whole (told_item i)
told_entry (Err e) = broken

abbrev pub entries_left : Items → List Entry
entries_left s = entries_of s.rest.now
