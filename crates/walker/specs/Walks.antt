-- What the code's records in form are, and the items that its walk yields. Assumes nothing.
use Rattle.std.specs.Prelude.{ℕ, List, Result, Ok, Err}
use Rattle.walker.specs.Forms.{Item, value, count, broken, First, items_from}
use Rattle.walker.specs.declared.form.FormedRecord.{FormedRecord}
use Rattle.walker.specs.declared.form.Content.{Content}
use Rattle.walker.specs.declared.form.Content.TheVariants.{Bytes, Count}
use Rattle.walker.specs.declared.form.NotRecords.{NotRecords}
use Rattle.walker.specs.declared.form.Walk.{Walk}

abbrev pub content_told : ℕ → Content → Item
content_told kind (Bytes b) = value kind b.now
content_told kind (Count n) = count kind n

abbrev pub record_told : FormedRecord → Item
record_told r = content_told r.kind r.content

-- an error stands for bytes that break the form
abbrev pub item_told : Result FormedRecord NotRecords → Item
item_told (Ok r) = record_told r
item_told (Err e) = broken

abbrev pub told_first : FormedRecord → Walk → First
told_first r w = record { item = record_told r; rest = w.rest.now; last = w.last; due = w.due }

-- the items that are left
abbrev pub items_left : Walk → List Item
items_left w = items_from w.last w.due w.rest.now

-- the items of all the records
abbrev pub items_of : List ℕ → List Item
items_of bytes = items_from 0 0 bytes
