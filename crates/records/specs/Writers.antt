-- What the methods of a writer of records need, and what they do. Assumes nothing.
use Rattle.std.specs.Prelude.{◌≡◌, List, ℕ, length}
use Rattle.writer.specs.Writing.{Written}
use Rattle.records.specs.Recording.{Standing}
use Rattle.records.specs.declared.write.Writer.{Writer}

-- the bytes bs may be written next
abbrev pub Stands : Writer → List ℕ → Type 0
Stands w bs = Standing w.columns.now w.places.now w.stack.now w.out.now w.at bs

-- the bytes bs were written, with the same tables and to the same lent memory
pub record Wrote (a b : Writer) (bs : List ℕ) : Type 0 where
  pub same_places : b.places.ghost_name ≡ a.places.ghost_name
  pub same_stack : b.stack.ghost_name ≡ a.stack.ghost_name
  pub same_out : b.out.ghost_name ≡ a.out.ghost_name
  pub columns : b.columns.now ≡ a.columns.now
  pub places_long : length b.places.now ≡ length a.places.now
  pub stack_long : length b.stack.now ≡ length a.stack.now
  pub written : Written a.columns.now a.places.now a.out.now a.at bs b.places.now b.out.now b.at
