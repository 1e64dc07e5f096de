-- Records in form, one after another (document 01, "Records and listing"). Assumes nothing.
use Rattle.std.specs.Prelude.{ℕ, zero, suc, Bool, true, false, ◌&&◌, List, [], ◌∷◌, length, eqb}
use Rattle.std.proofs.Math.Option.{Option, none, some}
use Rattle.rules.specs.Bytes.{pick, from_little}
use Rattle.rules.specs.Listing as Rules

-- a record in form: a string's or an argument's bytes, or a list's count; or bytes that break the form
pub data Item : Type 0 where
  value : ℕ → List ℕ → Item
  count : ℕ → ℕ → Item
  broken : Item

-- the item at the front, the bytes after it, and the last field's kind and the arguments due from there on
pub record First : Type 0 where
  pub item : Item
  pub rest : List ℕ
  pub last : ℕ
  pub due : ℕ

-- a record by its form
unfoldable pub formed : ℕ → ℕ → Rules.Front → Rules.Form → Option First
formed last due r Rules.Form.wrong = none
formed last due r Rules.Form.argument = some (record { item = value r.kind r.payload; rest = r.rest; last = last; due = Rules.less due })
formed last due r Rules.Form.string = some (record { item = value r.kind r.payload; rest = r.rest; last = r.kind; due = 0 })
formed last due r Rules.Form.list = pick (eqb (length r.payload) 4) (some (record { item = count r.kind (from_little r.payload); rest = r.rest; last = r.kind; due = from_little r.payload })) none

-- a record after a field of kind `last` with `due` arguments to come
unfoldable pub formed_front : ℕ → ℕ → Rules.Front → Option First
formed_front last due r = formed last due r (Rules.form last due r.kind)

unfoldable pub formed_at : ℕ → ℕ → Option Rules.Front → Option First
formed_at last due none = none
formed_at last due (some r) = formed_front last due r

-- the first record, after such a field
unfoldable pub first_of : ℕ → ℕ → List ℕ → Option First
first_of last due bytes = formed_at last due (Rules.front bytes)

unfoldable pub items_within : ℕ → ℕ → ℕ → List ℕ → List Item
items_within zero last due bytes = []
items_within (suc fuel) last due bytes = pick (eqb (length bytes) 0 && eqb due 0) [] (elim (first_of last due bytes) [
  | none ↦ broken ∷ []
  | some f ↦ f.item ∷ items_within fuel f.last f.due f.rest
])

-- the items from the front on, the last of them where the form breaks
unfoldable pub items_from : ℕ → ℕ → List ℕ → List Item
items_from last due bytes = items_within (suc (length bytes)) last due bytes

unfoldable pub is_some : {A : Type 0} → Option A → Bool
is_some none = false
is_some (some a) = true

-- nothing breaks the form
abbrev pub all_formed : List Item → Bool
all_formed [] = true
all_formed (value k p ∷ is) = all_formed is
all_formed (count k n ∷ is) = all_formed is
all_formed (broken ∷ is) = false
