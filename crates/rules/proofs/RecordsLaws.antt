-- Laws of records: what the reader writes has the form that the listing reads. Assumes nothing.
use Prim.Native.Nat.{ℕ, zero, suc, ◌+◌, ◌<◌, ◌≤◌}
use mathlib.Core.Path.{◌≡◌, refl, ap, sym, subst}
use mathlib.Core.Bool.{Bool, true, false}
use mathlib.Core.List.{List, [], ◌∷◌, ◌++◌, map}
use mathlib.Core.Option.{Option, none, some}
use native.Mathlib.Omega.{arith}
use lib.ListN.{length, length-append}
use lib.Dec.{eqb}
use borrow.Author.Tests.{leb-true, leb-false, eqb-true}
use Rattle.rules.specs.Bytes.{same, all}
use Rattle.rules.specs.Tokens.{Token, is_a, no_name, blank_kind, colon_kind, equals_kind, text_kind, new_line_kind}
use Rattle.rules.specs.Numbers.{WhileResolving, in_field, ok, ◌>>=◌}
use Rattle.rules.specs.Lexing.{tokens, is_identifier}
use Rattle.rules.proofs.LexingLaws.{tokens-room}
use Rattle.rules.specs.Lines.{Part, Line, Ending, newline, end_of_text, Role, on_first, lines, skip_blanks, is_quote, role, listed, arguments, list_value, Template, string, list, field_keys, field, is_string, Item, empty, assignment, given, read_field, read_assignment, nothing_after_key, after_key, after_blanks, read_line, Assignment, Field, File, no_lines, assigned, field_at, keep, read_lines}
use Rattle.rules.specs.Variables.{limit, Found, Expansion, large, missing, value, expand, look_up, resolve_variables}
use Rattle.rules.specs.Fields.{expanded, Content, single, many, resolve_parts, resolve_arguments, resolve_template, Present, fields_from, resolve_fields}
use Rattle.rules.specs.Records.{records}
use Rattle.rules.specs.Reading.{file, records_of_file, reading}
use Rattle.rules.proofs.ExpandLaws.{View, view}
use Rattle.rules.proofs.TableLaws.{bind_ok, ok-one, refused-ok}
use Rattle.rules.specs.Listing.{listing_lines, lines_of_records}
use Rattle.rules.proofs.ListingLaws.{AllSmall, Shape, InOrder, field_lines, listing-reads}

none-some' : {A : Type 0} {a : A} → none ≡ some a → ⊥
none-some' e = let z : ◌≡◌ {A = ℕ} 0 1 = cc in omega arith

some_one : {A : Type 0} {a b : A} → some a ≡ some b → a ≡ b
some_one e = cc

field-range : (keys : List (List ℕ)) (f : ℕ) (key : List ℕ) (g : ℕ) → field f keys key ≡ some g → (f ≤ g) × (g < f + length keys)
unfolding field
field-range [] f key g e = absurd (none-some' e)
field-range (k ∷ keys) f key g e = go (same k key) refl (λ e'. field-range keys (suc f) key g e')
  where
    go : (b : Bool) → same k key ≡ b → (field (suc f) keys key ≡ some g → (suc f ≤ g) × (g < suc f + length keys)) → (f ≤ g) × (g < f + length (k ∷ keys))
    go true q ih = let p : f ≡ g = some_one (rw (q, field) at e) in (omega arith, omega arith)
    go false q ih = let x = ih (rw (q, field) at e) in (omega (arith, x.0), omega (arith, x.1))

listed_le : (ps : List Part) → length (listed ps) ≤ 1
unfolding listed
listed_le [] = omega arith
listed_le (p ∷ ps) = omega arith

arguments-count : (ts : List Token) (q : Token) (e : Bool) (cur : List Part) (found l : List (List Part)) → arguments q e cur found ts ≡ ok l → length l ≤ length found + suc (length ts)
unfolding arguments
arguments-count [] q e cur found l h = go (is_quote q) refl
  where
    go : (b : Bool) → is_quote q ≡ b → length l ≤ length found + 1
    go false p = rw (sym (ok-one (rw (p, arguments) at h))) (simp length-append (omega (arith, listed_le cur)))
    go true p = absurd (refused-ok (rw (p, arguments) at h))
arguments-count (t ∷ ts) q true cur found l h = omega (arith, arguments-count ts q false _ found l h)
arguments-count (t ∷ ts) q false cur found l h = go (role q t ts) refl (λ q' e' cur' found' h'. arguments-count ts q' e' cur' found' l h')
  where
    go : (r : Role) → role q t ts ≡ r → ((q' : Token) (e' : Bool) (cur' : List Part) (found' : List (List Part)) → arguments q' e' cur' found' ts ≡ ok l → length l ≤ length found' + suc (length ts))
        → length l ≤ length found + suc (length (t ∷ ts))
    go Role.part p ih = omega (arith, ih q false _ found (rw (p, arguments) at h))
    go Role.splits p ih = omega (arith, ih q false [] (found ++ listed cur) (rw (p, arguments) at h), length-append found (listed cur), listed_le cur)
    go Role.escapes p ih = omega (arith, ih q true cur found (rw (p, arguments) at h))
    go Role.opens p ih = omega (arith, ih t false cur found (rw (p, arguments) at h))
    go Role.closes p ih = omega (arith, ih no_name false cur found (rw (p, arguments) at h))

-- strings in the fields 1 to 7, lists in 8 to 10, of at most b + 1 arguments
abbrev Typed : ℕ → ℕ → Template → Type 0
Typed b f (string ps) = (0 < f) × (f ≤ 7)
Typed b f (list l) = (7 < f) × (f ≤ 10) × (length l ≤ suc b)

abbrev TypedItem : ℕ → Item → Type 0
TypedItem b empty = Unit {0}
TypedItem b (assignment key ps) = Unit {0}
TypedItem b (given f key v) = Typed b f v

skip-length : (ts : List Token) → length (skip_blanks ts) ≤ length ts
unfolding skip_blanks
skip-length [] = omega arith
skip-length (t ∷ ts) = go (is_a blank_kind t) refl (skip-length ts)
  where
    go : (b : Bool) → is_a blank_kind t ≡ b → length (skip_blanks ts) ≤ length ts → length (skip_blanks (t ∷ ts)) ≤ length (t ∷ ts)
    go true q h = rw (q, skip_blanks) (omega arith)
    go false q h = rw (q, skip_blanks) (omega arith)

field-typed : (key : Token) (ending : Ending) (ts : List Token) (item : Item) (b : ℕ) → length ts ≤ b → read_field key ending ts ≡ ok item → TypedItem b item
unfolding read_field field_keys is_string list_value
field-typed key ending ts item b l e = go (field 1 field_keys key.text) refl
  where
    inner : (f : ℕ) → field 1 field_keys key.text ≡ some f → (c : Bool) → is_string f ≡ c → TypedItem b item
    inner f q true p = subst (TypedItem b) (ok-one (rw (q, p, read_field) at e)) (omega (arith, (field-range field_keys 1 key.text f q).0), leb-true f 7 p)
    inner f q false p =
        let x = bind_ok (list_value ts) (λ v. ok (given f key (list v))) item (rw (q, p, read_field) at e) in
        subst (TypedItem b) (ok-one x.2)
        (leb-false f 7 p, omega (arith, (field-range field_keys 1 key.text f q).1), omega (arith, arguments-count ts no_name false [] [] x.0 x.1))

    go : (o : Option ℕ) → field 1 field_keys key.text ≡ o → TypedItem b item
    go none q = absurd (refused-ok (rw (q, read_field) at e))
    go (some f) q = inner f q (is_string f) refl

variable-typed : (key : Token) (ending : Ending) (ts : List Token) (item : Item) (b : ℕ) → read_assignment key ending ts ≡ ok item → TypedItem b item
unfolding read_assignment
variable-typed key ending ts item b e = go (all is_identifier key.text) refl
  where
    go : (c : Bool) → all is_identifier key.text ≡ c → TypedItem b item
    go true q = subst (TypedItem b) (ok-one (rw (q, read_assignment) at e)) tt
    go false q = absurd (refused-ok (rw (q, read_assignment) at e))

after-typed : (key : Token) (ending : Ending) (ts : List Token) (item : Item) (b : ℕ) → length ts ≤ b → after_key key ending ts ≡ ok item → TypedItem b item
unfolding after_key nothing_after_key
after-typed key (newline t) [] item b l e = absurd (refused-ok e)
after-typed key end_of_text [] item b l e = absurd (refused-ok e)
after-typed key ending (t ∷ ts) item b l e = go (is_a colon_kind t) (is_a equals_kind t) refl refl
  where
    go : (c d : Bool) → is_a colon_kind t ≡ c → is_a equals_kind t ≡ d → TypedItem b item
    go true d p q = field-typed key ending (skip_blanks ts) item b (omega (arith, skip-length ts)) (rw (p, after_key) at e)
    go false true p q = variable-typed key ending (skip_blanks ts) item b (rw (p, q, after_key) at e)
    go false false p q = absurd (refused-ok (rw (p, q, after_key) at e))

line-typed : (ending : Ending) (ts : List Token) (item : Item) (b : ℕ) → length ts ≤ b → after_blanks ending ts ≡ ok item → TypedItem b item
unfolding after_blanks
line-typed ending [] item b l e = subst (TypedItem b) (ok-one e) tt
line-typed ending (t ∷ ts) item b l e = go (is_a text_kind t) refl
  where
    go : (c : Bool) → is_a text_kind t ≡ c → TypedItem b item
    go true p = after-typed t ending (skip_blanks ts) item b (omega (arith, skip-length ts)) (rw (p, after_blanks) at e)
    go false p = absurd (refused-ok (rw (p, after_blanks) at e))

abbrev AllTyped : ℕ → List Field → Type 0
AllTyped b [] = Unit {0}
AllTyped b (g ∷ gs) = Typed b g.number g.value × AllTyped b gs

snoc-typed : (b : ℕ) (gs : List Field) (g : Field) → AllTyped b gs → Typed b g.number g.value → AllTyped b (gs ++ (g ∷ []))
snoc-typed b [] g h x = (x, tt)
snoc-typed b (f ∷ gs) g h x = (h.0, snoc-typed b gs g h.1 x)

keep_typed : (f more : File) (item : Item) (b : ℕ) → AllTyped b f.fields → TypedItem b item → keep f item ≡ ok more → AllTyped b more.fields
unfolding keep
keep_typed f more empty b h x e = subst (λ (g : File). AllTyped b g.fields) (ok-one e) h
keep_typed f more (assignment key ps) b h x e = go (assigned key.text f.variables) refl
  where
    go : (c : Bool) → assigned key.text f.variables ≡ c → AllTyped b more.fields
    go true q = absurd (refused-ok (rw (q, keep) at e))
    go false q = subst (λ (g : File). AllTyped b g.fields) (ok-one (rw (q, keep) at e)) h
keep_typed f more (given n key v) b h x e = go (field_at n f.fields) refl
  where
    go : (o : Option Field) → field_at n f.fields ≡ o → AllTyped b more.fields
    go (some w) q = absurd (refused-ok (rw (q, keep) at e))
    go none q = subst (λ (g : File). AllTyped b g.fields) (ok-one (rw (q, keep) at e)) (snoc-typed b f.fields (record { number = n; key = key; value = v }) h x)

abbrev Short : ℕ → List Line → Type 0
Short b [] = Unit {0}
Short b (l ∷ ls) = (length l.content ≤ b) × Short b ls

read-typed : (ls : List Line) (f more : File) (b : ℕ) → Short b ls → AllTyped b f.fields → read_lines f ls ≡ ok more → AllTyped b more.fields
unfolding read_lines read_line
read-typed [] f more b s h e = subst (λ (g : File). AllTyped b g.fields) (ok-one e) h
read-typed (l ∷ ls) f more b s h e =
    let x = bind_ok (read_line l) (λ item. keep f item >>= λ g. read_lines g ls) more e in
    let y = bind_ok (keep f x.0) (λ g. read_lines g ls) more x.2 in
    read-typed ls y.0 more b s.1 (keep_typed f y.0 x.0 b h (line-typed l.ending (skip_blanks l.content) x.0 b (omega (arith, s.0, skip-length l.content)) x.1) y.1) y.2

weaken : (ls : List Line) (b c : ℕ) → b ≤ c → Short b ls → Short c ls
weaken [] b c h s = tt
weaken (l ∷ ls) b c h s = (omega (arith, s.0), weaken ls b c h s.1)

first_short : (t : Token) (ls : List Line) (b : ℕ) → Short b ls → Short (suc b) (on_first t ls)
unfolding on_first
first_short t [] b s = tt
first_short t (l ∷ ls) b s = (omega (arith, s.0), weaken ls b (suc b) (omega arith) s.1)

lines-short : (ts : List Token) → Short (length ts) (lines ts)
unfolding lines
lines-short [] = (omega arith, tt)
lines-short (t ∷ ts) = go (is_a new_line_kind t) refl (lines-short ts)
  where
    go : (c : Bool) → is_a new_line_kind t ≡ c → Short (length ts) (lines ts) → Short (suc (length ts)) (lines (t ∷ ts))
    go true q s = rw (q, lines) (omega arith, weaken (lines ts) (length ts) (suc (length ts)) (omega arith) s)
    go false q s = rw (q, lines) (first_short t (lines ts) (length ts) s)

file-typed : (input : List ℕ) (f : File) → file input ≡ ok f → AllTyped (length input) f.fields
unfolding file no_lines
file-typed input f e =
    let x = bind_ok (tokens input) (λ ts. read_lines no_lines (lines ts)) f e in
    read-typed (lines x.0) no_lines f (length input) (weaken (lines x.0) (length x.0) (length input) (tokens-room input x.0 x.1).0 (lines-short x.0)) tt x.2

field-at : (b f : ℕ) (gs : List Field) (g : Field) → AllTyped b gs → field_at f gs ≡ some g → Typed b f g.value
unfolding field_at
field-at b f [] g h e = absurd (none-some' e)
field-at b f (x ∷ gs) g h e = go (eqb f x.number) refl (λ e'. field-at b f gs g h.1 e')
  where
    go : (c : Bool) → eqb f x.number ≡ c → (field_at f gs ≡ some g → Typed b f g.value) → Typed b f g.value
    go true q ih = subst (λ (y : Field). Typed b f y.value) (some_one (rw (q, field_at) at e)) (rw (eqb-true f x.number q) h.0)
    go false q ih = ih (rw (q, field_at) at e)

module _ (vs : List Assignment) (vals : Found) (w : WhileResolving) where
  parts-small : (ps : List Part) (v : List ℕ) → resolve_parts vs vals w ps ≡ ok v → length v ≤ limit
  unfolding resolve_parts expanded
  parts-small ps v e = go (expand vals [] (map (look_up vs) ps)) refl
    where
      go : (x : Expansion) → expand vals [] (map (look_up vs) ps) ≡ x → length v ≤ limit
      go large q = absurd (refused-ok (rw q at e))
      go (missing n) q = absurd (refused-ok (rw q at e))
      go (value u) q =
          let x : View vals (map (look_up vs) ps) (value u) = rw q at (view vals (map (look_up vs) ps)) in
          let p : u ≡ v = ok-one (rw q at e) in
          omega (arith, x.0, ap length x.2, ap length p)

  arguments-small : (l : List (List Part)) (more : List (List ℕ)) → resolve_arguments vs vals w l ≡ ok more → (length more ≡ length l) × AllSmall more
  unfolding resolve_arguments
  arguments-small [] more e = subst (λ (m : List (List ℕ)). (length m ≡ 0) × AllSmall m) (ok-one e) (refl, tt)
  arguments-small (ps ∷ l) more e =
      let x = bind_ok (resolve_parts vs vals w ps) (λ v. resolve_arguments vs vals w l >>= λ m. ok (v ∷ m)) more e in
      let y = bind_ok (resolve_arguments vs vals w l) (λ m. ok (x.0 ∷ m)) more x.2 in
      let z = arguments-small l y.0 y.1 in
      subst (λ (m : List (List ℕ)). (length m ≡ suc (length l)) × AllSmall m) (ok-one y.2) (ap suc z.0, (parts-small ps x.0 x.1, z.1))

  template-shape : (b f : ℕ) (v : Template) (c : Content) → b < 65536 → Typed b f v → resolve_template vs vals w v ≡ ok c → Shape f c
  unfolding resolve_template
  template-shape b f (string ps) c h t e =
      let x = bind_ok (resolve_parts vs vals w ps) (λ v. ok (single v)) c e in
      subst (Shape f) (ok-one x.2) (t.1, parts-small ps x.0 x.1)
  template-shape b f (list l) c h t e =
      let x = bind_ok (resolve_arguments vs vals w l) (λ m. ok (many m)) c e in
      let y = arguments-small l x.0 x.1 in
      subst (Shape f) (ok-one x.2) (t.0, t.1, omega (arith, y.0, t.2), y.1)

in_order : (k f last : ℕ) (file : File) (vals : Found) (b : ℕ) (ps : List Present) → last < f → b < 65536 → AllTyped b file.fields → fields_from k f file vals ≡ ok ps → InOrder last ps
unfolding fields_from
in_order zero f last file vals b ps h l t e = subst (InOrder last) (ok-one e) tt
in_order (suc k) f last file vals b ps h l t e = go (field_at f file.fields) refl (λ last' ps' h' e'. in_order k (suc f) last' file vals b ps' h' l t e')
  where
    go : (o : Option Field) → field_at f file.fields ≡ o
        → ((last' : ℕ) (ps' : List Present) → last' < suc f → fields_from k (suc f) file vals ≡ ok ps' → InOrder last' ps') → InOrder last ps
    go none q ih = ih last ps (omega arith) (rw (q, fields_from) at e)
    go (some g) q ih =
        let x = bind_ok (resolve_template file.variables vals (in_field f g.key) g.value) (λ c. fields_from k (suc f) file vals >>= λ m. ok (record { number = f; content = c } ∷ m)) ps (rw (q, fields_from) at e) in
        let y = bind_ok (fields_from k (suc f) file vals) (λ m. ok (record { number = f; content = x.0 } ∷ m)) ps x.2 in
        subst (InOrder last) (ok-one y.2)
        (h, template-shape file.variables vals (in_field f g.key) b f g.value x.0 l (field-at b f file.fields g t q) x.1, ih f y.0 (omega arith) y.1)

-- what a text reads as has the form of records
pub reading-in-order : (input output : List ℕ) → length input < 65536 → reading input ≡ ok output → (ps : List Present) × InOrder 0 ps × (output ≡ records ps)
unfolding reading records_of_file resolve_fields
reading-in-order input output l e =
    let x = bind_ok (file input) records_of_file output e in
    let y = bind_ok (resolve_variables x.0.variables) (λ vals. resolve_fields x.0 vals >>= λ ps. ok (records ps)) output x.2 in
    let z = bind_ok (resolve_fields x.0 y.0) (λ ps. ok (records ps)) output y.2 in
    (z.0, in_order 10 1 0 x.0 y.0 (length input) z.0 (omega arith) l (file-typed input x.0 x.1) z.1, sym (ok-one z.2))

-- the records of a text are listed, with a line for each
pub reading-listed : (input output : List ℕ) → length input < 65536 → reading input ≡ ok output → (shown : List ℕ) × (lines_of_records output ≡ some shown)
unfolding lines_of_records
reading-listed input output l e =
    let x = reading-in-order input output l e in
    subst (λ (r : List ℕ). (shown : List ℕ) × (listing_lines (suc (length r)) 0 0 r ≡ some shown)) (sym x.2) (field_lines x.0, listing-reads x.0 x.1)
