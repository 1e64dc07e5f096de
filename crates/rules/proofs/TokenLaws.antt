-- Whatever holds of all tokens of a text holds of the keys and references of its file, and of the tokens that a refusal carries. Assumes nothing.
use Prim.Native.Nat.{ℕ}
use mathlib.Core.Path.{◌≡◌, refl}
use mathlib.Core.Bool.{Bool, true, false}
use mathlib.Core.List.{List, [], ◌∷◌, ◌++◌, map}
use mathlib.Core.Option.{Option, none, some}
use Rattle.rules.specs.Bytes.{all, before, pick}
use Rattle.rules.specs.Tokens.{Token, no_name, is_a, text_kind, variable_kind, blank_kind, colon_kind, equals_kind, new_line_kind}
use Rattle.rules.specs.Numbers.{lex_error, Refusal, unexpected_at_start, unexpected_after_key, ended_after_key, invalid_variable_name, duplicate_variable, unknown_field, duplicate_field, unterminated_quote, undefined_variable, content_too_large, Result, refused, ok, ◌>>=◌}
use Rattle.rules.specs.Lexing.{is_identifier, tokens}
use Rattle.rules.specs.Lines.{Part, as_part, Assignment, Field, File, no_lines, Item, Line, Ending, newline, end_of_text, Role, Template, on_first, lines, skip_blanks, drop_last_blank, trimmed, string_value, is_quote, role, listed, arguments, list_value, field_keys, field, is_string, read_field, read_assignment, nothing_after_key, after_key, after_blanks, read_line, assigned, insert, field_at, keep, read_lines}
use Rattle.rules.specs.Reading.{file}

module _ (P : Token → Type 0) where
  abbrev pub Each : List Token → Type 0
  Each [] = Unit {0}
  Each (t ∷ ts) = P t × Each ts

  abbrev pub InEnding : Ending → Type 0
  InEnding (newline t) = P t
  InEnding end_of_text = Unit {0}

  abbrev pub InLines : List Line → Type 0
  InLines [] = Unit {0}
  InLines (l ∷ ls) = (Each l.content × InEnding l.ending) × InLines ls

  -- a reference is a token of kind Variable
  abbrev pub InPart : Part → Type 0
  InPart (Part.text s) = Unit {0}
  InPart (Part.reference n) = P n × (is_a variable_kind n ≡ true)

  abbrev pub InParts : List Part → Type 0
  InParts [] = Unit {0}
  InParts (p ∷ ps) = InPart p × InParts ps

  abbrev pub InAll : List (List Part) → Type 0
  InAll [] = Unit {0}
  InAll (ps ∷ l) = InParts ps × InAll l

  abbrev pub InTemplate : Template → Type 0
  InTemplate (Template.string ps) = InParts ps
  InTemplate (Template.list l) = InAll l

  -- a key is a token of kind Text
  abbrev pub IsKey : Token → Type 0
  IsKey k = P k × (is_a text_kind k ≡ true)

  abbrev pub InItem : Item → Type 0
  InItem Item.empty = Unit {0}
  InItem (Item.assignment key ps) = IsKey key × InParts ps
  InItem (Item.given f key v) = IsKey key × InTemplate v

  abbrev pub InVariables : List Assignment → Type 0
  InVariables [] = Unit {0}
  InVariables (v ∷ vs) = (IsKey v.key × InParts v.value) × InVariables vs

  abbrev pub InFields : List Field → Type 0
  InFields [] = Unit {0}
  InFields (g ∷ gs) = (IsKey g.key × InTemplate g.value) × InFields gs

  abbrev pub InFile : File → Type 0
  InFile x = InVariables x.variables × InFields x.fields

  -- the tokens that a refusal of a line carries
  abbrev pub Carried : Refusal → Type 0
  Carried (lex_error e at) = Unit {0}
  Carried (unexpected_at_start t) = P t
  Carried (unexpected_after_key t) = P t
  Carried ended_after_key = Unit {0}
  Carried (invalid_variable_name k) = IsKey k
  Carried (duplicate_variable k) = IsKey k
  Carried (unknown_field k) = IsKey k
  Carried (duplicate_field k) = IsKey k
  Carried (unterminated_quote t) = Unit {0}
  Carried (undefined_variable n w) = Unit {0}
  Carried (content_too_large w) = Unit {0}

  abbrev pub Gives : {A : Type 0} → (A → Type 0) → Result A → Type 0
  Gives Q (refused r) = Carried r
  Gives Q (ok a) = Q a

  gives_then : {A B : Type 0} (Q : A → Type 0) (R : B → Type 0) (r : Result A) (f : A → Result B) → Gives Q r → ((a : A) → Q a → Gives R (f a)) → Gives R (r >>= f)
  unfolding ◌>>=◌
  gives_then Q R (refused r) f h g = h
  gives_then Q R (ok a) f h g = g a h

  on-first : (t : Token) (ls : List Line) → P t → InLines ls → InLines (on_first t ls)
  unfolding on_first
  on-first t [] p h = tt
  on-first t (l ∷ ls) p h = (((p, h.0.0), h.0.1), h.1)

  lines-each : (ts : List Token) → Each ts → InLines (lines ts)
  unfolding lines
  lines-each [] h = ((tt, tt), tt)
  lines-each (t ∷ ts) h = go (is_a new_line_kind t) refl (lines-each ts h.1)
    where
      go : (b : Bool) → is_a new_line_kind t ≡ b → InLines (lines ts) → InLines (lines (t ∷ ts))
      go true q ih = rw (q, lines) ((tt, h.0), ih)
      go false q ih = rw (q, lines) (on-first t (lines ts) h.0 ih)

  skip-each : (ts : List Token) → Each ts → Each (skip_blanks ts)
  unfolding skip_blanks
  skip-each [] h = tt
  skip-each (t ∷ ts) h = go (is_a blank_kind t) refl (skip-each ts h.1)
    where
      go : (b : Bool) → is_a blank_kind t ≡ b → Each (skip_blanks ts) → Each (skip_blanks (t ∷ ts))
      go true q ih = rw (q, skip_blanks) ih
      go false q ih = rw (q, skip_blanks) h

  drop-each : (ts : List Token) → Each ts → Each (drop_last_blank ts)
  unfolding drop_last_blank pick
  drop-each [] h = tt
  drop-each (t ∷ []) h = go (is_a blank_kind t) refl
    where
      go : (b : Bool) → is_a blank_kind t ≡ b → Each (drop_last_blank (t ∷ []))
      go true q = rw (q, drop_last_blank) tt
      go false q = rw (q, drop_last_blank) h
  drop-each (t ∷ u ∷ ts) h = (h.0, drop-each (u ∷ ts) h.1)

  trimmed-each : (ending : Ending) (ts : List Token) → Each ts → Each (trimmed ending ts)
  unfolding trimmed
  trimmed-each (newline t) ts h = drop-each ts h
  trimmed-each end_of_text ts h = h

  part_in : (t : Token) → P t → InPart (as_part t)
  unfolding as_part pick
  part_in t h = go (is_a variable_kind t) refl
    where
      go : (b : Bool) → is_a variable_kind t ≡ b → InPart (as_part t)
      go true q = rw (q, as_part) (h, q)
      go false q = rw (q, as_part) tt

  parts_in : (ts : List Token) → Each ts → InParts (map as_part ts)
  parts_in [] h = tt
  parts_in (t ∷ ts) h = (part_in t h.0, parts_in ts h.1)

  snoc-in : (ps : List Part) (p : Part) → InParts ps → InPart p → InParts (ps ++ (p ∷ []))
  snoc-in [] p h k = (k, tt)
  snoc-in (q ∷ ps) p h k = (h.0, snoc-in ps p h.1 k)

  listed_in : (found : List (List Part)) (ps : List Part) → InAll found → InParts ps → InAll (found ++ listed ps)
  unfolding listed
  listed_in [] [] h k = tt
  listed_in [] (p ∷ ps) h k = (k, tt)
  listed_in (l ∷ found) ps h k = (h.0, listed_in found ps h.1 k)

  arguments-in : (ts : List Token) (quote : Token) (escaped : Bool) (current : List Part) (found : List (List Part)) → Each ts → InParts current → InAll found
      → Gives InAll (arguments quote escaped current found ts)
  unfolding arguments
  arguments-in [] quote escaped current found h c f = go (is_quote quote) refl
    where
      go : (b : Bool) → is_quote quote ≡ b → Gives InAll (arguments quote escaped current found [])
      go true q = rw (q, arguments) tt
      go false q = rw (q, arguments) (listed_in found current f c)
  arguments-in (t ∷ ts) quote true current found h c f = arguments-in ts quote false (current ++ (as_part t ∷ [])) found h.1 (snoc-in current (as_part t) c (part_in t h.0)) f
  arguments-in (t ∷ ts) quote false current found h c f = go (role quote t ts) refl (λ q e cur fnd x y. arguments-in ts q e cur fnd h.1 x y)
    where
      go : (r : Role) → role quote t ts ≡ r
          → ((q : Token) (e : Bool) (cur : List Part) (fnd : List (List Part)) → InParts cur → InAll fnd → Gives InAll (arguments q e cur fnd ts))
          → Gives InAll (arguments quote false current found (t ∷ ts))
      go Role.part q ih = rw (q, arguments) (ih quote false (current ++ (as_part t ∷ [])) found (snoc-in current (as_part t) c (part_in t h.0)) f)
      go Role.splits q ih = rw (q, arguments) (ih quote false [] (found ++ listed current) tt (listed_in found current f c))
      go Role.opens q ih = rw (q, arguments) (ih t false current found c f)
      go Role.closes q ih = rw (q, arguments) (ih no_name false current found c f)
      go Role.escapes q ih = rw (q, arguments) (ih quote true current found c f)

  field_in : (key : Token) (ending : Ending) (ts : List Token) → IsKey key → Each ts → Gives InItem (read_field key ending ts)
  unfolding read_field list_value string_value
  field_in key ending ts k h = go (field 1 field_keys key.text) refl
    where
      known : (f : ℕ) (b : Bool) → is_string f ≡ b → field 1 field_keys key.text ≡ some f → Gives InItem (read_field key ending ts)
      known f true p q = rw (q, read_field) (rw p (k, parts_in (trimmed ending ts) (trimmed-each ending ts h)))
      known f false p q =
          rw (q, read_field)
          (rw p (gives_then InAll InItem (list_value ts) (λ v. ok (Item.given f key (Template.list v))) (arguments-in ts no_name false [] [] h tt tt) (λ v x. (k, x))))

      go : (o : Option ℕ) → field 1 field_keys key.text ≡ o → Gives InItem (read_field key ending ts)
      go none q = rw (q, read_field) k
      go (some f) q = known f (is_string f) refl q

  assignment-in : (key : Token) (ending : Ending) (ts : List Token) → IsKey key → Each ts → Gives InItem (read_assignment key ending ts)
  unfolding read_assignment string_value
  assignment-in key ending ts k h = go (all is_identifier key.text) refl
    where
      go : (b : Bool) → all is_identifier key.text ≡ b → Gives InItem (read_assignment key ending ts)
      go true q = rw (q, read_assignment) (k, parts_in (trimmed ending ts) (trimmed-each ending ts h))
      go false q = rw (q, read_assignment) k

  after-in : (key : Token) (ending : Ending) (ts : List Token) → IsKey key → InEnding ending → Each ts → Gives InItem (after_key key ending ts)
  unfolding after_key nothing_after_key
  after-in key (newline t) [] k e h = e
  after-in key end_of_text [] k e h = tt
  after-in key ending (t ∷ ts) k e h = go (is_a colon_kind t) refl (is_a equals_kind t) refl
    where
      go : (x : Bool) → is_a colon_kind t ≡ x → (y : Bool) → is_a equals_kind t ≡ y → Gives InItem (after_key key ending (t ∷ ts))
      go true q y p = rw (q, after_key) (field_in key ending (skip_blanks ts) k (skip-each ts h.1))
      go false q true p = rw (q, after_key) (rw p (assignment-in key ending (skip_blanks ts) k (skip-each ts h.1)))
      go false q false p = rw (q, after_key) (rw p h.0)

  line-in : (ending : Ending) (ts : List Token) → InEnding ending → Each ts → Gives InItem (after_blanks ending ts)
  unfolding after_blanks
  line-in ending [] e h = tt
  line-in ending (t ∷ ts) e h = go (is_a text_kind t) refl
    where
      go : (x : Bool) → is_a text_kind t ≡ x → Gives InItem (after_blanks ending (t ∷ ts))
      go true q = rw (q, after_blanks) (after-in t ending (skip_blanks ts) (h.0, q) e (skip-each ts h.1))
      go false q = rw (q, after_blanks) h.0

  insert-in : (v : Assignment) (vs : List Assignment) → IsKey v.key × InParts v.value → InVariables vs → InVariables (insert v vs)
  unfolding insert
  insert-in v [] h k = (h, tt)
  insert-in v (w ∷ ws) h k = go (before v.key.text w.key.text) refl (insert-in v ws h k.1)
    where
      go : (b : Bool) → before v.key.text w.key.text ≡ b → InVariables (insert v ws) → InVariables (insert v (w ∷ ws))
      go true q ih = rw (q, insert) (h, k)
      go false q ih = rw (q, insert) (k.0, ih)

  fields_in : (gs : List Field) (g : Field) → InFields gs → IsKey g.key × InTemplate g.value → InFields (gs ++ (g ∷ []))
  fields_in [] g h k = (k, tt)
  fields_in (f ∷ gs) g h k = (h.0, fields_in gs g h.1 k)

  keep-in : (x : File) (item : Item) → InFile x → InItem item → Gives InFile (keep x item)
  unfolding keep
  keep-in x Item.empty h i = h
  keep-in x (Item.assignment key ps) h i = go (assigned key.text x.variables) refl
    where
      go : (b : Bool) → assigned key.text x.variables ≡ b → Gives InFile (keep x (Item.assignment key ps))
      go true q = rw (q, keep) i.0
      go false q = rw (q, keep) (insert-in (record { key = key; value = ps }) x.variables i h.0, h.1)
  keep-in x (Item.given f key v) h i = go (field_at f x.fields) refl
    where
      go : (o : Option Field) → field_at f x.fields ≡ o → Gives InFile (keep x (Item.given f key v))
      go (some g) q = rw (q, keep) i.0
      go none q = rw (q, keep) (h.0, fields_in x.fields (record { number = f; key = key; value = v }) h.1 i)

  lines-in : (ls : List Line) (x : File) → InLines ls → InFile x → Gives InFile (read_lines x ls)
  unfolding read_lines read_line
  lines-in [] x h i = i
  lines-in (l ∷ ls) x h i =
      gives_then InItem InFile (read_line l) (λ item. keep x item >>= λ more. read_lines more ls) (line-in l.ending (skip_blanks l.content) h.0.1 (skip-each l.content h.0.0))
      (λ item y. gives_then InFile InFile (keep x item) (λ more. read_lines more ls) (keep-in x item i y) (λ more z. lines-in ls more h.1 z))

  -- lines of tokens that all have P
  pub lines-gives : (ts : List Token) → Each ts → Gives InFile (read_lines no_lines (lines ts))
  unfolding no_lines
  lines-gives ts h = lines-in (lines ts) no_lines (lines-each ts h) (tt, tt)

  -- a text all of whose tokens have P
  pub file-gives : (input : List ℕ) (ts : List Token) → tokens input ≡ ok ts → Each ts → Gives InFile (file input)
  unfolding file ◌>>=◌
  file-gives input ts e h = rw (e, file, ◌>>=◌) (lines-gives ts h)
