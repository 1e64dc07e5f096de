-- Which refusals are the variables': those that `resolve_variables` gives, and no other stage. Assumes nothing.
use Prim.Native.Nat.{ℕ, zero, suc, ◌+◌, ◌<◌}
use mathlib.Core.Path.{◌≡◌, refl, sym, ◌∙◌}
use mathlib.Core.Logic.{◌↔◌}
use mathlib.Core.Bool.{Bool, true, false}
use mathlib.Core.List.{List, [], ◌∷◌, ◌++◌, map}
use mathlib.Core.Option.{Option, none, some}
use native.Mathlib.Omega.{arith}
use lib.ListN.{length}
use Rattle.rules.specs.Bytes.{all}
use Rattle.rules.specs.Tokens.{Token, token, no_name, is_a, text_kind, colon_kind, equals_kind, variable_kind}
use Rattle.rules.specs.Numbers.{lex_error, Refusal, WhileResolving, in_variable, in_field, unexpected_at_start, unexpected_after_key, ended_after_key, invalid_variable_name, duplicate_variable, unknown_field, duplicate_field, unterminated_quote, undefined_variable, content_too_large, Result, refused, ok, ◌>>=◌}
use Rattle.rules.specs.Lexing.{Lexeme, Gathered, nothing_yet, gather, is_identifier, class, lexeme, prepend, flush, lex, tokens}
use Rattle.rules.specs.Lines.{Part, Assignment, Field, File, no_lines, Item, Line, Ending, newline, end_of_text, Role, Template, as_part, lines, skip_blanks, is_quote, role, listed, arguments, list_value, field_keys, field, is_string, read_field, read_assignment, nothing_after_key, after_key, after_blanks, read_line, assigned, field_at, keep, read_lines}
use Rattle.rules.specs.Variables.{Found, Expansion, expand, look_up, resolve_variables}
use Rattle.rules.specs.Fields.{Content, expanded, resolve_parts, resolve_arguments, resolve_template, fields_from, resolve_fields}
use Rattle.rules.specs.Records.{records}
use Rattle.rules.specs.Reading.{file, records_of_file, reading}
use Rattle.rules.proofs.LexingLaws.{lex-chars, lex-reference, lex-mark, lex-bad}

-- what a refusal was given for: lexing, the lines, while a variable is, or while the field of this number is
pub data Stage : Type 0 where
  at_lexing at_lines at_variables : Stage
  at_field : ℕ → Stage

unfoldable pub resolving : WhileResolving → Stage
resolving (in_variable key) = Stage.at_variables
resolving (in_field f key) = Stage.at_field f

unfoldable pub stage : Refusal → Stage
stage (lex_error e at) = Stage.at_lexing
stage (unexpected_at_start t) = Stage.at_lines
stage (unexpected_after_key t) = Stage.at_lines
stage ended_after_key = Stage.at_lines
stage (invalid_variable_name k) = Stage.at_lines
stage (duplicate_variable k) = Stage.at_lines
stage (unknown_field k) = Stage.at_lines
stage (duplicate_field k) = Stage.at_lines
stage (unterminated_quote t) = Stage.at_lines
stage (undefined_variable r w) = resolving w
stage (content_too_large w) = resolving w

-- each refusal is given at a stage that passes the test
abbrev pub Only : {A : Type 0} → (Stage → Type 0) → Result A → Type 0
Only P (refused r) = P (stage r)
Only P (ok a) = Unit {0}

abbrev pub OnLexing : Stage → Type 0
OnLexing Stage.at_lexing = Unit {0}
OnLexing Stage.at_lines = ⊥
OnLexing Stage.at_variables = ⊥
OnLexing (Stage.at_field f) = ⊥

abbrev pub OnLines : Stage → Type 0
OnLines Stage.at_lexing = Unit {0}
OnLines Stage.at_lines = Unit {0}
OnLines Stage.at_variables = ⊥
OnLines (Stage.at_field f) = ⊥

-- a field's number is never 0
abbrev pub OnFields : Stage → Type 0
OnFields Stage.at_lexing = ⊥
OnFields Stage.at_lines = ⊥
OnFields Stage.at_variables = ⊥
OnFields (Stage.at_field f) = 0 < f

only-bind : {A B : Type 0} (P : Stage → Type 0) (r : Result A) (f : A → Result B) → Only P r → ((a : A) → Only P (f a)) → Only P (r >>= f)
unfolding ◌>>=◌
only-bind P (refused r) f h g = h
only-bind P (ok a) f h g = g a

prepend-only : (ts : List Token) (r : Result (List Token)) → Only OnLexing r → Only OnLexing (prepend ts r)
unfolding prepend
prepend-only ts (refused r) h = h
prepend-only ts (ok us) h = tt

pub lex-only : (bs : List ℕ) (end : ℕ) (g : Gathered) (skip at : ℕ) → Only OnLexing (lex end g skip at bs)
unfolding lex stage
lex-only [] end g skip at = tt
lex-only (b ∷ bs) end g (suc skip) at = lex-only bs end g skip (suc at)
lex-only (b ∷ bs) end g zero at = go (lexeme (class b) b bs) refl (λ end' g' n. lex-only bs end' g' n (suc at))
  where
    go : (l : Lexeme) → lexeme (class b) b bs ≡ l → ((end' : ℕ) (g' : Gathered) (n : ℕ) → Only OnLexing (lex end' g' n (suc at) bs)) → Only OnLexing (lex end g 0 at (b ∷ bs))
    go (Lexeme.chars cs n) q ih = rw (lex-chars end g at b bs cs n q) (ih end (gather g cs at) n)
    go (Lexeme.reference name n) q ih =
        rw (lex-reference end g at b bs name n q)
        (prepend-only (flush end g ++ (token variable_kind name (end + length g.text) at ∷ [])) (lex (end + length g.text + length name) nothing_yet n (suc at) bs) (ih (end + length g.text + length name) nothing_yet n))
    go (Lexeme.mark kind n) q ih =
        rw (lex-mark end g at b bs kind n q)
        (prepend-only (flush end g ++ (token kind (b ∷ []) 0 at ∷ [])) (lex (end + length g.text) nothing_yet n (suc at) bs) (ih (end + length g.text) nothing_yet n))
    go (Lexeme.bad e) q ih = rw (lex-bad end g at b bs e q) tt

from-lexing : (s : Stage) → OnLexing s → OnLines s
from-lexing Stage.at_lexing h = tt
from-lexing Stage.at_lines h = tt
from-lexing Stage.at_variables h = h
from-lexing (Stage.at_field f) h = h

pub only-map : {A : Type 0} (r : Result A) (P Q : Stage → Type 0) → ((s : Stage) → P s → Q s) → Only P r → Only Q r
only-map (refused r) P Q f h = f (stage r) h
only-map (ok a) P Q f h = tt

arguments-only : (ts : List Token) (quote : Token) (escaped : Bool) (current : List Part) (found : List (List Part)) → Only OnLines (arguments quote escaped current found ts)
unfolding arguments stage
arguments-only [] quote escaped current found = go (is_quote quote) refl
  where
    go : (b : Bool) → is_quote quote ≡ b → Only OnLines (arguments quote escaped current found [])
    go true q = rw (q, arguments) tt
    go false q = rw (q, arguments) tt
arguments-only (t ∷ ts) quote true current found = arguments-only ts quote false (current ++ (as_part t ∷ [])) found
arguments-only (t ∷ ts) quote false current found = go (role quote t ts) refl (λ q e c f. arguments-only ts q e c f)
  where
    go : (r : Role) → role quote t ts ≡ r → ((q : Token) (e : Bool) (c : List Part) (f : List (List Part)) → Only OnLines (arguments q e c f ts)) → Only OnLines (arguments quote false current found (t ∷ ts))
    go Role.part q ih = rw (q, arguments) (ih quote false (current ++ (as_part t ∷ [])) found)
    go Role.splits q ih = rw (q, arguments) (ih quote false [] (found ++ listed current))
    go Role.opens q ih = rw (q, arguments) (ih t false current found)
    go Role.closes q ih = rw (q, arguments) (ih no_name false current found)
    go Role.escapes q ih = rw (q, arguments) (ih quote true current found)

field-only : (key : Token) (ending : Ending) (ts : List Token) → Only OnLines (read_field key ending ts)
unfolding read_field list_value stage
field-only key ending ts = go (field 1 field_keys key.text) refl
  where
    known : (f : ℕ) (b : Bool) → is_string f ≡ b → field 1 field_keys key.text ≡ some f → Only OnLines (read_field key ending ts)
    known f true p q = rw (q, read_field) (rw p tt)
    known f false p q = rw (q, read_field) (rw p (only-bind OnLines (list_value ts) (λ v. ok (Item.given f key (Template.list v))) (arguments-only ts no_name false [] []) (λ v. tt)))

    go : (o : Option ℕ) → field 1 field_keys key.text ≡ o → Only OnLines (read_field key ending ts)
    go none q = rw (q, read_field) tt
    go (some f) q = known f (is_string f) refl q

assignment-only : (key : Token) (ending : Ending) (ts : List Token) → Only OnLines (read_assignment key ending ts)
unfolding read_assignment stage
assignment-only key ending ts = go (all is_identifier key.text) refl
  where
    go : (b : Bool) → all is_identifier key.text ≡ b → Only OnLines (read_assignment key ending ts)
    go true q = rw (q, read_assignment) tt
    go false q = rw (q, read_assignment) tt

after-only : (key : Token) (ending : Ending) (ts : List Token) → Only OnLines (after_key key ending ts)
unfolding after_key nothing_after_key stage
after-only key (newline t) [] = tt
after-only key end_of_text [] = tt
after-only key ending (t ∷ ts) = go (is_a colon_kind t) refl (is_a equals_kind t) refl
  where
    go : (x : Bool) → is_a colon_kind t ≡ x → (y : Bool) → is_a equals_kind t ≡ y → Only OnLines (after_key key ending (t ∷ ts))
    go true q y p = rw (q, after_key) (field-only key ending (skip_blanks ts))
    go false q true p = rw (q, after_key) (rw p (assignment-only key ending (skip_blanks ts)))
    go false q false p = rw (q, after_key) (rw p tt)

line-only : (ending : Ending) (ts : List Token) → Only OnLines (after_blanks ending ts)
unfolding after_blanks stage
line-only ending [] = tt
line-only ending (t ∷ ts) = go (is_a text_kind t) refl
  where
    go : (x : Bool) → is_a text_kind t ≡ x → Only OnLines (after_blanks ending (t ∷ ts))
    go true q = rw (q, after_blanks) (after-only t ending (skip_blanks ts))
    go false q = rw (q, after_blanks) tt

keep-only : (x : File) (item : Item) → Only OnLines (keep x item)
unfolding keep stage
keep-only x Item.empty = tt
keep-only x (Item.assignment key ps) = go (assigned key.text x.variables) refl
  where
    go : (b : Bool) → assigned key.text x.variables ≡ b → Only OnLines (keep x (Item.assignment key ps))
    go true q = rw (q, keep) tt
    go false q = rw (q, keep) tt
keep-only x (Item.given f key v) = go (field_at f x.fields) refl
  where
    go : (o : Option Field) → field_at f x.fields ≡ o → Only OnLines (keep x (Item.given f key v))
    go (some w) q = rw (q, keep) tt
    go none q = rw (q, keep) tt

lines-only : (ls : List Line) (x : File) → Only OnLines (read_lines x ls)
unfolding read_lines read_line
lines-only [] x = tt
lines-only (l ∷ ls) x =
    only-bind OnLines (read_line l) (λ item. keep x item >>= λ more. read_lines more ls) (line-only l.ending (skip_blanks l.content))
    (λ item. only-bind OnLines (keep x item) (λ more. read_lines more ls) (keep-only x item) (λ more. lines-only ls more))

-- lexing and reading lines never refuse for what is being resolved
pub file-only : (input : List ℕ) → Only OnLines (file input)
unfolding file tokens
file-only input = only-bind OnLines (tokens input) (λ ts. read_lines no_lines (lines ts)) (only-map (tokens input) OnLexing OnLines from-lexing (lex-only input 0 nothing_yet 0 0)) (λ ts. lines-only (lines ts) no_lines)

expanded-only : (f : ℕ) (key : Token) (e : Expansion) → 0 < f → Only OnFields (expanded (in_field f key) e)
unfolding expanded stage resolving
expanded-only f key Expansion.large h = h
expanded-only f key (Expansion.missing n) h = h
expanded-only f key (Expansion.value v) h = tt

module _ (vs : List Assignment) (vals : Found) (f : ℕ) (key : Token) (h : 0 < f) where
  parts-only : (ps : List Part) → Only OnFields (resolve_parts vs vals (in_field f key) ps)
  unfolding resolve_parts
  parts-only ps = expanded-only f key (expand vals [] (map (look_up vs) ps)) h

  each-only : (l : List (List Part)) → Only OnFields (resolve_arguments vs vals (in_field f key) l)
  unfolding resolve_arguments
  each-only [] = tt
  each-only (ps ∷ rest) =
      only-bind OnFields (resolve_parts vs vals (in_field f key) ps) (λ v. resolve_arguments vs vals (in_field f key) rest >>= λ more. ok (v ∷ more)) (parts-only ps)
      (λ v. only-bind OnFields (resolve_arguments vs vals (in_field f key) rest) (λ more. ok (v ∷ more)) (each-only rest) (λ more. tt))

  template-only : (v : Template) → Only OnFields (resolve_template vs vals (in_field f key) v)
  unfolding resolve_template
  template-only (Template.string ps) = only-bind OnFields (resolve_parts vs vals (in_field f key) ps) (λ v. ok (Content.single v)) (parts-only ps) (λ v. tt)
  template-only (Template.list l) = only-bind OnFields (resolve_arguments vs vals (in_field f key) l) (λ more. ok (Content.many more)) (each-only l) (λ more. tt)

from-only : (k f : ℕ) (x : File) (vals : Found) → 0 < f → Only OnFields (fields_from k f x vals)
unfolding fields_from
from-only zero f x vals h = tt
from-only (suc k) f x vals h = go (field_at f x.fields) refl (from-only k (suc f) x vals (omega arith))
  where
    go : (o : Option Field) → field_at f x.fields ≡ o → Only OnFields (fields_from k (suc f) x vals) → Only OnFields (fields_from (suc k) f x vals)
    go none q ih = rw (q, fields_from) ih
    go (some g) q ih =
        rw (q, fields_from)
        (only-bind OnFields (resolve_template x.variables vals (in_field f g.key) g.value) (λ c. fields_from k (suc f) x vals >>= λ more. ok (record { number = f; content = c } ∷ more))
        (template-only x.variables vals f g.key h g.value)
        (λ c. only-bind OnFields (fields_from k (suc f) x vals) (λ more. ok (record { number = f; content = c } ∷ more)) ih (λ more. tt)))

-- what comes after the variables
unfoldable pub after_variables : File → Found → Result (List ℕ)
after_variables x vals = resolve_fields x vals >>= λ ps. ok (records ps)

-- fields are never refused for a variable
pub fields-only : (x : File) (vals : Found) → Only OnFields (after_variables x vals)
unfolding after_variables resolve_fields
fields-only x vals = only-bind OnFields (fields_from 10 1 x vals) (λ ps. ok (records ps)) (from-only 10 1 x vals (omega arith)) (λ ps. tt)

-- where the lines read and the variables resolve, the fields and their records follow
pub reading-resolved : (input : List ℕ) (x : File) (vals : Found) → file input ≡ ok x → resolve_variables x.variables ≡ ok vals → reading input ≡ after_variables x vals
unfolding reading records_of_file ◌>>=◌ after_variables
reading-resolved input x vals f q = rw (f, q, reading, records_of_file, ◌>>=◌) refl

refusal-one : {A : Type 0} {r s : Refusal} → ◌≡◌ {A = Result A} (refused r) (refused s) → r ≡ s
refusal-one e = cc

-- a text is refused for a variable exactly where its lines read and the variables are refused so
pub reading-variable : (input : List ℕ) (r : Refusal) → stage r ≡ Stage.at_variables
    → (reading input ≡ refused r) ↔ ((x : File) × (file input ≡ ok x) × (resolve_variables x.variables ≡ refused r))
unfolding reading records_of_file ◌>>=◌ after_variables
reading-variable input r v = (λ e. go e (file input) refl (file-only input), λ y. rw (y.1, y.2, reading, records_of_file, ◌>>=◌) refl)
  where
    done : (x : File) → file input ≡ ok x → reading input ≡ refused r → (o : Result Found) → resolve_variables x.variables ≡ o
        → (x : File) × (file input ≡ ok x) × (resolve_variables x.variables ≡ refused r)
    done x f e (refused s) q =
        let p : reading input ≡ refused s = rw (f, q, reading, records_of_file, ◌>>=◌) refl in
        let z : s ≡ r = refusal-one (sym p ∙ e) in
        (x, f, rw z at q)
    done x f e (ok vals) q =
        let p : after_variables x vals ≡ refused r = sym (reading-resolved input x vals f q) ∙ e in
        let n : OnFields (stage r) = rw p at (fields-only x vals) in
        absurd (rw v at n)

    go : reading input ≡ refused r → (o : Result File) → file input ≡ o → Only OnLines o
        → (x : File) × (file input ≡ ok x) × (resolve_variables x.variables ≡ refused r)
    go e (refused s) f h =
        let p : reading input ≡ refused s = rw (f, reading, ◌>>=◌) refl in
        let z : s ≡ r = refusal-one (sym p ∙ e) in
        let n : OnLines (stage r) = rw z at h in
        absurd (rw v at n)
    go e (ok x) f h = done x f e (resolve_variables x.variables) refl
