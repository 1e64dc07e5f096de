-- Document 01, "Lines": from tokens to assignments and fields. Assumes nothing.
use Rattle.std.specs.Prelude.{ℕ, suc, Bool, true, false, ◌&&◌, ◌||◌, List, [], ◌∷◌, ◌++◌, map, leb, eqb}
use Rattle.std.proofs.Math.Option.{Option, none, some}
use Rattle.rules.specs.Bytes.{bytes, same, before, all, pick}
use Rattle.rules.specs.Tokens.{Token, is_a, no_name, text_kind, variable_kind, blank_kind, equals_kind, colon_kind, single_quote_kind, double_quote_kind, backslash_kind, new_line_kind}
use Rattle.rules.specs.Numbers.{unexpected_at_start, unexpected_after_key, ended_after_key, invalid_variable_name, duplicate_variable, unknown_field, duplicate_field, unterminated_quote, Result, refused, ok, ◌>>=◌}
use Rattle.rules.specs.Lexing.{is_identifier}

-- a part of a value
pub data Part : Type 0 where
  text : List ℕ → Part
  reference : Token → Part

-- tokens other than references stand as their characters
unfoldable pub as_part : Token → Part
as_part t = pick (is_a variable_kind t) (reference t) (text t.text)

-- how a line ends: by this newline token, or with the text
pub data Ending : Type 0 where
  newline : Token → Ending
  end_of_text : Ending

pub record Line : Type 0 where
  pub content : List Token
  pub ending : Ending

unfoldable pub on_first : Token → List Line → List Line
on_first t [] = []
on_first t (l ∷ ls) = record { content = t ∷ l.content; ending = l.ending } ∷ ls

unfoldable pub lines : List Token → List Line
lines [] = record { content = []; ending = end_of_text } ∷ []
lines (t ∷ ts) = elim (is_a new_line_kind t) [ true ↦ record { content = []; ending = newline t } ∷ lines ts | false ↦ on_first t (lines ts) ]

unfoldable pub skip_blanks : List Token → List Token
skip_blanks [] = []
skip_blanks (t ∷ ts) = elim (is_a blank_kind t) [ true ↦ skip_blanks ts | false ↦ t ∷ ts ]

-- the last token drops, if it is a blank
unfoldable pub drop_last_blank : List Token → List Token
drop_last_blank [] = []
drop_last_blank (t ∷ []) = pick (is_a blank_kind t) [] (t ∷ [])
drop_last_blank (t ∷ u ∷ ts) = t ∷ drop_last_blank (u ∷ ts)

-- "Of the blanks before a newline only the last drops; at the end of the text all stay."
unfoldable pub trimmed : Ending → List Token → List Token
trimmed (newline t) ts = drop_last_blank ts
trimmed end_of_text ts = ts

-- a string value; the blanks before it are skipped already
unfoldable pub string_value : Ending → List Token → List Part
string_value ending ts = map as_part (trimmed ending ts)

-- What a token does in a list value: it is a part, splits, opens or closes quotes, or is dropped and makes the next token a part
pub data Role : Type 0 where
  part splits opens closes escapes : Role

unfoldable pub is_quote : Token → Bool
is_quote t = is_a single_quote_kind t || is_a double_quote_kind t

unfoldable pub role_outside : Token → Role
role_outside t = pick (is_a blank_kind t) splits (pick (is_quote t) opens (pick (is_a backslash_kind t) escapes part))

-- the next token is of this kind
unfoldable pub next_is : ℕ → List Token → Bool
next_is kind [] = false
next_is kind (t ∷ ts) = is_a kind t

-- inside quotes of this kind
unfoldable pub role_inside : ℕ → Token → List Token → Role
role_inside quote t ts = pick (is_a quote t) closes (pick (is_a backslash_kind t && next_is quote ts) escapes part)

-- `quote` is the token that opened quotes, and no_name outside of any
unfoldable pub role : Token → Token → List Token → Role
role quote t ts = pick (is_quote quote) (role_inside quote.kind t ts) (role_outside t)

-- the argument, unless it has no part
unfoldable pub listed : List Part → List (List Part)
listed [] = []
listed (p ∷ ps) = (p ∷ ps) ∷ []

-- A list value: `escaped` says that the next token loses its special meaning, `current` has the parts of the argument so far, `found` the arguments before it
unfoldable pub arguments : Token → Bool → List Part → List (List Part) → List Token → Result (List (List Part))
arguments quote escaped current found [] = elim (is_quote quote) [ true ↦ refused (unterminated_quote quote) | false ↦ ok (found ++ listed current) ]
arguments quote true current found (t ∷ ts) = arguments quote false (current ++ (as_part t ∷ [])) found ts
arguments quote false current found (t ∷ ts) = elim (role quote t ts) [
  | part ↦ arguments quote false (current ++ (as_part t ∷ [])) found ts
  | splits ↦ arguments quote false [] (found ++ listed current) ts
  | opens ↦ arguments t false current found ts
  | closes ↦ arguments no_name false current found ts
  | escapes ↦ arguments quote true current found ts
]

unfoldable pub list_value : List Token → Result (List (List Part))
list_value ts = arguments no_name false [] [] ts

-- a field's value, not yet resolved
pub data Template : Type 0 where
  string : List Part → Template
  list : List (List Part) → Template

unfoldable pub field_keys : List (List ℕ)
field_keys =
    bytes "Name" ∷ bytes "Description" ∷ bytes "URL" ∷ bytes "Version" ∷ bytes "Requires" ∷ bytes "Requires.private"
    ∷ bytes "Conflicts" ∷ bytes "Cflags" ∷ bytes "Libs" ∷ bytes "Libs.private" ∷ []

-- the number of the key's field, where `keys` are those from f on
unfoldable pub field : ℕ → List (List ℕ) → List ℕ → Option ℕ
field f [] key = none
field f (k ∷ keys) key = elim (same k key) [ true ↦ some f | false ↦ field (suc f) keys key ]

-- what a line says
pub data Item : Type 0 where
  empty : Item
  assignment : Token → List Part → Item
  given : ℕ → Token → Template → Item

-- fields 1 to 7 are strings, 8 to 10 lists
unfoldable pub is_string : ℕ → Bool
is_string f = leb f 7

unfoldable pub read_field : Token → Ending → List Token → Result Item
read_field key ending ts = elim (field 1 field_keys key.text) [
  | none ↦ refused (unknown_field key)
  | some f ↦ elim (is_string f) [
    | true ↦ ok (given f key (string (string_value ending ts)))
    | false ↦ (list_value ts >>= λ v. ok (given f key (list v)))
  ]
]

unfoldable pub read_assignment : Token → Ending → List Token → Result Item
read_assignment key ending ts = elim (all is_identifier key.text) [
  | true ↦ ok (assignment key (string_value ending ts))
  | false ↦ refused (invalid_variable_name key)
]

unfoldable pub nothing_after_key : Ending → Result Item
nothing_after_key (newline t) = refused (unexpected_after_key t)
nothing_after_key end_of_text = refused ended_after_key

unfoldable pub after_key : Token → Ending → List Token → Result Item
after_key key ending [] = nothing_after_key ending
after_key key ending (t ∷ ts) = elim (is_a colon_kind t) [
  | true ↦ read_field key ending (skip_blanks ts)
  | false ↦ elim (is_a equals_kind t) [
    | true ↦ read_assignment key ending (skip_blanks ts)
    | false ↦ refused (unexpected_after_key t)
  ]
]

unfoldable pub after_blanks : Ending → List Token → Result Item
after_blanks ending [] = ok empty
after_blanks ending (t ∷ ts) = elim (is_a text_kind t) [ true ↦ after_key t ending (skip_blanks ts) | false ↦ refused (unexpected_at_start t) ]

unfoldable pub read_line : Line → Result Item
read_line l = after_blanks l.ending (skip_blanks l.content)

-- the variables in byte order of their names, and the fields as they came
pub record Assignment : Type 0 where
  pub key : Token
  pub value : List Part

pub record Field : Type 0 where
  pub number : ℕ
  pub key : Token
  pub value : Template

pub record File : Type 0 where
  pub variables : List Assignment
  pub fields : List Field

unfoldable pub no_lines : File
no_lines = record { variables = []; fields = [] }

unfoldable pub assigned : List ℕ → List Assignment → Bool
assigned name [] = false
assigned name (v ∷ vs) = same name v.key.text || assigned name vs

-- in byte order
unfoldable pub insert : Assignment → List Assignment → List Assignment
insert v [] = v ∷ []
insert v (w ∷ ws) = elim (before v.key.text w.key.text) [ true ↦ v ∷ w ∷ ws | false ↦ w ∷ insert v ws ]

-- the field of this number, where it was given
unfoldable pub field_at : ℕ → List Field → Option Field
field_at f [] = none
field_at f (g ∷ gs) = elim (eqb f g.number) [ true ↦ some g | false ↦ field_at f gs ]

-- what the lines before say, and this line
unfoldable pub keep : File → Item → Result File
keep file empty = ok file
keep file (assignment key ps) = elim (assigned key.text file.variables) [
  | true ↦ refused (duplicate_variable key)
  | false ↦ ok (record { variables = insert (record { key = key; value = ps }) file.variables; fields = file.fields })
]
keep file (given f key v) = elim (field_at f file.fields) [
  | some g ↦ refused (duplicate_field key)
  | none ↦ ok (record { variables = file.variables; fields = file.fields ++ (record { number = f; key = key; value = v } ∷ []) })
]

unfoldable pub read_lines : File → List Line → Result File
read_lines file [] = ok file
read_lines file (l ∷ ls) = read_line l >>= λ item. keep file item >>= λ more. read_lines more ls
