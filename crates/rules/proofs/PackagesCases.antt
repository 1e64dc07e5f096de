-- Document 02, R-1: values and their items, worked out by hand from the document's words, in one table. Assumes nothing.
use Prim.Native.Nat.{ℕ}
use Prim.Native.String.{String}
use mathlib.Core.Path.{◌≡◌, refl}
use mathlib.Core.List.{List, [], ◌∷◌, ◌++◌, map}
use lib.ListN.{length, replicate}
use Rattle.rules.specs.Bytes.{pick, bytes, is, run, overwrite}
use Rattle.rules.specs.Packages.{is_blank, is_separator, is_word, skip, word, starts_with_equals, operator_of, operator_size, Item, with_version, with_operator, first_item, Items, items, malformed_at, after, items_within, items_of, value_within, value_of, item_records, items_records, number, written, packaged, packages, answer_number, answer_index, packages_detail, exported_packages}
use Rattle.rules.proofs.Computed.{called}

-- a value, and what the document says of it
pub record Case : Type 0 where
  pub value : String
  pub says : Items

abbrev gives : String → List Item → Case
gives value is = record { value = value; says = items is }

-- the index of the first malformed item
abbrev breaks : String → ℕ → Case
breaks value index = record { value = value; says = malformed_at index }

abbrev named : String → Item
named name = record { name = bytes name; operator = 0; version = [] }

abbrev asks : String → ℕ → String → Item
asks name operator version = record { name = bytes name; operator = operator; version = bytes version }

abbrev pub cases : List Case
cases =
    -- no items: "any number and also at the ends"
    gives "" []
    ∷ gives " " []
    ∷ gives "\t" []
    ∷ gives "," []
    ∷ gives " ,\t,, " []
    -- names alone
    ∷ gives "a" (named "a" ∷ [])
    ∷ gives " a" (named "a" ∷ [])
    ∷ gives "a " (named "a" ∷ [])
    ∷ gives ",a," (named "a" ∷ [])
    ∷ gives "\ta\t" (named "a" ∷ [])
    ∷ gives "ab" (named "ab" ∷ [])
    ∷ gives "a b" (named "a" ∷ named "b" ∷ [])
    ∷ gives "a\tb" (named "a" ∷ named "b" ∷ [])
    ∷ gives "a,b" (named "a" ∷ named "b" ∷ [])
    ∷ gives "a,,b" (named "a" ∷ named "b" ∷ [])
    ∷ gives ", ,a\t,\t,b, ," (named "a" ∷ named "b" ∷ [])
    ∷ gives "a 1" (named "a" ∷ named "1" ∷ [])
    ∷ gives "a.b_c+d-1:e" (named "a.b_c+d-1:e" ∷ [])
    -- every operator
    ∷ gives "a=1" (asks "a" 1 "1" ∷ [])
    ∷ gives "a<1" (asks "a" 2 "1" ∷ [])
    ∷ gives "a>1" (asks "a" 3 "1" ∷ [])
    ∷ gives "a<=1" (asks "a" 4 "1" ∷ [])
    ∷ gives "a>=1" (asks "a" 5 "1" ∷ [])
    ∷ gives "a!=1" (asks "a" 6 "1" ∷ [])
    -- blanks around it
    ∷ gives "a >= 1" (asks "a" 5 "1" ∷ [])
    ∷ gives "a =1" (asks "a" 1 "1" ∷ [])
    ∷ gives "a= 1" (asks "a" 1 "1" ∷ [])
    ∷ gives "a\t !=  \t1\t" (asks "a" 6 "1" ∷ [])
    -- more than one
    ∷ gives "a>= 1,b" (asks "a" 5 "1" ∷ named "b" ∷ [])
    ∷ gives "a <= 1 b" (asks "a" 4 "1" ∷ named "b" ∷ [])
    ∷ gives "a b = 1" (named "a" ∷ asks "b" 1 "1" ∷ [])
    ∷ gives "a = 1, b < 2 c" (asks "a" 1 "1" ∷ asks "b" 2 "2" ∷ named "c" ∷ [])
    ∷ gives "glib-2.0 >= 2.50.1, gio-2.0" (asks "glib-2.0" 5 "2.50.1" ∷ named "gio-2.0" ∷ [])
    -- an LF is no blank
    ∷ gives "\n" (named "\n" ∷ [])
    ∷ gives "a\nb" (named "a\nb" ∷ [])
    ∷ gives "a$\n b" (named "a$\n" ∷ named "b" ∷ [])
    ∷ gives "a\n=1\n" (asks "a\n" 1 "1\n" ∷ [])
    ∷ gives "a=\n" (asks "a" 1 "\n" ∷ [])
    -- no name
    ∷ breaks "=" 0
    ∷ breaks "= 1" 0
    ∷ breaks "!a" 0
    ∷ breaks ",<=1" 0
    ∷ breaks "a, = 1" 1
    ∷ breaks "a=1=2" 1
    ∷ breaks "a=1 =2" 1
    ∷ breaks "a=1!=2" 1
    ∷ breaks "a=1 !" 1
    -- an operator without a version
    ∷ breaks "a=" 0
    ∷ breaks "a = " 0
    ∷ breaks "a>=" 0
    ∷ breaks "a =, 1" 0
    ∷ breaks "a==1" 0
    ∷ breaks "a=>1" 0
    ∷ breaks "a<>1" 0
    ∷ breaks "a< =1" 0
    ∷ breaks "a<==1" 0
    ∷ breaks "a!==1" 0
    ∷ breaks "a,b=,c" 1
    ∷ breaks "a b c <" 2
    -- a `!` without `=`
    ∷ breaks "a!" 0
    ∷ breaks "a !b" 0
    ∷ breaks "a ! = 1" 0
    ∷ breaks "a!!=1" 0
    ∷ breaks "a b!,c" 1
    ∷ []

pub each-says : map (λ (c : Case). items_of (bytes c.value)) cases ≡ map (λ (c : Case). c.says) cases
unfolding pick bytes is run is_blank is_separator is_word skip word starts_with_equals operator_of operator_size with_version with_operator first_item after items_within items_of
each-says = refl

-- a whole call: the records, the sizes of output and detail, which are not clean; the number, what the detail says, and what stands at the front of the output
pub record Call : Type 0 where
  pub records : List ℕ
  pub room : ℕ
  pub detail : ℕ
  pub number : ℕ
  pub told : List ℕ
  pub output : List ℕ

-- a field's record with a short value, written out
abbrev short : ℕ → String → List ℕ
short kind value = length (bytes value) ∷ 0 ∷ 0 ∷ 0 ∷ kind ∷ 0 ∷ bytes value

-- the detail: three numbers of one byte
abbrev three : ℕ → ℕ → ℕ → List ℕ
three a b c = a ∷ 0 ∷ 0 ∷ 0 ∷ 0 ∷ 0 ∷ 0 ∷ 0 ∷ b ∷ 0 ∷ 0 ∷ 0 ∷ 0 ∷ 0 ∷ 0 ∷ 0 ∷ c ∷ 0 ∷ 0 ∷ 0 ∷ 0 ∷ 0 ∷ 0 ∷ 0 ∷ []

abbrev answers : List ℕ → ℕ → ℕ → ℕ → ℕ → List ℕ → Call
answers records room number value index output =
    record { records = records; room = room; detail = 27; number = number; told = three number value index; output = output }

-- `b<2` as an item of field 5
abbrev asked : List ℕ
asked =
    2 ∷ 0 ∷ 0 ∷ 0 ∷ 12 ∷ 0 ∷ 5 ∷ 2 ∷ []
    ++ (1 ∷ 0 ∷ 0 ∷ 0 ∷ 13 ∷ 0 ∷ 98 ∷ [])
    ++ (1 ∷ 0 ∷ 0 ∷ 0 ∷ 14 ∷ 0 ∷ 50 ∷ [])

-- `a` as an item of this field
abbrev plain : ℕ → List ℕ
plain field =
    2 ∷ 0 ∷ 0 ∷ 0 ∷ 12 ∷ 0 ∷ field ∷ 0 ∷ []
    ++ (1 ∷ 0 ∷ 0 ∷ 0 ∷ 13 ∷ 0 ∷ 97 ∷ [])
    ++ (0 ∷ 0 ∷ 0 ∷ 0 ∷ 14 ∷ 0 ∷ [])

abbrev pub calls : List Call
calls =
    answers [] 0 0 0 0 []
    ∷ answers (short 5 "a") 30 0 21 0 (plain 5)
    ∷ answers (short 5 "a") 21 0 21 0 (plain 5)
    ∷ answers (short 5 "a") 20 17 21 0 []
    ∷ answers (short 6 "a") 30 0 21 0 (plain 6)
    ∷ answers (short 5 "b<2 a") 50 0 43 0 (asked ++ plain 5)
    ∷ answers (short 5 "b<2" ++ short 6 ",a") 50 0 43 0 (asked ++ plain 6)
    ∷ answers (short 5 "b<2" ++ short 6 ",a") 42 17 43 0 []
    ∷ answers (short 5 "a") 0 17 21 0 []
    -- other fields have no items
    ∷ answers (short 1 "a" ++ short 4 "b" ++ short 7 "c") 0 0 0 0 []
    ∷ answers (short 4 "=" ++ short 5 "a" ++ short 7 "!") 30 0 21 0 (plain 5)
    -- a list, whose arguments are no fields
    ∷ answers (short 6 "a" ++ (4 ∷ 0 ∷ 0 ∷ 0 ∷ 8 ∷ 0 ∷ 1 ∷ 0 ∷ 0 ∷ 0 ∷ []) ++ short 11 "x") 30 0 21 0 (plain 6)
    -- 20 before 17, field 5 before 6, the index within the field
    ∷ answers (short 5 "a b=") 0 20 5 1 []
    ∷ answers (short 5 "a b" ++ short 6 "=") 0 20 6 0 []
    ∷ answers (short 5 "a b!" ++ short 6 "=") 100 20 5 1 []
    ∷ answers (short 5 "a" ++ short 6 "a b c=1=2") 100 20 6 3 []
    -- 18 before 20: a field twice, a byte too much, an argument without its list
    ∷ answers (short 5 "=" ++ short 5 "a") 100 18 0 0 []
    ∷ answers (short 5 "=" ++ (0 ∷ [])) 100 18 0 0 []
    ∷ answers (short 5 "=" ++ short 11 "a") 0 18 0 0 []
    ∷ answers (short 6 "a" ++ short 5 "a") 100 18 0 0 []
    -- 19 before all else
    ∷ record { records = short 5 "a"; room = 30; detail = 23; number = 19; told = []; output = [] }
    ∷ record { records = 0 ∷ []; room = 0; detail = 0; number = 19; told = []; output = [] }
    ∷ record { records = short 5 "a"; room = 30; detail = 24; number = 0; told = three 0 21 0; output = plain 5 }
    ∷ []

-- what a caller sees: the number, the output, the detail
abbrev pub seen : Call → List (List ℕ)
seen c = let e = exported_packages c.records (replicate c.room 252) (replicate c.detail 251) in (e.number ∷ []) ∷ e.output ∷ e.detail ∷ []

abbrev pub said_of : Call → List (List ℕ)
said_of c = (c.number ∷ []) ∷ overwrite c.output (replicate c.room 252) ∷ overwrite c.told (replicate c.detail 251) ∷ []

pub each-call-says : map seen calls ≡ map said_of calls
unfolding called is_blank is_separator is_word skip word starts_with_equals operator_of operator_size with_version with_operator first_item after items_within items_of value_within value_of item_records items_records number written packaged packages answer_number answer_index packages_detail exported_packages
each-call-says = refl
