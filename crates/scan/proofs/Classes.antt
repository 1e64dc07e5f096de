-- Laws of the classes of bytes: one computed test over the whole table (document 01, "Lexing"). Assumes nothing.
use Prim.Native.Nat.{ℕ, ◌≤◌, ◌<◌}
use mathlib.Core.Path.{◌≡◌, refl, sym, ◌∙◌, ap}
use mathlib.Core.Bool.{Bool, true, false, ◌||◌}
use mathlib.Core.List.{List, [], ◌∷◌}
use native.Mathlib.Omega.{arith}
use lib.Dec.{T, eqb, ltb, eqb→eq}
use lib.ListN.{length, get_or, drop, drop_of_length-le}
use lib.Seq.{drop-cons}
use borrow.Author.Tests.{ltb-true, ltb-false, eq-eqb, ne_eqb, le-leb, lt-leb}
use Rattle.rules.specs.Bytes.{is, within, pick}
use Rattle.rules.specs.Lexing.{Class, class, other, identifier, blank, line_end, hash, dollar, open_brace, close_brace, backslash, equals, colon, single, double, is_identifier, is_line_end}
use Rattle.scan.specs.Classes.{class_number, class_at, past, number_of}
use Rattle.scan.specs.declared.class.ByteClass.{ByteClass}
use Rattle.scan.specs.declared.class.ByteClass.TheVariants.{Other, Identifier, Blank, Equals, Colon, Single, Double, Backslash, LineEnd, Dollar, Hash, OpenBrace, CloseBrace, Past}
use Rattle.scan.proofs.Table.{every, both, both_left, both_right, at, same, same-eq}

-- the class of a number, so that a number tells its class
unfoldable pub by_number : ℕ → Class
by_number n =
    pick (eqb n 1) identifier
    (pick (eqb n 3) blank
    (pick (eqb n 4) equals
    (pick (eqb n 5) colon
    (pick (eqb n 6) single
    (pick (eqb n 7) double
    (pick (eqb n 8) backslash
    (pick (eqb n 9) line_end
    (pick (eqb n 10) dollar
    (pick (eqb n 11) hash
    (pick (eqb n 12) open_brace
    (pick (eqb n 13) close_brace other)))))))))))

pub by_number_lem : (c : Class) → by_number (class_number c) ≡ c
unfolding by_number class_number pick
by_number_lem other = refl
by_number_lem identifier = refl
by_number_lem blank = refl
by_number_lem line_end = refl
by_number_lem hash = refl
by_number_lem dollar = refl
by_number_lem open_brace = refl
by_number_lem close_brace = refl
by_number_lem backslash = refl
by_number_lem equals = refl
by_number_lem colon = refl
by_number_lem single = refl
by_number_lem double = refl

-- a number tells the class: `class-is b hash` is `class_number (class b) ≡ 11 → class b ≡ hash`
pub class-is : (b : ℕ) (c : Class) → class_number (class b) ≡ class_number c → class b ≡ c
class-is b c e = sym (by_number_lem (class b)) ∙ ap by_number e ∙ by_number_lem c

-- the test of bytes that document 01 names for each class; `other` is where the table has 0
abbrev pub test : Class → ℕ → Bool
test other b = eqb (class_number (class b)) 0
test identifier b = is_identifier b
test blank b = is " " b || is "\t" b
test line_end b = is_line_end b
test hash b = is "#" b
test dollar b = is "$" b
test open_brace b = is "{" b
test close_brace b = is "}" b
test backslash b = is "\\" b
test equals b = is "=" b
test colon b = is ":" b
test single b = is "'" b
test double b = is "\"" b

-- at the byte b, the test of the class c is true exactly where the table has its number
agrees : Class → ℕ → Bool
agrees c b = same (test c b) (eqb (class_number (class b)) (class_number c))

abbrev pub table : List ByteClass
table =
    Other ∷ Other ∷ Other ∷ Other ∷ Other ∷ Other ∷ Other ∷ Other ∷ Other ∷ Blank ∷ LineEnd ∷ Other ∷ Other ∷ LineEnd ∷ Other ∷ Other
    ∷ Other ∷ Other ∷ Other ∷ Other ∷ Other ∷ Other ∷ Other ∷ Other ∷ Other ∷ Other ∷ Other ∷ Other ∷ Other ∷ Other ∷ Other ∷ Other
    ∷ Blank ∷ Other ∷ Double ∷ Hash ∷ Dollar ∷ Other ∷ Other ∷ Single ∷ Other ∷ Other ∷ Other ∷ Other ∷ Other ∷ Other ∷ Identifier ∷ Other
    ∷ Identifier ∷ Identifier ∷ Identifier ∷ Identifier ∷ Identifier ∷ Identifier ∷ Identifier ∷ Identifier ∷ Identifier ∷ Identifier ∷ Colon ∷ Other ∷ Other ∷ Equals ∷ Other ∷ Other
    ∷ Other ∷ Identifier ∷ Identifier ∷ Identifier ∷ Identifier ∷ Identifier ∷ Identifier ∷ Identifier ∷ Identifier ∷ Identifier ∷ Identifier ∷ Identifier ∷ Identifier ∷ Identifier ∷ Identifier ∷ Identifier
    ∷ Identifier ∷ Identifier ∷ Identifier ∷ Identifier ∷ Identifier ∷ Identifier ∷ Identifier ∷ Identifier ∷ Identifier ∷ Identifier ∷ Identifier ∷ Other ∷ Backslash ∷ Other ∷ Other ∷ Identifier
    ∷ Other ∷ Identifier ∷ Identifier ∷ Identifier ∷ Identifier ∷ Identifier ∷ Identifier ∷ Identifier ∷ Identifier ∷ Identifier ∷ Identifier ∷ Identifier ∷ Identifier ∷ Identifier ∷ Identifier ∷ Identifier
    ∷ Identifier ∷ Identifier ∷ Identifier ∷ Identifier ∷ Identifier ∷ Identifier ∷ Identifier ∷ Identifier ∷ Identifier ∷ Identifier ∷ Identifier ∷ OpenBrace ∷ Other ∷ CloseBrace ∷ Other ∷ Other
    ∷ Other ∷ Other ∷ Other ∷ Other ∷ Other ∷ Other ∷ Other ∷ Other ∷ Other ∷ Other ∷ Other ∷ Other ∷ Other ∷ Other ∷ Other ∷ Other
    ∷ Other ∷ Other ∷ Other ∷ Other ∷ Other ∷ Other ∷ Other ∷ Other ∷ Other ∷ Other ∷ Other ∷ Other ∷ Other ∷ Other ∷ Other ∷ Other
    ∷ Other ∷ Other ∷ Other ∷ Other ∷ Other ∷ Other ∷ Other ∷ Other ∷ Other ∷ Other ∷ Other ∷ Other ∷ Other ∷ Other ∷ Other ∷ Other
    ∷ Other ∷ Other ∷ Other ∷ Other ∷ Other ∷ Other ∷ Other ∷ Other ∷ Other ∷ Other ∷ Other ∷ Other ∷ Other ∷ Other ∷ Other ∷ Other
    ∷ Other ∷ Other ∷ Other ∷ Other ∷ Other ∷ Other ∷ Other ∷ Other ∷ Other ∷ Other ∷ Other ∷ Other ∷ Other ∷ Other ∷ Other ∷ Other
    ∷ Other ∷ Other ∷ Other ∷ Other ∷ Other ∷ Other ∷ Other ∷ Other ∷ Other ∷ Other ∷ Other ∷ Other ∷ Other ∷ Other ∷ Other ∷ Other
    ∷ Other ∷ Other ∷ Other ∷ Other ∷ Other ∷ Other ∷ Other ∷ Other ∷ Other ∷ Other ∷ Other ∷ Other ∷ Other ∷ Other ∷ Other ∷ Other
    ∷ Other ∷ Other ∷ Other ∷ Other ∷ Other ∷ Other ∷ Other ∷ Other ∷ Other ∷ Other ∷ Other ∷ Other ∷ Other ∷ Other ∷ Other ∷ Other ∷ []

-- the rule of the entry x at place b: it is b's class, and the test of the class c is true exactly where that is c's number
right : Class → ℕ → ByteClass → Bool
right c b x = both (eqb (number_of x) (class_number (class b))) (agrees c b)

-- the table's rule, computed over all 256 entries
ruled : (c : Class) → T (every (right c) 0 table)
unfolding right agrees class class_number is_identifier is_line_end is within pick
ruled other = tt
ruled identifier = tt
ruled blank = tt
ruled line_end = tt
ruled hash = tt
ruled dollar = tt
ruled open_brace = tt
ruled close_brace = tt
ruled backslash = tt
ruled equals = tt
ruled colon = tt
ruled single = tt
ruled double = tt

pub entry : (b : ℕ) → b < 256 → number_of (get_or table b Other) ≡ class_number (class b)
unfolding right
entry b h =
    eqb→eq (number_of (get_or table b Other)) (class_number (class b))
    (both_left (eqb (number_of (get_or table b Other)) (class_number (class b))) (agrees other b) (at (right other) table Other (ruled other) b h))

-- a number that is no byte passes no test
module _ (b : ℕ) (h : 256 ≤ b) where
  not_is : (k : ℕ) → k < 256 → eqb b k ≡ false
  not_is k l = ne_eqb b k (λ e. omega arith)

  not_within : (low high : ℕ) → low < 256 → high < 256 → within low high b ≡ false
  unfolding within
  not_within low high l m = rw (le-leb low b (omega arith), lt-leb b high (omega arith))

  not-identifier : is_identifier b ≡ false
  unfolding is_identifier is
  not-identifier =
      rw (
        not_within 48 57 (omega arith) (omega arith),
        not_within 65 90 (omega arith) (omega arith),
        not_within 97 122 (omega arith) (omega arith),
        not_is 46 (omega arith),
        not_is 95 (omega arith),
      )

  not-line-end : is_line_end b ≡ false
  unfolding is_line_end is
  not-line-end = rw (not_is 10 (omega arith), not_is 13 (omega arith))

  pub is-other : class b ≡ other
  unfolding class is pick
  is-other =
      rw (
        not-identifier,
        not_is 32 (omega arith),
        not_is 9 (omega arith),
        not-line-end,
        not_is 35 (omega arith),
        not_is 36 (omega arith),
        not_is 123 (omega arith),
        not_is 125 (omega arith),
        not_is 92 (omega arith),
        not_is 61 (omega arith),
        not_is 58 (omega arith),
        not_is 39 (omega arith),
        not_is 34 (omega arith),
      )

  beyond : (c : Class) → test c b ≡ eqb (class_number (class b)) (class_number c)
  unfolding class_number is
  beyond other = refl
  beyond identifier = rw (is-other, not-identifier)
  beyond blank = rw (is-other, not_is 32 (omega arith), not_is 9 (omega arith))
  beyond line_end = rw (is-other, not-line-end)
  beyond hash = rw (is-other, not_is 35 (omega arith))
  beyond dollar = rw (is-other, not_is 36 (omega arith))
  beyond open_brace = rw (is-other, not_is 123 (omega arith))
  beyond close_brace = rw (is-other, not_is 125 (omega arith))
  beyond backslash = rw (is-other, not_is 92 (omega arith))
  beyond equals = rw (is-other, not_is 61 (omega arith))
  beyond colon = rw (is-other, not_is 58 (omega arith))
  beyond single = rw (is-other, not_is 39 (omega arith))
  beyond double = rw (is-other, not_is 34 (omega arith))

-- The law of all classes: the test of a class is whether the class number is its own. `tests hash b` is `is "#" b ≡ eqb (class_number (class b)) (class_number hash)`.
pub tests : (c : Class) (b : ℕ) → test c b ≡ eqb (class_number (class b)) (class_number c)
unfolding right agrees
tests c b = go (ltb b 256) refl
  where
    go : (t : Bool) → ltb b 256 ≡ t → test c b ≡ eqb (class_number (class b)) (class_number c)
    go true e =
        same-eq (test c b) (eqb (class_number (class b)) (class_number c))
        (both_right (eqb (number_of (get_or table b Other)) (class_number (class b))) (agrees c b) (at (right c) table Other (ruled c) b (ltb-true b 256 e)))
    go false e = beyond b (ltb-false b 256 e) c

-- where the class number is k, the test of the class is true, and elsewhere false
pub test-true : (c : Class) (b : ℕ) → class_number (class b) ≡ class_number c → test c b ≡ true
test-true c b e = tests c b ∙ eq-eqb _ _ e

pub test-false : (c : Class) (b : ℕ) → (class_number (class b) ≡ class_number c → ⊥) → test c b ≡ false
test-false c b e = tests c b ∙ ne_eqb _ _ e

-- a text that stands at place i, by the class there
pub class-in : (text : List ℕ) (i : ℕ) → i < length text → class_at (drop i text) ≡ class_number (class (get_or text i 0))
unfolding class_at
class-in text i h = rw (drop-cons text i 0 h)

pub class-past : (text : List ℕ) (i : ℕ) → length text ≤ i → class_at (drop i text) ≡ past
unfolding class_at
class-past text i h = rw (drop_of_length-le text h)

-- a class number is below `past`, so `past` tells the end of the text
pub number-below : (c : Class) → class_number c < past
unfolding class_number
number-below other = omega arith
number-below identifier = omega arith
number-below blank = omega arith
number-below line_end = omega arith
number-below hash = omega arith
number-below dollar = omega arith
number-below open_brace = omega arith
number-below close_brace = omega arith
number-below backslash = omega arith
number-below equals = omega arith
number-below colon = omega arith
number-below single = omega arith
number-below double = omega arith

-- `past` is the class at the end of the text and past it, and nowhere else
pub past_end : (text : List ℕ) (i : ℕ) → class_at (drop i text) ≡ past → length text ≤ i
past_end text i e = go (ltb i (length text)) refl
  where
    go : (t : Bool) → ltb i (length text) ≡ t → length text ≤ i
    go true f =
        let h : i < length text = ltb-true i (length text) f in
        let z : class_number (class (get_or text i 0)) ≡ 15 = sym (class-in text i h) ∙ e in
        absurd (omega (arith, number-below (class (get_or text i 0))))
    go false f = ltb-false i (length text) f

pub not-past : (text : List ℕ) (i : ℕ) → (class_at (drop i text) ≡ past → ⊥) → i < length text
not-past text i n = go (ltb i (length text)) refl
  where
    go : (t : Bool) → ltb i (length text) ≡ t → i < length text
    go true f = ltb-true i (length text) f
    go false f = absurd (n (class-past text i (ltb-false i (length text) f)))

-- a number tells the code's class too
unfoldable by_code : ℕ → ByteClass
by_code n =
    pick (eqb n 0) Other
    (pick (eqb n 1) Identifier
    (pick (eqb n 3) Blank
    (pick (eqb n 4) Equals
    (pick (eqb n 5) Colon
    (pick (eqb n 6) Single
    (pick (eqb n 7) Double
    (pick (eqb n 8) Backslash
    (pick (eqb n 9) LineEnd
    (pick (eqb n 10) Dollar
    (pick (eqb n 11) Hash
    (pick (eqb n 12) OpenBrace
    (pick (eqb n 13) CloseBrace Past))))))))))))

by_code_lem : (k : ByteClass) → by_code (number_of k) ≡ k
unfolding by_code pick
by_code_lem Other = refl
by_code_lem Identifier = refl
by_code_lem Blank = refl
by_code_lem Equals = refl
by_code_lem Colon = refl
by_code_lem Single = refl
by_code_lem Double = refl
by_code_lem Backslash = refl
by_code_lem LineEnd = refl
by_code_lem Dollar = refl
by_code_lem Hash = refl
by_code_lem OpenBrace = refl
by_code_lem CloseBrace = refl
by_code_lem Past = refl

pub named : (k j : ByteClass) → number_of k ≡ number_of j → k ≡ j
named k j e = sym (by_code_lem k) ∙ ap by_code e ∙ by_code_lem j
