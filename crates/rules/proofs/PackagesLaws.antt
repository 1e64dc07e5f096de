-- Laws of the items of a value, of their records and of the call (document 02, R-1). Assumes nothing.
use Prim.Native.Nat.{ℕ, zero, suc, ◌+◌, ◌*◌, ◌-◌, ◌<◌, ◌≤◌}
use mathlib.Core.Path.{◌≡◌, refl, ap, sym, ◌∙◌, subst}
use mathlib.Core.Bool.{Bool, true, false}
use mathlib.Core.List.{List, [], ◌∷◌, ◌++◌, append_assoc}
use mathlib.Core.Option.{Option, none, some}
use native.Mathlib.Omega.{arith}
use lib.ListN.{length, get_or, take, drop, length-append, length-drop}
use lib.Seq.{length-take-le}
use lib.Dec.{eqb, ltb}
use borrow.Author.Tests.{eqb-false, ltb-true, ltb-false}
use Rattle.rules.specs.Bytes.{pick, is, run, all, overwrite}
use Rattle.rules.specs.Variables.{limit}
use Rattle.rules.specs.Records.{record_bytes}
use Rattle.rules.specs.Listing.{Front, front, lines_of_records}
use Rattle.rules.specs.Packages.{is_blank, is_separator, is_word, skip, word, starts_with_equals, operator_of, operator_size, Item, First, nothing, malformed, item, with_version, with_operator, first_item, Items, items, malformed_at, after, items_within, items_of, value_within, value_of, item_records, items_records, accepted, not_records, malformed_item, output_short, number, Packaged, written, packaged, packages}
use Rattle.rules.proofs.LexingLaws.{run-le}
use Rattle.rules.proofs.ListingLaws.{length-record, front-record}
use Rattle.rules.proofs.FormLaws.{size_of, front_cut}

-- the case of a test
pub pick-case : {A : Type 0} (P : A → Type 0) (t : Bool) (a b : A) → (t ≡ true → P a) → (t ≡ false → P b) → P (pick t a b)
unfolding pick
pick-case P true a b f g = f refl
pick-case P false a b f g = g refl

-- every byte of a run passes the test
run-all : (f : ℕ → Bool) (l : List ℕ) → all f (take (run f l) l) ≡ true
unfolding run all
run-all f [] = refl
run-all f (b ∷ l) = go (f b) refl (run-all f l)
  where
    go : (t : Bool) → f b ≡ t → all f (take (run f l) l) ≡ true → all f (take (run f (b ∷ l)) (b ∷ l)) ≡ true
    go true q h = rw (q, run) (rw q h)
    go false q h = rw (q, run) refl

pub length-skip : (f : ℕ → Bool) (l : List ℕ) → length (skip f l) ≡ length l - run f l
unfolding skip
length-skip f l = length-drop (run f l) l

skip-le : (f : ℕ → Bool) (l : List ℕ) → length (skip f l) ≤ length l
skip-le f l = omega (arith, length-skip f l)

run-words : (l : List ℕ) → all is_word (word l) ≡ true
unfolding word
run-words l = run-all is_word l

length-word : (l : List ℕ) → length (word l) ≡ run is_word l
unfolding word
length-word l = length-take-le (run is_word l) l (run-le is_word l)

word-skip : (l : List ℕ) → length (word l) + length (skip is_word l) ≡ length l
word-skip l = omega (arith, length-word l, length-skip is_word l, run-le is_word l)

-- An item as the document says: its name has a byte and no blank, comma or operator byte in it; it has an operator, 1 to 6, exactly if it has
-- a version, which is such a word too
pub record Sound (i : Item) : Type 0 where
  pub some_name : 0 < length i.name
  pub name_word : all is_word i.name ≡ true
  pub version_word : all is_word i.version ≡ true
  pub operators : i.operator ≤ 6
  pub plain : i.operator ≡ 0 → length i.version ≡ 0
  pub versioned : 0 < i.operator → 0 < length i.version

-- an item of a value, and what comes after it
pub record Cut (value : List ℕ) (i : Item) (rest : List ℕ) : Type 0 where
  pub sound : Sound i
  pub fits : length i.name + length i.version + length rest ≤ length value

-- what holds of an item found
abbrev pub Found : (Item → List ℕ → Type 0) → First → Type 0
Found P nothing = Unit {0}
Found P malformed = Unit {0}
Found P (item i rest) = P i rest

below : (t : Bool) (m n : ℕ) → m ≤ 7 → n ≤ 7 → pick t m n ≤ 7
below t m n p q = pick-case (λ (k : ℕ). k ≤ 7) t m n (λ e. p) (λ e. q)

operator-le : (l : List ℕ) → operator_of l ≤ 7
unfolding operator_of
operator-le [] = omega arith
operator-le (b ∷ bs) =
    let e = starts_with_equals bs in
    below (is "=" b) _ _ (omega arith)
    (below (is "<" b) _ _ (below e 4 2 (omega arith) (omega arith))
    (below (is ">" b) _ _ (below e 5 3 (omega arith) (omega arith)) (below (is "!" b) _ _ (below e 6 7 (omega arith) (omega arith)) (omega arith))))

module _ (value : List ℕ) where
  abbrev Cuts : First → Type 0
  Cuts = Found (Cut value)

  version-cut : (name : List ℕ) (operator : ℕ) (rest : List ℕ) → 0 < length name → all is_word name ≡ true → 0 < operator → operator ≤ 6 → length name + length rest ≤ length value
      → Cuts (with_version name operator rest)
  unfolding with_version
  version-cut name operator rest n w p q h = pick-case Cuts (eqb (run is_word rest) 0) _ _ (λ e. tt) (λ e. record {
    sound = record {
      some_name = n;
      name_word = w;
      version_word = run-words rest;
      operators = q;
      plain = λ z. absurd (omega arith);
      versioned = λ z. omega (arith, length-word rest, eqb-false (run is_word rest) 0 e);
    };
    fits = omega (arith, word-skip rest);
  })

  operator-cut : (name rest : List ℕ) → 0 < length name → all is_word name ≡ true → length name + length rest ≤ length value → Cuts (with_operator name rest)
  unfolding with_operator all
  operator-cut name rest n w h =
      let signed = skip is_blank rest in
      let operator = operator_of signed in
      pick-case Cuts (eqb operator 0) _ _
      (λ e. record { sound = record { some_name = n; name_word = w; version_word = refl; operators = omega arith; plain = λ z. refl; versioned = λ z. absurd (omega arith) }; fits = omega arith })
      (λ e. pick-case Cuts (eqb operator 7) _ _ (λ f. tt) (λ f.
      version-cut name operator (skip is_blank (drop (operator_size operator) signed)) n w
      (omega (arith, eqb-false operator 0 e))
      (omega (arith, eqb-false operator 7 f, operator-le signed))
      (omega (arith, skip-le is_blank (drop (operator_size operator) signed), length-drop (operator_size operator) signed, skip-le is_blank rest))))

  -- the first item of a value is as the document says, and is cut from it
  pub first-cut : Cuts (first_item value)
  unfolding first_item
  first-cut =
      let start = skip is_separator value in
      pick-case Cuts (eqb (length start) 0) _ _ (λ e. tt) (λ e. pick-case Cuts (eqb (run is_word start) 0) _ _ (λ f. tt) (λ f.
      operator-cut (word start) (skip is_word start)
      (omega (arith, length-word start, eqb-false (run is_word start) 0 f))
      (run-words start)
      (omega (arith, word-skip start, skip-le is_separator value))))

pub cut_of : (value : List ℕ) (i : Item) (rest : List ℕ) → first_item value ≡ item i rest → Cut value i rest
cut_of value i rest e = subst (Found (Cut value)) e (first-cut value)

-- what is left is shorter
cut-less : {value : List ℕ} {i : Item} {rest : List ℕ} → Cut value i rest → length rest < length value
cut-less c = omega (arith, c.fits, c.sound.some_name)

-- the items, by what a value begins with
abbrev pub items_after : First → Items
items_after nothing = items []
items_after malformed = malformed_at 0
items_after (item i rest) = after i (items_of rest)

-- with so much fuel
module _ (fuel : ℕ) (value : List ℕ) where
  within-nothing : first_item value ≡ nothing → items_within (suc fuel) value ≡ items []
  unfolding items_within
  within-nothing e = rw (e, items_within) refl

  within-malformed : first_item value ≡ malformed → items_within (suc fuel) value ≡ malformed_at 0
  unfolding items_within
  within-malformed e = rw (e, items_within) refl

  within-item : {i : Item} {rest : List ℕ} → first_item value ≡ item i rest → items_within (suc fuel) value ≡ after i (items_within fuel rest)
  unfolding items_within
  within-item e = rw (e, items_within) refl

-- enough fuel is enough
within_same : (f g : ℕ) (value : List ℕ) → length value < f → length value < g → items_within f value ≡ items_within g value
within_same zero g value p q = absurd (omega arith)
within_same (suc f) zero value p q = absurd (omega arith)
within_same (suc f) (suc g) value p q = go (first_item value) refl (λ v a b. within_same f g v a b)
  where
    go : (x : First) → first_item value ≡ x → ((v : List ℕ) → length v < f → length v < g → items_within f v ≡ items_within g v) → items_within (suc f) value ≡ items_within (suc g) value
    go nothing e ih = within-nothing f value e ∙ sym (within-nothing g value e)
    go malformed e ih = within-malformed f value e ∙ sym (within-malformed g value e)
    go (item i rest) e ih = let l = cut-less (cut_of value i rest e) in within-item f value e ∙ ap (after i) (ih rest (omega (arith, l)) (omega (arith, l))) ∙ sym (within-item g value e)

-- one item, then those of what is left
pub items-step : (value : List ℕ) → items_of value ≡ items_after (first_item value)
unfolding items_of
items-step value = go (first_item value) refl
  where
    go : (x : First) → first_item value ≡ x → items_within (suc (length value)) value ≡ items_after x
    go nothing e = within-nothing (length value) value e
    go malformed e = within-malformed (length value) value e
    go (item i rest) e = within-item (length value) value e ∙ ap (after i) (within_same (length value) (suc (length rest)) rest (cut-less (cut_of value i rest e)) (omega arith))

pub items-nothing : (value : List ℕ) → first_item value ≡ nothing → items_of value ≡ items []
items-nothing value e = items-step value ∙ ap items_after e

pub items-malformed : (value : List ℕ) → first_item value ≡ malformed → items_of value ≡ malformed_at 0
items-malformed value e = items-step value ∙ ap items_after e

pub items-item : (value : List ℕ) (i : Item) (rest : List ℕ) → first_item value ≡ item i rest → items_of value ≡ after i (items_of rest)
items-item value i rest e = items-step value ∙ ap items_after e

-- it holds of each item
abbrev pub Each : (Item → Type 0) → List Item → Type 0
Each P [] = Unit {0}
Each P (i ∷ is) = P i × Each P is

abbrev EachOf : (Item → Type 0) → Items → Type 0
EachOf P (items is) = Each P is
EachOf P (malformed_at k) = Unit {0}

each_after : (P : Item → Type 0) (i : Item) (r : Items) → P i → EachOf P r → EachOf P (after i r)
unfolding after
each_after P i (items is) p h = (p, h)
each_after P i (malformed_at k) p h = tt

-- what holds of all that is cut from values of at most n bytes
module _ (P : Item → Type 0) (n : ℕ) (holds : (value : List ℕ) (i : Item) (rest : List ℕ) → length value ≤ n → Cut value i rest → P i) where
  each_within : (fuel : ℕ) (value : List ℕ) → length value ≤ n → EachOf P (items_within fuel value)
  unfolding items_within
  each_within zero value h = tt
  each_within (suc fuel) value h = go (first_item value) refl (λ v l. each_within fuel v l)
    where
      go : (x : First) → first_item value ≡ x → ((v : List ℕ) → length v ≤ n → EachOf P (items_within fuel v)) → EachOf P (items_within (suc fuel) value)
      go nothing e ih = rw (e, items_within) tt
      go malformed e ih = rw (e, items_within) tt
      go (item i rest) e ih =
          let c = cut_of value i rest e in
          rw (e, items_within) (each_after P i (items_within fuel rest) (holds value i rest h c) (ih rest (omega (arith, h, cut-less c))))

  each_of : (value : List ℕ) (is : List Item) → length value ≤ n → items_of value ≡ items is → Each P is
  unfolding items_of
  each_of value is h e = subst (EachOf P) e (each_within (suc (length value)) value h)

-- Every item of a value is as the document says
pub each-sound : (value : List ℕ) (is : List Item) → items_of value ≡ items is → Each Sound is
each-sound value is e = each_of Sound (length value) (λ v i rest h c. c.sound) value is (omega arith) e

-- names and versions fit a record
pub record Small (i : Item) : Type 0 where
  pub name : length i.name ≤ limit
  pub version : length i.version ≤ limit

pub each-small : (value : List ℕ) (is : List Item) → length value ≤ limit → items_of value ≡ items is → Each Small is
each-small value is h e = each_of Small limit (λ v i rest l c. record { name = omega (arith, l, c.fits); version = omega (arith, l, c.fits) }) value is h e

-- "The need is 20 bytes an item and both lengths."
abbrev pub lengths : List Item → ℕ
lengths [] = 0
lengths (i ∷ is) = length i.name + length i.version + lengths is

pub item-need : (field : ℕ) (i : Item) → length (item_records field i) ≡ 20 + length i.name + length i.version
unfolding item_records
item-need field i = simp (length-append, length-record) (omega arith)

pub items-need : (field : ℕ) (is : List Item) → length (items_records field is) ≡ 20 * length is + lengths is
unfolding items_records
items-need field [] = refl
items-need field (i ∷ is) = omega (arith, length-append (item_records field i) (items_records field is), item-need field i, items-need field is)

-- the value of a field, record by record
front-shorter : (records : List ℕ) (r : Front) → front records ≡ some r → length r.rest < length records
front-shorter records r e =
    let x = front_cut records r e in
    let y : length (drop (6 + size_of records) records) ≡ length r.rest = ap (λ (f : Front). length f.rest) x.2 in
    omega (arith, x.0, y, length-drop (6 + size_of records) records)

-- its length has the limit of every payload
front-small : (records : List ℕ) (r : Front) → front records ≡ some r → length r.payload ≤ limit
front-small records r e =
    let x = front_cut records r e in
    let y : length (take (size_of records) (drop 6 records)) ≡ length r.payload = ap (λ (f : Front). length f.payload) x.2 in
    let z : length (take (size_of records) (drop 6 records)) ≡ size_of records = length-take-le (size_of records) (drop 6 records) (omega (arith, length-drop 6 records, x.0)) in
    omega (arith, x.1, y, z)

module _ (field : ℕ) where
  value-within : (fuel : ℕ) (records : List ℕ) (r : Front) → front records ≡ some r → value_within (suc fuel) field records ≡ pick (eqb r.kind field) r.payload (value_within fuel field r.rest)
  unfolding value_within
  value-within fuel records r e = rw (e, value_within) refl

  none_within : (fuel : ℕ) (records : List ℕ) → front records ≡ none → value_within (suc fuel) field records ≡ []
  unfolding value_within
  none_within fuel records e = rw (e, value_within) refl

  value_same : (f g : ℕ) (records : List ℕ) → length records < f → length records < g → value_within f field records ≡ value_within g field records
  value_same zero g records p q = absurd (omega arith)
  value_same (suc f) zero records p q = absurd (omega arith)
  value_same (suc f) (suc g) records p q = go (front records) refl (λ v a b. value_same f g v a b)
    where
      go : (x : Option Front) → front records ≡ x → ((v : List ℕ) → length v < f → length v < g → value_within f field v ≡ value_within g field v)
          → value_within (suc f) field records ≡ value_within (suc g) field records
      go none e ih = none_within f records e ∙ sym (none_within g records e)
      go (some r) e ih =
          let l = front-shorter records r e in
          value-within f records r e ∙ ap (pick (eqb r.kind field) r.payload) (ih r.rest (omega (arith, l)) (omega (arith, l))) ∙ sym (value-within g records r e)

  pub value_none : (records : List ℕ) → front records ≡ none → value_of field records ≡ []
  unfolding value_of
  value_none records e = none_within (length records) records e

  pub value-some : (records : List ℕ) (r : Front) → front records ≡ some r → value_of field records ≡ pick (eqb r.kind field) r.payload (value_of field r.rest)
  unfolding value_of
  value-some records r e =
      value-within (length records) records r e
      ∙ ap (pick (eqb r.kind field) r.payload) (value_same (length records) (suc (length r.rest)) r.rest (front-shorter records r e) (omega arith))

  small-within : (fuel : ℕ) (records : List ℕ) → length (value_within fuel field records) ≤ limit
  unfolding value_within
  small-within zero records = omega arith
  small-within (suc fuel) records = go (front records) refl (λ v. small-within fuel v)
    where
      go : (x : Option Front) → front records ≡ x → ((v : List ℕ) → length (value_within fuel field v) ≤ limit) → length (value_within (suc fuel) field records) ≤ limit
      go none e ih = omega (arith, ap length (none_within fuel records e))
      go (some r) e ih = rw (value-within fuel records r e) (pick-case (λ (v : List ℕ). length v ≤ limit) (eqb r.kind field) _ _ (λ q. front-small records r e) (λ q. ih r.rest))

  pub value-small : (records : List ℕ) → length (value_of field records) ≤ limit
  unfolding value_of
  value-small records = small-within (suc (length records)) records

-- items read back from their records, so many of them
unfoldable pub read_items : ℕ → List ℕ → List Item
read_items zero bytes = []
read_items (suc n) bytes = elim (front bytes) [
  | none ↦ []
  | some a ↦ elim (front a.rest) [
    | none ↦ []
    | some b ↦ elim (front b.rest) [
      | none ↦ []
      | some c ↦ record { name = b.payload; operator = get_or a.payload 1 0; version = c.payload } ∷ read_items n c.rest
    ]
  ]
]

-- what is written says the items: their records read back as them, whatever comes after
pub read_back : (field : ℕ) (is : List Item) (rest : List ℕ) → Each Small is → read_items (length is) (items_records field is ++ rest) ≡ is
unfolding read_items items_records item_records limit
read_back field [] rest h = refl
read_back field (i ∷ is) rest h =
    let head = record_bytes 12 (field ∷ i.operator ∷ []) in
    let name = record_bytes 13 i.name in
    let version = record_bytes 14 i.version in
    let more = items_records field is ++ rest in
    let e : head ++ (name ++ version) ++ items_records field is ++ rest ≡ head ++ (name ++ (version ++ more)) =
    append_assoc (head ++ (name ++ version)) (items_records field is) rest ∙ append_assoc head (name ++ version) more ∙ ap (λ (x : List ℕ). head ++ x) (append_assoc name version more) in
    let a = front-record 12 (field ∷ i.operator ∷ []) (name ++ (version ++ more)) (omega arith) (omega arith) in
    let b = front-record 13 i.name (version ++ more) (omega arith) h.0.name in
    let c = front-record 14 i.version more (omega arith) h.0.version in
    rw (e, a, read_items) (rw (b, read_items) (rw (c, read_items) (ap (λ (x : List Item). i ∷ x) (read_back field is rest h.1))))

-- any two outcomes that the contract allows are equal
pub one-packages : (records output : List ℕ) (p q : Packaged) → p ≡ packages records output → q ≡ packages records output → p ≡ q
one-packages records output p q x y = x ∙ sym y

-- how the call can go: its conditions, in order, and its outcome
pub data Goes (records output : List ℕ) (p : Packaged) : Type 0 where
  broken : lines_of_records records ≡ none → p ≡ record { answer = not_records; output = output } → Goes records output p
  fifth : (k : ℕ) → items_of (value_of 5 records) ≡ malformed_at k → p ≡ record { answer = malformed_item 5 k; output = output } → Goes records output p
  sixth : (is : List Item) (k : ℕ) → items_of (value_of 5 records) ≡ items is → items_of (value_of 6 records) ≡ malformed_at k → p ≡ record { answer = malformed_item 6 k; output = output }
      → Goes records output p
  short : (is js : List Item) → items_of (value_of 5 records) ≡ items is → items_of (value_of 6 records) ≡ items js → length output < length (items_records 5 is ++ items_records 6 js)
      → p ≡ record { answer = output_short (length (items_records 5 is ++ items_records 6 js)); output = output } → Goes records output p
  all_written : (is js : List Item) → items_of (value_of 5 records) ≡ items is → items_of (value_of 6 records) ≡ items js → length (items_records 5 is ++ items_records 6 js) ≤ length output
      → p ≡ record { answer = accepted (length (items_records 5 is ++ items_records 6 js)); output = overwrite (items_records 5 is ++ items_records 6 js) output } → Goes records output p

module _ (records output : List ℕ) where
  pub goes : Goes records output (packages records output)
  unfolding packages packaged written pick
  goes = start (lines_of_records records) refl (items_of (value_of 5 records)) refl (items_of (value_of 6 records)) refl
    where
      sized : (is js : List Item) → items_of (value_of 5 records) ≡ items is → items_of (value_of 6 records) ≡ items js → (t : Bool) → ltb (length output) (length (items_records 5 is ++ items_records 6 js)) ≡ t
          → Goes records output (packaged (items is) (items js) output)
      sized is js p q true e = short is js p q (ltb-true _ _ e) (rw e refl)
      sized is js p q false e = all_written is js p q (ltb-false _ _ e) (rw e refl)

      start : (l : Option (List ℕ)) → lines_of_records records ≡ l → (x : Items) → items_of (value_of 5 records) ≡ x → (y : Items) → items_of (value_of 6 records) ≡ y → Goes records output (packages records output)
      start none e x p y q = rw (e, packages) (broken e refl)
      start (some l) e (malformed_at k) p y q = rw (e, p, packages) (fifth k p refl)
      start (some l) e (items is) p (malformed_at k) q = rw (e, p, q, packages) (sixth is k p q refl)
      start (some l) e (items is) p (items js) q = rw (e, p, q, packages) (sized is js p q _ refl)

  -- "none writes anything"
  pub refused-writes-nothing : (number (packages records output).answer ≡ 0 → ⊥) → (packages records output).output ≡ output
  unfolding number
  refused-writes-nothing h = go goes
    where
      go : Goes records output (packages records output) → (packages records output).output ≡ output
      go (broken a e) = ap (λ (p : Packaged). p.output) e
      go (fifth k a e) = ap (λ (p : Packaged). p.output) e
      go (sixth is k a b e) = ap (λ (p : Packaged). p.output) e
      go (short is js a b l e) = ap (λ (p : Packaged). p.output) e
      go (all_written is js a b l e) = absurd (h (ap (λ (p : Packaged). number p.answer) e))

  -- the need of 17, and the bytes written on 0: 20 an item and both lengths
  pub need-is : (is js : List Item) → length (items_records 5 is ++ items_records 6 js) ≡ 20 * (length is + length js) + lengths is + lengths js
  need-is is js = omega (arith, length-append (items_records 5 is) (items_records 6 js), items-need 5 is, items-need 6 js)
