-- Laws of the first record in form, and of the items that are left. Assumes nothing.
use Prim.Native.Nat.{ℕ, zero, suc, ◌+◌, ◌*◌, ◌-◌, ◌<◌, ◌≤◌}
use mathlib.Core.Path.{◌≡◌, refl, ap, sym, ◌∙◌}
use mathlib.Core.Logic.{◌⊎◌, inl, inr}
use mathlib.Core.List.{List, [], ◌∷◌}
use mathlib.Core.Bool.{Bool, true, false, ◌&&◌}
use mathlib.Core.Option.{Option, none, some}
use native.Mathlib.Omega.{arith}
use lib.Dec.{ltb, eqb}
use lib.ListN.{length, get_or}
use borrow.Author.Tests.{le-leb, lt-leb, lt-ltb, le-ltb, eq-eqb, ne_eqb}
use Rattle.rules.specs.Bytes.{from_little, pick}
use Rattle.rules.specs.Lines.{is_string}
use Rattle.rules.specs.Listing.{Front, front, Form, form, wrong, argument, string, list, less}
use Rattle.walker.proofs.Heads.{front-shorter}
use Rattle.walker.specs.Forms.{Item, value, count, broken, First, formed, formed_front, formed_at, first_of, items_within, items_from}

pub four_in : (bs : List ℕ) → length bs ≡ 4 → from_little bs ≡ get_or bs 0 0 + get_or bs 1 0 * 256 + get_or bs 2 0 * 65536 + get_or bs 3 0 * 16777216
unfolding from_little
four_in (a ∷ b ∷ c ∷ d ∷ []) h = omega arith
four_in [] h = absurd (omega (arith, h))
four_in (a ∷ []) h = absurd (omega (arith, h))
four_in (a ∷ b ∷ []) h = absurd (omega (arith, h))
four_in (a ∷ b ∷ c ∷ []) h = absurd (omega (arith, h))
four_in (a ∷ b ∷ c ∷ d ∷ e ∷ bs) h = absurd (omega (arith, h))

pub first-none : (last due : ℕ) (bs : List ℕ) → front bs ≡ none → first_of last due bs ≡ none
unfolding first_of formed_at
first-none last due bs f = rw f refl

pub first-some : (last due : ℕ) (bs : List ℕ) (r : Front) → front bs ≡ some r → first_of last due bs ≡ formed_front last due r
unfolding first_of formed_at
first-some last due bs r f = rw f refl

pub by-form : (last due : ℕ) (bs : List ℕ) (r : Front) → front bs ≡ some r → (g : Form) → form last due r.kind ≡ g → first_of last due bs ≡ formed last due r g
unfolding formed_front
by-form last due bs r f g e = first-some last due bs r f ∙ ap (formed last due r) e

module _ (last due : ℕ) (r : Front) where
  formed-by : (g : Form) → form last due r.kind ≡ g → formed_front last due r ≡ formed last due r g
  unfolding formed_front
  formed-by g e = ap (formed last due r) e

  pub form-argument : 0 < due → r.kind ≡ 11 → formed_front last due r ≡ some (record { item = value r.kind r.payload; rest = r.rest; last = last; due = due - 1 })
  unfolding formed form less
  form-argument p k = formed-by argument (form-is due p) ∙ ap (λ (n : ℕ). some (record { item = value r.kind r.payload; rest = r.rest; last = last; due = n })) (less_is due)
    where
      form-is : (due : ℕ) → 0 < due → form last due r.kind ≡ argument
      form-is zero p = absurd (omega arith)
      form-is (suc due) p = rw (eq-eqb r.kind 11 k, form) refl

      less_is : (n : ℕ) → less n ≡ n - 1
      less_is zero = refl
      less_is (suc n) = omega arith

  pub form-unlisted : 0 < due → (r.kind ≡ 11 → ⊥) → formed_front last due r ≡ none
  unfolding formed form
  form-unlisted p n = formed-by wrong (form-is due p)
    where
      form-is : (due : ℕ) → 0 < due → form last due r.kind ≡ wrong
      form-is zero p = absurd (omega arith)
      form-is (suc due) p = rw (ne_eqb r.kind 11 n, form) refl

  module _ (z : due ≤ 0) where
    none-due : due ≡ 0
    none-due = omega arith

    pub form-wrong : (r.kind ≤ last) ⊎ (10 < r.kind) → formed_front last due r ≡ none
    unfolding formed form is_string
    form-wrong h = formed-by wrong (rw none-due (go h))
      where
        high : 10 < r.kind → (b : Bool) → ltb last r.kind ≡ b → form last 0 r.kind ≡ wrong
        high h true q = rw (q, lt-leb r.kind 7 (omega arith), lt-leb r.kind 10 h, form) refl
        high h false q = rw (q, form) refl

        go : (r.kind ≤ last) ⊎ (10 < r.kind) → form last 0 r.kind ≡ wrong
        go (inl h) = rw (le-ltb last r.kind h, form) refl
        go (inr h) = high h (ltb last r.kind) refl

    pub form-string : last < r.kind → r.kind ≤ 7 → formed_front last due r ≡ some (record { item = value r.kind r.payload; rest = r.rest; last = r.kind; due = 0 })
    unfolding formed form is_string
    form-string h k = formed-by string (rw none-due (rw (lt-ltb last r.kind h, le-leb r.kind 7 k, form) refl))

    list_is : last < r.kind → 7 < r.kind → r.kind ≤ 10 → form last due r.kind ≡ list
    unfolding form is_string
    list_is h k l = rw none-due (rw (lt-ltb last r.kind h, lt-leb r.kind 7 k, le-leb r.kind 10 l, form) refl)

    pub form-list : last < r.kind → 7 < r.kind → r.kind ≤ 10 → length r.payload ≡ 4 → (n : ℕ) → from_little r.payload ≡ n
        → formed_front last due r ≡ some (record { item = count r.kind n; rest = r.rest; last = r.kind; due = n })
    unfolding formed pick
    form-list h k l e n d = formed-by list (list_is h k l) ∙ rw (eq-eqb (length r.payload) 4 e, d) refl

    pub form-long : last < r.kind → 7 < r.kind → r.kind ≤ 10 → (length r.payload ≡ 4 → ⊥) → formed_front last due r ≡ none
    unfolding formed pick
    form-long h k l e = formed-by list (list_is h k l) ∙ rw (ne_eqb (length r.payload) 4 e) refl

-- a record by the tests before it, for an attribute
pub ruleset forms = (form-argument, form-unlisted, form-wrong, form-string, form-list, form-long)

-- the items by the first record
pub items-end : (last due : ℕ) (bs : List ℕ) → (eqb (length bs) 0 && eqb due 0) ≡ true → items_from last due bs ≡ []
unfolding items_from items_within pick
items-end last due bs e = rw e refl

module _ (last due : ℕ) (bs : List ℕ) (not_end : (eqb (length bs) 0 && eqb due 0) ≡ false) where
  pub within-broken : (fuel : ℕ) → first_of last due bs ≡ none → items_within (suc fuel) last due bs ≡ broken ∷ []
  unfolding items_within pick
  within-broken fuel f = rw (not_end, f, items_within) refl

  pub within-first : (fuel : ℕ) (r : First) → first_of last due bs ≡ some r → items_within (suc fuel) last due bs ≡ r.item ∷ items_within fuel r.last r.due r.rest
  unfolding items_within pick
  within-first fuel r f = rw (not_end, f, items_within) refl

  pub items-broken : first_of last due bs ≡ none → items_from last due bs ≡ broken ∷ []
  unfolding items_from
  items-broken f = within-broken (length bs) f

none-some : {r : First} → none ≡ some r → ⊥
none-some e = let z : ◌≡◌ {A = ℕ} 0 1 = cc in omega arith

pub first-shorter : (last due : ℕ) (bs : List ℕ) (r : First) → first_of last due bs ≡ some r → length r.rest + 6 ≤ length bs
unfolding first_of formed_at formed pick
first-shorter last due bs r e = go (front bs) refl
  where
    some-rest : {s : First} → some s ≡ some r → length s.rest ≡ length r.rest
    some-rest {s} e = let z : s ≡ r = cc in ap (λ (f : First). length f.rest) z

    picked : (b : Bool) (s : First) → pick b (some s) none ≡ some r → length s.rest ≡ length r.rest
    picked true s e = some-rest e
    picked false s e = absurd (none-some e)

    same-rest : (x : Front) (g : Form) → formed last due x g ≡ some r → length x.rest ≡ length r.rest
    same-rest x wrong e = absurd (none-some e)
    same-rest x argument e = some-rest e
    same-rest x string e = some-rest e
    same-rest x list e = picked (eqb (length x.payload) 4) _ e

    go : (o : Option Front) → front bs ≡ o → length r.rest + 6 ≤ length bs
    go none f = absurd (none-some (sym (first-none last due bs f) ∙ e))
    go (some x) f = omega (arith, front-shorter bs x f, same-rest x (form last due x.kind) (sym (by-form last due bs x f (form last due x.kind) refl) ∙ e))

within-same : (f g last due : ℕ) (bs : List ℕ) → length bs < f → length bs < g → items_within f last due bs ≡ items_within g last due bs
unfolding items_within pick
within-same zero g last due bs p q = absurd (omega arith)
within-same (suc f) zero last due bs p q = absurd (omega arith)
within-same (suc f) (suc g) last due bs p q = go (eqb (length bs) 0 && eqb due 0) refl (first_of last due bs) refl (λ l d v a b. within-same f g l d v a b)
  where
    go : (x : Bool) → (eqb (length bs) 0 && eqb due 0) ≡ x → (o : Option First) → first_of last due bs ≡ o
        → ((l d : ℕ) (v : List ℕ) → length v < f → length v < g → items_within f l d v ≡ items_within g l d v)
        → items_within (suc f) last due bs ≡ items_within (suc g) last due bs
    go true x o e ih = rw (x, items_within) refl
    go false x none e ih = within-broken last due bs x f e ∙ sym (within-broken last due bs x g e)
    go false x (some r) e ih =
        let l = first-shorter last due bs r e in
        within-first last due bs x f r e ∙ ap (λ (i : List Item). r.item ∷ i) (ih r.last r.due r.rest (omega (arith, l)) (omega (arith, l))) ∙ sym (within-first last due bs x g r e)

pub items-first : (last due : ℕ) (bs : List ℕ) (r : First) → first_of last due bs ≡ some r → items_from last due bs ≡ r.item ∷ items_from r.last r.due r.rest
unfolding items_from
items-first last due bs r e =
    let l = first-shorter last due bs r e in
    within-first last due bs (some_left (eqb (length bs) 0) (eqb due 0) (ne_eqb (length bs) 0 (λ x. omega (arith, l)))) (length bs) r e
    ∙ ap (λ (x : List Item). r.item ∷ x) (within-same (length bs) (suc (length r.rest)) r.last r.due r.rest (omega (arith, l)) (omega arith))
  where
    some_left : (a b : Bool) → a ≡ false → (a && b) ≡ false
    some_left a b e = rw e refl

pub items-none : items_from 0 0 [] ≡ []
items-none = items-end 0 0 [] refl

-- the end, and a break of the form, for an attribute
pub ruleset lefts = (items-end, items-broken, items-none)
