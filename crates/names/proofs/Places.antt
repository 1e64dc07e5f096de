-- The search for the place of a name among those in byte order, and what the place says. Assumes nothing.
use Prim.Native.Nat.{ℕ, zero, suc, ◌+◌, ◌-◌, ◌/◌, ◌≤◌, ◌<◌}
use mathlib.Core.Path.{◌≡◌, refl, sym, ◌∙◌, ap}
use mathlib.Core.Bool.{Bool, true, false}
use mathlib.Core.List.{List, [], ◌∷◌, ◌++◌, map}
use native.Mathlib.Omega.{arith}
use lib.ListN.{length, get_or, take, drop, length-map}
use borrow.Author.Tests.{eqb-true}
use Rattle.rules.specs.Bytes.{pick, same, before}
use Rattle.rules.proofs.BytesLaws.{same-eq, same_refl, false-true, Before, before-is, is-before, before_irrefl, before_trans, before_total}
use Rattle.rules.specs.Tokens.{Token, is_a, text_kind, pooled}
use Rattle.rules.specs.Lines.{Assignment, assigned, insert}
use Rattle.rules.proofs.TableLaws.{After, Sorted, or-false}
use Rattle.rules.specs.Variables.{rank_of, key_at}
use Rattle.std.specs.declared.cmp.Ordering.{Ordering}
use Rattle.std.specs.declared.cmp.Ordering.TheVariants.{Less, Equal, Greater}
use Rattle.std.specs.Ordering.{is_lt, is_eq}
use Rattle.scan.specs.ByteOrder.{order_of}
use Rattle.scan.proofs.Compares.{less_before, equal_same}
use Rattle.tokens.specs.Entries.{token_at, pool_text}
use Rattle.workspace.specs.Map.{variable_at}
use Rattle.names.specs.Store.{place_for, All, place_among}
use Rattle.names.specs.Named.{named, Searchable}
use Rattle.std.specs.Prelude.{Result, Ok, Err}
use Rattle.std.specs.Result.{result_unwrap_or}

-- the i-th name stands before the key; it is the key
abbrev is_before : List Assignment → List ℕ → ℕ → Bool
is_before vs key i = before (key_at vs i).text key

abbrev is_same : List Assignment → List ℕ → ℕ → Bool
is_same vs key i = same (key_at vs i).text key

by-not-true : (b : Bool) → (b ≡ true → ⊥) → b ≡ false
by-not-true true h = absurd (h refl)
by-not-true false h = refl

-- what stands after a name that is not before the key isn't either
after-before : (key : List ℕ) (a : List ℕ) (vs : List Assignment) (i : ℕ) → i < length vs → After a vs → Before a (key_at vs i).text
unfolding key_at
after-before key a [] i h x = absurd (omega arith)
after-before key a (v ∷ vs) zero h x = x.0
after-before key a (v ∷ vs) (suc i) h x = after-before key a vs i (omega arith) x.1

pub down : (vs : List Assignment) (key : List ℕ) → Sorted vs → (i j : ℕ) → i ≤ j → j < length vs → is_before vs key j ≡ true → is_before vs key i ≡ true
unfolding key_at
down [] key s i j p h q = absurd (omega arith)
down (v ∷ vs) key s zero zero p h q = q
down (v ∷ vs) key s zero (suc j) p h q = is-before (before_trans (after-before key v.key.text vs j (omega arith) s.0) (before-is (key_at vs j).text key q))
down (v ∷ vs) key s (suc i) zero p h q = absurd (omega arith)
down (v ∷ vs) key s (suc i) (suc j) p h q = down vs key s.1 i j (omega arith) (omega arith) q

-- of two names, the one at the lower rank stands before the other
pair : (vs : List Assignment) → Sorted vs → (i j : ℕ) → i < j → j < length vs → Before (key_at vs i).text (key_at vs j).text
unfolding key_at
pair [] s i j p h = absurd (omega arith)
pair (v ∷ vs) s i zero p h = absurd (omega arith)
pair (v ∷ vs) s zero (suc j) p h = after-before v.key.text v.key.text vs j (omega arith) s.0
pair (v ∷ vs) s (suc i) (suc j) p h = pair vs s.1 i j (omega arith) (omega arith)

-- a search's bracket: p holds below lo, and not from hi on
pub record Bracket (p : ℕ → Bool) (n lo hi : ℕ) : Type 0 where
  pub lo_le : lo ≤ hi
  pub hi_le : hi ≤ n
  pub below : (k : ℕ) → k < lo → p k ≡ true
  pub above : (k : ℕ) → hi ≤ k → k < n → p k ≡ false

module _ (vs : List Assignment) (key : List ℕ) (n lo hi : ℕ) (l : length vs ≡ n) (s : Sorted vs) (b : Bracket (is_before vs key) n lo hi) (m : ℕ) (p : lo ≤ m) (h : m < hi) where
  pub go-up : is_before vs key m ≡ true → Bracket (is_before vs key) n (m + 1) hi
  go-up t = record { lo_le = omega arith; hi_le = b.hi_le; below = λ k q. down vs key s k m (omega arith) (omega (arith, b.hi_le)) t; above = b.above }

  pub go-down : is_before vs key m ≡ false → Bracket (is_before vs key) n lo m
  go-down f = record { lo_le = p; hi_le = omega (arith, b.hi_le); below = b.below; above = λ k q r. by-not-true (is_before vs key k) (λ t. false-true f (down vs key s m k q (omega arith) t)) }

pub bracket-start : (p : ℕ → Bool) (n : ℕ) → Bracket p n 0 n
bracket-start p n = record { lo_le = omega arith; hi_le = omega arith; below = λ k q. absurd (omega arith); above = λ k q r. absurd (omega arith) }

-- those before it are the names before place r: r is the place
place-between : (vs : List Assignment) (key : List ℕ) (r : ℕ) → r ≤ length vs → ((k : ℕ) → k < r → is_before vs key k ≡ true)
    → ((k : ℕ) → r ≤ k → k < length vs → is_before vs key k ≡ false) → r ≡ place_for key vs
unfolding place_for key_at
place-between [] key r h b a = omega arith
place-between (v ∷ vs) key zero h b a = rw (a 0 (omega arith) (omega arith), place_for)
place-between (v ∷ vs) key (suc r) h b a =
    rw (b 0 (omega arith), place_for) (ap suc (place-between vs key r (omega arith) (λ k q. b (suc k) (omega arith)) (λ k p q. a (suc k) (omega arith) (omega arith))))

pub bracket-end : (vs : List Assignment) (key : List ℕ) (n lo hi : ℕ) → length vs ≡ n → hi ≤ lo → Bracket (is_before vs key) n lo hi → lo ≡ place_for key vs
bracket-end vs key n lo hi l e b = place-between vs key lo (omega (arith, b.lo_le, b.hi_le)) b.below (λ k q r. b.above k (omega arith) (omega arith))

pub place-le : (key : List ℕ) (vs : List Assignment) → place_for key vs ≤ length vs
unfolding place_for
place-le key [] = omega arith
place-le key (v ∷ vs) = go (before v.key.text key) refl (place-le key vs)
  where
    go : (b : Bool) → before v.key.text key ≡ b → place_for key vs ≤ length vs → place_for key (v ∷ vs) ≤ suc (length vs)
    go true q ih = rw (q, place_for) (omega arith)
    go false q ih = rw (q, place_for) (omega arith)

same-swap : (a b : List ℕ) → Before a b → same a b ≡ false
same-swap a b h = by-not-true (same a b) (λ e. before_irrefl b (rw (same-eq a b e) at h))

same-swap' : (a b : List ℕ) → Before a b → same b a ≡ false
same-swap' a b h = by-not-true (same b a) (λ e. before_irrefl a (rw (same-eq b a e) at h))

-- a key before all of them is none of them
none_after : (key : List ℕ) (vs : List Assignment) → After key vs → assigned key vs ≡ false
unfolding assigned
none_after key [] x = refl
none_after key (v ∷ vs) x = rw (same-swap key v.key.text x.0) (none_after key vs x.1)

after_trans : {a b : List ℕ} (vs : List Assignment) → Before a b → After b vs → After a vs
after_trans [] h x = tt
after_trans (v ∷ vs) h x = (before_trans h x.0, after_trans vs h x.1)

-- the name at the rank is the key: it's there
pub place_found : (key : List ℕ) (vs : List Assignment) → Sorted vs → place_for key vs < length vs → same (key_at vs (place_for key vs)).text key ≡ true
    → (place_for key vs ≡ rank_of key vs) × (assigned key vs ≡ true)
unfolding place_for rank_of assigned key_at
place_found key [] s h e = absurd (omega arith)
place_found key (v ∷ vs) s h e = go (before v.key.text key) refl (λ a b. place_found key vs s.1 a b)
  where
    go : (b : Bool) → before v.key.text key ≡ b
        → (place_for key vs < length vs → same (key_at vs (place_for key vs)).text key ≡ true → (place_for key vs ≡ rank_of key vs) × (assigned key vs ≡ true))
        → (place_for key (v ∷ vs) ≡ rank_of key (v ∷ vs)) × (assigned key (v ∷ vs) ≡ true)
    go true q ih =
        let d = same-swap' v.key.text key (before-is v.key.text key q) in
        let x = ih (omega (arith, rw (q, place_for) at h)) (rw (q, place_for) at e) in
        (rw (q, d, place_for, rank_of) (ap suc x.0), rw d x.1)
    go false q ih =
        let z : same v.key.text key ≡ true = rw (q, place_for) at e in
        let y : same key v.key.text ≡ true = rw (same-eq v.key.text key z) (same_refl key) in
        (rw (q, y, place_for, rank_of), rw y)

-- it isn't: it's nowhere
pub place_none : (key : List ℕ) (vs : List Assignment) → Sorted vs → (place_for key vs < length vs → same (key_at vs (place_for key vs)).text key ≡ false)
    → assigned key vs ≡ false
unfolding place_for assigned key_at
place_none key [] s e = refl
place_none key (v ∷ vs) s e = go (before v.key.text key) refl (λ b. place_none key vs s.1 b)
  where
    go : (b : Bool) → before v.key.text key ≡ b
        → ((place_for key vs < length vs → same (key_at vs (place_for key vs)).text key ≡ false) → assigned key vs ≡ false) → assigned key (v ∷ vs) ≡ false
    go true q ih =
        let d = same-swap' v.key.text key (before-is v.key.text key q) in
        rw d (ih (λ a. (rw (q, place_for) at e) (omega arith)))
    go false q ih =
        let z : same v.key.text key ≡ false = (rw (q, place_for) at e) (omega arith) in
        let k = before_total v.key.text key q z in
        let d = same-swap key v.key.text k in
        rw d (none_after key vs (after_trans vs k s.0))

-- a name that is none of them goes to its rank
pub place-insert : (v : Assignment) (vs : List Assignment) → assigned v.key.text vs ≡ false
    → insert v vs ≡ take (place_for v.key.text vs) vs ++ v ∷ drop (place_for v.key.text vs) vs
unfolding insert place_for assigned
place-insert v [] e = refl
place-insert v (w ∷ ws) e = go (before v.key.text w.key.text) refl (or-false (same v.key.text w.key.text) (assigned v.key.text ws) e) (λ a. place-insert v ws a)
  where
    go : (b : Bool) → before v.key.text w.key.text ≡ b → (same v.key.text w.key.text ≡ false) × (assigned v.key.text ws ≡ false)
        → (assigned v.key.text ws ≡ false → insert v ws ≡ take (place_for v.key.text ws) ws ++ v ∷ drop (place_for v.key.text ws) ws)
        → insert v (w ∷ ws) ≡ take (place_for v.key.text (w ∷ ws)) (w ∷ ws) ++ v ∷ drop (place_for v.key.text (w ∷ ws)) (w ∷ ws)
    go true q x ih =
        let h = before-is v.key.text w.key.text q in
        let d : before w.key.text v.key.text ≡ false = by-not-true (before w.key.text v.key.text) (λ t. before_irrefl v.key.text (before_trans h (before-is w.key.text v.key.text t))) in
        rw (q, d, insert, place_for)
    go false q x ih =
        let d : before w.key.text v.key.text ≡ true = is-before (before_total v.key.text w.key.text q x.0) in
        rw (q, d, insert, place_for) (ap (λ (l : List Assignment). w ∷ l) (ih x.1))

-- a search for `key` that stops where it is: it may be between lo and hi, and it isn't at hi
pub record Searching (vs : List Assignment) (v : ℕ) (key : List ℕ) (lo hi : ℕ) : Type 0 where
  pub bracket : Bracket (is_before vs key) v lo hi
  pub not_there : hi < v → is_same vs key hi ≡ false

-- a name that is none of them has the rank past the last
unassigned-rank : (key : List ℕ) (vs : List Assignment) → assigned key vs ≡ false → length vs ≡ rank_of key vs
unfolding rank_of assigned
unassigned-rank key [] e = refl
unassigned-rank key (v ∷ vs) e = let x = or-false (same key v.key.text) (assigned key vs) e in rw (x.0, rank_of) (ap suc (unassigned-rank key vs x.1))

-- what was found, by its case
-- the rank of a name, or the number of names where it is none of them
pub rank-or : (vs : List Assignment) (key : List ℕ) (v : ℕ) → length vs ≡ v → result_unwrap_or (place_among vs key) v ≡ rank_of key vs
unfolding place_among pick
rank-or vs key v l = go (assigned key vs) refl
  where
    go : (b : Bool) → assigned key vs ≡ b → result_unwrap_or (pick {A = Result ℕ ℕ} b (Ok (rank_of key vs)) (Err (place_for key vs))) v ≡ rank_of key vs
    go true z = refl
    go false z = sym l ∙ unassigned-rank key vs z

module _ (vs : List Assignment) (key : List ℕ) (r : Result ℕ ℕ) (e : r ≡ place_among vs key) where
  pub taken : (i : ℕ) → r ≡ Ok i → (i ≡ rank_of key vs) × (assigned key vs ≡ true)
  unfolding place_among pick
  taken i q = go (assigned key vs) refl
    where
      go : (t : Bool) → assigned key vs ≡ t → (i ≡ rank_of key vs) × (t ≡ true)
      go true z = (let y : Ok i ≡ Ok (rank_of key vs) = sym q ∙ (rw (z, place_among) at e) in cc, refl)
      go false z = (let y : Ok i ≡ Err (place_for key vs) = sym q ∙ (rw (z, place_among) at e) in let x : ◌≡◌ {A = ℕ} 0 1 = cc in absurd (omega arith))

  pub free : (p : ℕ) → r ≡ Err p → (p ≡ place_for key vs) × (length vs ≡ rank_of key vs) × (assigned key vs ≡ false)
  unfolding place_among pick
  free p q = go (assigned key vs) refl
    where
      go : (t : Bool) → assigned key vs ≡ t → (p ≡ place_for key vs) × (length vs ≡ rank_of key vs) × (t ≡ false)
      go true z = (let y : Err p ≡ Ok (rank_of key vs) = sym q ∙ (rw (z, place_among) at e) in let x : ◌≡◌ {A = ℕ} 0 1 = cc in absurd (omega arith))
      go false z = (let y : Err p ≡ Err (place_for key vs) = sym q ∙ (rw (z, place_among) at e) in cc, unassigned-rank key vs z, refl)

-- what the search reads: the keys of the variables are the tokens of the column of keys
key-map : (ts : List Token) (starts ends ks : List ℕ) (i : ℕ) → i < length ks → key_at (map (variable_at ts starts ends) ks) i ≡ token_at ts (get_or ks i 0)
unfolding key_at
key-map ts starts ends [] i h = absurd (omega arith)
key-map ts starts ends (k ∷ ks) zero h = refl
key-map ts starts ends (k ∷ ks) (suc i) h = key-map ts starts ends ks i (omega arith)

pub all-at : (P : ℕ → Type 0) (ks : List ℕ) (i : ℕ) → i < length ks → All P ks → P (get_or ks i 0)
all-at P [] i h a = absurd (omega arith)
all-at P (k ∷ ks) zero h a = a.0
all-at P (k ∷ ks) (suc i) h a = all-at P ks i (omega arith) a.1

-- a Text has its text in the pool
pub text-pooled : (t : Token) → is_a text_kind t ≡ true → pool_text t ≡ t.text
unfolding is_a pooled pick
text-pooled t e = let k = eqb-true t.kind 1 e in rw k

-- the search
module _ (ts : List Token) (keys : List ℕ) (S : Searchable ts keys) where
  pub names_length : length (named ts keys) ≡ length keys
  unfolding named
  names_length = length-map keys _

  -- the i-th name as it is read
  name-read : (i : ℕ) → i < length keys → pool_text (token_at ts (get_or keys i 0)) ≡ (key_at (named ts keys) i).text
  unfolding named
  name-read i q =
      let x = all-at (λ (k : ℕ). is_a text_kind (token_at ts k) ≡ true) keys i q S.texts in
      text-pooled (token_at ts (get_or keys i 0)) x ∙ sym (ap (λ (t : Token). t.text) (key-map ts [] [] keys i q))

  -- by how it compares
  module _ (i : ℕ) (name : List ℕ) (h : i < length keys) (o k : Ordering) (e : o ≡ order_of (pool_text (token_at ts (get_or keys i 0))) name) (m : o ≡ k) where
    reads-before : is_lt k ≡ is_before (named ts keys) name i
    reads-before = ap is_lt (sym m) ∙ less_before _ _ o e ∙ ap (λ (t : List ℕ). before t name) (name-read i h)

    reads-same : is_eq k ≡ is_same (named ts keys) name i
    reads-same = ap is_eq (sym m) ∙ equal_same _ _ o e ∙ ap (λ (t : List ℕ). same t name) (name-read i h)

  -- what a search for the name found
  module _ (name : List ℕ) (p : ℕ) (q : p ≡ place_for name (named ts keys)) where
    found : p < length keys → is_same (named ts keys) name p ≡ true → (p ≡ rank_of name (named ts keys)) × (assigned name (named ts keys) ≡ true)
    found h z = let l = names_length in let x = place_found name (named ts keys) S.sorted (omega arith) (rw q at z) in (q ∙ x.0, x.1)

    none : (p < length keys → is_same (named ts keys) name p ≡ false) → assigned name (named ts keys) ≡ false
    none h = let l = names_length in place_none name (named ts keys) S.sorted (λ a. ap (is_same (named ts keys) name) (sym q) ∙ h (omega arith))

  pub search-start : (name : List ℕ) → Searching (named ts keys) (length keys) name 0 (length keys)
  search-start name = record { bracket = bracket-start (is_before (named ts keys) name) (length keys); not_there = λ h. absurd (omega arith) }

  module _ (name : List ℕ) (low high : ℕ) (B : Searching (named ts keys) (length keys) name low high) where
    pub search-end : high ≤ low → Err low ≡ place_among (named ts keys) name
    unfolding place_among pick
    search-end h =
        let e : low ≡ high = omega (arith, B.bracket.lo_le) in
        let p = bracket-end (named ts keys) name (length keys) low high names_length h B.bracket in
        rw (none name low p (λ l. ap (is_same (named ts keys) name) e ∙ B.not_there (omega arith))) (ap Err p)

    -- by how the name in the middle compares
    module _ (d : low < high) (o : Ordering) (e : o ≡ order_of (pool_text (token_at ts (get_or keys (low + (high - low) / 2) 0))) name) where
      abbrev m : ℕ
      m = low + (high - low) / 2

      p : low ≤ m
      p = omega arith

      h : m < high
      h = omega arith

      in_table : m < length keys
      in_table = let g = h in omega (arith, B.bracket.hi_le)

      pub search-up : o ≡ Less → Searching (named ts keys) (length keys) name (low + (high - low) / 2 + 1) high
      search-up q =
          record {
            bracket = go-up (named ts keys) name (length keys) low high names_length S.sorted B.bracket m p h (sym (reads-before m name in_table o Less e q));
            not_there = B.not_there;
          }

      pub search-down : o ≡ Greater → Searching (named ts keys) (length keys) name low (low + (high - low) / 2)
      search-down q =
          record {
            bracket = go-down (named ts keys) name (length keys) low high names_length S.sorted B.bracket m p h (sym (reads-before m name in_table o Greater e q));
            not_there = λ l. sym (reads-same m name in_table o Greater e q);
          }

      pub search-found : o ≡ Equal → Ok (low + (high - low) / 2) ≡ place_among (named ts keys) name
      unfolding place_among pick
      search-found q =
          let vs = named ts keys in
          let l = names_length in
          let b = go-down vs name (length keys) low high names_length S.sorted B.bracket m p h (sym (reads-before m name in_table o Equal e q)) in
          let z : is_same vs name m ≡ true = sym (reads-same m name in_table o Equal e q) in
          let k : (key_at vs m).text ≡ name = same-eq (key_at vs m).text name z in
          let r : m ≡ place_for name vs = place-between vs name m (omega (arith, in_table)) (λ i f. is-before (rw k at (pair vs S.sorted i m f (omega (arith, in_table))))) (λ i f g. b.above i f (omega arith)) in
          let x = found name m r in_table z in
          rw x.1 (ap Ok x.0)
