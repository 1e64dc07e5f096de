-- Laws of the table of assignments: it is in byte order, and a name's place is where it is assigned. Assumes nothing.
use Prim.Native.Nat.{ℕ, zero, suc, ◌<◌}
use mathlib.Core.Path.{◌≡◌, refl, ap, sym, subst}
use mathlib.Core.Bool.{Bool, true, false, ◌||◌}
use mathlib.Core.List.{List, [], ◌∷◌, map}
use mathlib.Core.Option.{Option, none, some}
use native.Mathlib.Decide.{dec_lt}
use native.Mathlib.Omega.{arith}
use lib.ListN.{length, get_or}
use Rattle.rules.specs.Bytes.{same, before}
use Rattle.rules.proofs.BytesLaws.{same-eq, same_refl, false-true, Before, before-is, before_trans, before_irrefl, before_total}
use Rattle.rules.specs.Numbers.{Refusal, Result, refused, ok, ◌>>=◌}
use Rattle.rules.specs.Lines.{Assignment, Field, File, Item, empty, assignment, given, Line, no_lines, assigned, insert, field_at, keep, read_line, read_lines, lines}
use Rattle.rules.specs.Lexing.{tokens}
use Rattle.rules.specs.Variables.{rank_of, look_up, rules_of}
use Rattle.rules.specs.Variables.{key_at}
use Rattle.rules.specs.Reading.{file}
use Rattle.rules.specs.Demand3.{At, here, there}

pub or-false : (a b : Bool) → (a || b) ≡ false → (a ≡ false) × (b ≡ false)
or-false true b e = absurd (false-true e refl)
or-false false b e = (refl, e)

-- each name is before those after it
abbrev pub After : List ℕ → List Assignment → Type 0
After key [] = Unit {0}
After key (v ∷ vs) = Before key v.key.text × After key vs

abbrev pub Sorted : List Assignment → Type 0
Sorted [] = Unit {0}
Sorted (v ∷ vs) = After v.key.text vs × Sorted vs

after_trans : {a b : List ℕ} (vs : List Assignment) → Before a b → After b vs → After a vs
after_trans [] h x = tt
after_trans (v ∷ vs) h x = (before_trans h x.0, after_trans vs h x.1)

insert-after : (key : List ℕ) (v : Assignment) (vs : List Assignment) → Before key v.key.text → After key vs → After key (insert v vs)
unfolding insert
insert-after key v [] h x = (h, tt)
insert-after key v (w ∷ ws) h x = go (before v.key.text w.key.text) refl (insert-after key v ws h x.1)
  where
    go : (b : Bool) → before v.key.text w.key.text ≡ b → After key (insert v ws) → After key (insert v (w ∷ ws))
    go true q ih = rw (q, insert) (h, x)
    go false q ih = rw (q, insert) (x.0, ih)

pub insert-sorted : (v : Assignment) (vs : List Assignment) → Sorted vs → assigned v.key.text vs ≡ false → Sorted (insert v vs)
unfolding insert assigned
insert-sorted v [] s e = (tt, tt)
insert-sorted v (w ∷ ws) s e = go (before v.key.text w.key.text) refl (or-false (same v.key.text w.key.text) (assigned v.key.text ws) e) (λ h. insert-sorted v ws s.1 h)
  where
    go : (b : Bool) → before v.key.text w.key.text ≡ b → (same v.key.text w.key.text ≡ false) × (assigned v.key.text ws ≡ false)
        → (assigned v.key.text ws ≡ false → Sorted (insert v ws)) → Sorted (insert v (w ∷ ws))
    go true q x ih = let h = before-is v.key.text w.key.text q in rw (q, insert) ((h, after_trans ws h s.0), s)
    go false q x ih = rw (q, insert) (insert-after w.key.text v ws (before_total v.key.text w.key.text q x.0) s.0, ih x.1)

-- a step that is not refused
pub bind_ok : {A B : Type 0} (r : Result A) (f : A → Result B) (b : B) → (r >>= f) ≡ ok b → (a : A) × (r ≡ ok a) × (f a ≡ ok b)
unfolding ◌>>=◌
bind_ok (refused r) f b e = let z : ◌≡◌ {A = ℕ} 0 1 = cc in absurd (omega arith)
bind_ok (ok a) f b e = (a, refl, e)

pub ok-one : {A : Type 0} {a b : A} → ok a ≡ ok b → a ≡ b
ok-one e = cc

pub refused-ok : {A : Type 0} {a : A} {x : Refusal} → refused x ≡ ok a → ⊥
refused-ok e = let z : ◌≡◌ {A = ℕ} 0 1 = cc in omega arith

keep-sorted : (f : File) (item : Item) (more : File) → Sorted f.variables → keep f item ≡ ok more → Sorted more.variables
unfolding keep
keep-sorted f empty more s e = rw (ok-one e) at s
keep-sorted f (assignment key ps) more s e = go (assigned key.text f.variables) refl
  where
    go : (b : Bool) → assigned key.text f.variables ≡ b → Sorted more.variables
    go true q = absurd (refused-ok (rw (q, keep) at e))
    go false q = subst (λ (x : File). Sorted x.variables) (ok-one (rw (q, keep) at e)) (insert-sorted (record { key = key; value = ps }) f.variables s q)
keep-sorted f (given n key v) more s e = go (field_at n f.fields) refl
  where
    go : (o : Option Field) → field_at n f.fields ≡ o → Sorted more.variables
    go (some w) q = absurd (refused-ok (rw (q, keep) at e))
    go none q = subst (λ (x : File). Sorted x.variables) (ok-one (rw (q, keep) at e)) s

lines-sorted : (ls : List Line) (f more : File) → Sorted f.variables → read_lines f ls ≡ ok more → Sorted more.variables
unfolding read_lines
lines-sorted [] f more s e = subst (λ (x : File). Sorted x.variables) (ok-one e) s
lines-sorted (l ∷ ls) f more s e =
    let x = bind_ok (read_line l) (λ item. keep f item >>= λ g. read_lines g ls) more e in
    let y = bind_ok (keep f x.0) (λ g. read_lines g ls) more x.2 in
    lines-sorted ls y.0 more (keep-sorted f x.0 y.0 s y.1) y.2

-- the variables of a text whose lines all read are in byte order
pub file-sorted : (text : List ℕ) (f : File) → file text ≡ ok f → Sorted f.variables
unfolding file no_lines
file-sorted text f e =
    let x = bind_ok (tokens text) (λ ts. read_lines no_lines (lines ts)) f e in
    lines-sorted (lines x.0) no_lines f tt x.2

pub at_lt : {vs : List Assignment} {i : ℕ} {a : Assignment} → At vs i a → i < length vs
at_lt here = omega arith
at_lt (there m) = omega (arith, at_lt m)

pub at_of : (vs : List Assignment) (i : ℕ) → i < length vs → (a : Assignment) × At vs i a
at_of [] i h = absurd (omega arith)
at_of (v ∷ vs) zero h = (v, here)
at_of (v ∷ vs) (suc i) h = let x = at_of vs i (omega arith) in (x.0, there x.1)

pub at_name : {vs : List Assignment} {i : ℕ} {a : Assignment} → At vs i a → key_at vs i ≡ a.key
unfolding key_at
at_name here = refl
at_name (there m) = at_name m

pub length-rules : (vs ws : List Assignment) → length (rules_of vs ws) ≡ length ws
unfolding rules_of
length-rules vs [] = refl
length-rules vs (w ∷ ws) = ap suc (length-rules vs ws)

pub at-rule : {ws : List Assignment} {i : ℕ} {a : Assignment} (vs : List Assignment) → At ws i a → get_or (rules_of vs ws) i [] ≡ map (look_up vs) a.value
unfolding rules_of
at-rule vs here = refl
at-rule vs (there m) = at-rule vs m

after-at : {vs : List Assignment} {i : ℕ} {a : Assignment} (key : List ℕ) → After key vs → At vs i a → Before key a.key.text
after-at key x here = x.0
after-at key x (there m) = after-at key x.1 m

pub at_before : {vs : List Assignment} {i j : ℕ} {a b : Assignment} → Sorted vs → At vs i a → At vs j b → i < j → Before a.key.text b.key.text
at_before s here here h = absurd (omega arith)
at_before {a = a} s here (there m) h = after-at a.key.text s.0 m
at_before s (there l) here h = absurd (omega arith)
at_before s (there l) (there m) h = at_before s.1 l m (omega arith)

pub at_one : {vs : List Assignment} {i j : ℕ} {a b : Assignment} → At vs i a → At vs j b → i ≡ j → a ≡ b
at_one here here e = refl
at_one here (there m) e = absurd (omega arith)
at_one (there l) here e = absurd (omega arith)
at_one (there l) (there m) e = at_one l m (omega arith)

pub place-lt : {vs : List Assignment} {i j : ℕ} {a b : Assignment} → Sorted vs → At vs i a → At vs j b → Before a.key.text b.key.text → i < j
place-lt {i = i} {j = j} {a = a} {b = b} s l m h = elim (dec_lt i j) [
  | yes k ↦ k
  | no k ↦ elim (dec_lt j i) [
    | yes k' ↦ absurd (before_irrefl a.key.text (before_trans h (at_before s m l k')))
    | no k' ↦ absurd (before_irrefl b.key.text (rw (at_one l m (omega arith)) at h))
  ]
]

pub place_of : {vs : List Assignment} {i : ℕ} {a : Assignment} → Sorted vs → At vs i a → rank_of a.key.text vs ≡ i
unfolding rank_of
place_of {a = a} s here = rw (same_refl a.key.text, rank_of)
place_of {a = a} s (there {b = b} {vs = vs} {i = i} m) = go (same a.key.text b.key.text) refl (place_of s.1 m)
  where
    go : (t : Bool) → same a.key.text b.key.text ≡ t → rank_of a.key.text vs ≡ i → rank_of a.key.text (b ∷ vs) ≡ suc i
    go true q ih = absurd (before_irrefl b.key.text (rw (same-eq a.key.text b.key.text q) at (after-at b.key.text s.0 m)))
    go false q ih = rw (q, rank_of) (ap suc ih)

pub at_place : (vs : List Assignment) (key : List ℕ) → rank_of key vs < length vs → (a : Assignment) × At vs (rank_of key vs) a × (a.key.text ≡ key)
unfolding rank_of
at_place [] key h = absurd (omega arith)
at_place (v ∷ vs) key h = go (same key v.key.text) refl (λ h'. at_place vs key h')
  where
    go : (t : Bool) → same key v.key.text ≡ t → (rank_of key vs < length vs → (a : Assignment) × At vs (rank_of key vs) a × (a.key.text ≡ key))
        → (a : Assignment) × At (v ∷ vs) (rank_of key (v ∷ vs)) a × (a.key.text ≡ key)
    go true q ih = rw (q, rank_of) (v, here, sym (same-eq key v.key.text q))
    go false q ih = let x = ih (omega (arith, rw (q, rank_of) at h)) in rw (q, rank_of) (x.0, there x.1, x.2)
