-- Laws of the record at the front, and of the list of records. Assumes nothing.
use Prim.Native.Nat.{ℕ, zero, suc, ◌+◌, ◌*◌, ◌-◌, ◌<◌, ◌≤◌}
use mathlib.Core.Path.{◌≡◌, refl, ap, sym, ◌∙◌}
use mathlib.Core.List.{List, [], ◌∷◌}
use mathlib.Core.Bool.{Bool, true, false, ◌&&◌}
use mathlib.Core.Option.{Option, none, some}
use native.Mathlib.Omega.{arith}
use lib.Dec.{leb}
use lib.ListN.{length, get_or, take, drop, length-drop}
use lib.Seq.{drop-drop, length-take-le}
use borrow.Author.Tests.{le-leb, lt-leb}
use Rattle.std.proofs.lemmas.List.{take_rest}
use Rattle.rules.specs.Bytes.{from_little}
use Rattle.rules.specs.Variables.{limit}
use Rattle.rules.specs.Listing.{Front, front}
use Rattle.walker.specs.Records.{Told, records_within, records_of}
use Rattle.rules.proofs.FormLaws.{front_cut}

-- the numbers of a head, as from_le_bytes reads them
pub size_in : (bs : List ℕ) → 6 ≤ length bs → from_little (take 4 bs) ≡ get_or bs 0 0 + get_or bs 1 0 * 256 + get_or bs 2 0 * 65536 + get_or bs 3 0 * 16777216
unfolding from_little
size_in (a ∷ b ∷ c ∷ d ∷ bs) h = omega arith
size_in [] h = absurd (omega arith)
size_in (a ∷ []) h = absurd (omega arith)
size_in (a ∷ b ∷ []) h = absurd (omega arith)
size_in (a ∷ b ∷ c ∷ []) h = absurd (omega arith)

pub kind_in : (bs : List ℕ) → 6 ≤ length bs → from_little (take 2 (drop 4 bs)) ≡ get_or bs 4 0 + get_or bs 5 0 * 256
unfolding from_little
kind_in (a ∷ b ∷ c ∷ d ∷ e ∷ f ∷ bs) h = omega arith
kind_in [] h = absurd (omega arith)
kind_in (a ∷ []) h = absurd (omega arith)
kind_in (a ∷ b ∷ []) h = absurd (omega arith)
kind_in (a ∷ b ∷ c ∷ []) h = absurd (omega arith)
kind_in (a ∷ b ∷ c ∷ d ∷ []) h = absurd (omega arith)
kind_in (a ∷ b ∷ c ∷ d ∷ e ∷ []) h = absurd (omega arith)

and_right : (a : Bool) → (a && false) ≡ false
and_right true = refl
and_right false = refl

pub front-short : (bs : List ℕ) → length bs < 6 + from_little (take 4 bs) → front bs ≡ none
unfolding front
front-short bs h = rw (lt-leb (6 + from_little (take 4 bs)) (length bs) h, front) refl

pub front-large : (bs : List ℕ) → limit < from_little (take 4 bs) → front bs ≡ none
unfolding front
front-large bs h = rw (lt-leb (from_little (take 4 bs)) limit h, and_right (leb (6 + from_little (take 4 bs)) (length bs)), front) refl

-- a whole record, by what the code read of it
pub front-whole : (bs payload rest : List ℕ) (size kind : ℕ) → 6 ≤ length bs → from_little (take 4 bs) ≡ size → from_little (take 2 (drop 4 bs)) ≡ kind
    → size ≤ length (drop 6 bs) → size ≤ limit → payload ≡ take size (drop 6 bs) → rest ≡ drop size (drop 6 bs)
    → front bs ≡ some (record { kind = kind; payload = payload; rest = rest })
unfolding front
front-whole bs payload rest size kind h s k room small p r =
    rw (s, le-leb (6 + size) (length bs) (omega (arith, length-drop 6 bs)), le-leb size limit small, front) (rw (s, k, p, r, drop-drop size 6 bs) refl)

-- the record at the front, by the tests before it, for an attribute
pub ruleset fronts = (size_in, front-short, front-large, take_rest, length-drop)

-- a whole record and what comes after it are all the bytes
pub whole-length : (bs : List ℕ) (r : Front) → front bs ≡ some r → 6 + length r.payload + length r.rest ≡ length bs
whole-length bs r e =
    let x = front_cut bs r e in
    let n = from_little (take 4 bs) in
    let y : length (drop (6 + n) bs) ≡ length r.rest = ap (λ (f : Front). length f.rest) x.2 in
    let z : length (take n (drop 6 bs)) ≡ length r.payload = ap (λ (f : Front). length f.payload) x.2 in
    omega (arith, x.0, y, z, length-drop (6 + n) bs, length-drop 6 bs, length-take-le n (drop 6 bs) (omega (arith, x.0, length-drop 6 bs)))

pub front-shorter : (bs : List ℕ) (r : Front) → front bs ≡ some r → length r.rest + 6 ≤ length bs
front-shorter bs r e = omega (arith, whole-length bs r e)

within_none : (fuel : ℕ) (bs : List ℕ) → front bs ≡ none → records_within fuel bs ≡ []
unfolding records_within
within_none zero bs e = refl
within_none (suc fuel) bs e = rw (e, records_within) refl

abbrev pub told : Front → Told
told r = record { kind = r.kind; payload = r.payload }

within-some : (fuel : ℕ) (bs : List ℕ) (r : Front) → front bs ≡ some r → records_within (suc fuel) bs ≡ told r ∷ records_within fuel r.rest
unfolding records_within
within-some fuel bs r e = rw (e, records_within) refl

-- enough fuel is enough
within_same : (f g : ℕ) (bs : List ℕ) → length bs ≤ f → length bs ≤ g → records_within f bs ≡ records_within g bs
within_same zero g bs p q = let e = front-short bs (omega arith) in within_none zero bs e ∙ sym (within_none g bs e)
within_same (suc f) zero bs p q = let e = front-short bs (omega arith) in within_none (suc f) bs e ∙ sym (within_none zero bs e)
within_same (suc f) (suc g) bs p q = go (front bs) refl (λ v a b. within_same f g v a b)
  where
    go : (x : Option Front) → front bs ≡ x → ((v : List ℕ) → length v ≤ f → length v ≤ g → records_within f v ≡ records_within g v)
        → records_within (suc f) bs ≡ records_within (suc g) bs
    go none e ih = within_none (suc f) bs e ∙ sym (within_none (suc g) bs e)
    go (some r) e ih =
        let l = front-shorter bs r e in
        within-some f bs r e ∙ ap (λ (x : List Told). told r ∷ x) (ih r.rest (omega (arith, l)) (omega (arith, l))) ∙ sym (within-some g bs r e)

-- the list by its front
pub records-none : (bs : List ℕ) → front bs ≡ none → records_of bs ≡ []
unfolding records_of
records-none bs e = within_none (length bs) bs e

pub records-some : (bs : List ℕ) (r : Front) → front bs ≡ some r → records_of bs ≡ told r ∷ records_of r.rest
unfolding records_of
records-some bs r e =
    let l = front-shorter bs r e in
    let n : length bs ≡ suc (length bs - 1) = omega (arith, l) in
    ap (λ (k : ℕ). records_within k bs) n ∙ within-some (length bs - 1) bs r e ∙ ap (λ (x : List Told). told r ∷ x) (within_same (length bs - 1) (length r.rest) r.rest (omega (arith, l)) (omega arith))

-- an end, for an attribute
pub ruleset lists = (records-none)
