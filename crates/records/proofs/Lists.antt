-- Laws of records, and of the loop over arguments. Assumes nothing.
use Prim.Native.Nat.{ℕ, suc, ◌+◌, ◌-◌, ◌/◌, ◌<◌, ◌≤◌}
use mathlib.Core.Path.{◌≡◌, refl, sym, ◌∙◌, ap, subst}
use mathlib.Core.List.{List, ◌++◌, append_assoc, append-nil}
use native.Mathlib.Omega.{arith}
use lib.ListN.{length, get_or, length-append}
use Rattle.std.specs.Int.{w16, w32, to_le_bytes}
use Rattle.rules.specs.Bytes.{to_little}
use Rattle.rules.specs.Variables.{limit, Expansion}
use Rattle.rules.proofs.ExpandLaws.{View, view}
use Rattle.rules.specs.Records.{record_bytes, argument_records}
use Rattle.scan.specs.Stores.{puts}
use Rattle.scan.proofs.Stores.{length-puts, puts-puts}
use Rattle.scan.proofs.Littles.{length-little}
use Rattle.writer.specs.Tables.{Tables, pieces, value_between}
use Rattle.writer.specs.Writing.{Writable, Written}
use Rattle.writer.proofs.Runs.{held_more}
use Rattle.writer.proofs.Uses.{bytes-written, and_then, before-written, expanded}
use Rattle.records.specs.Contents.{values_from, Valued, Listed}
use Rattle.records.specs.Recording.{head, list_bytes, Standing}

-- numbers by std's bytes
pub four_bytes : (n : ℕ) → to_le_bytes w32 n ≡ to_little 4 n
unfolding to_little
four_bytes n =
    let second : n / 256 / 256 ≡ n / 65536 = omega arith in
    let third : n / 256 / 256 / 256 ≡ n / 16777216 = omega arith in
    rw (third, second) refl

two_bytes : (n : ℕ) → to_le_bytes w16 n ≡ to_little 2 n
unfolding to_little
two_bytes n = refl

pub headed : (out out₁ out₂ : List ℕ) (at size kind : ℕ) (s k : List ℕ) → s ≡ to_le_bytes w32 size → k ≡ to_le_bytes w16 kind → out₁ ≡ puts out at s → out₂ ≡ puts out₁ (at + 4) k
    → out₂ ≡ puts out at (head size kind)
unfolding to_little
headed out out₁ out₂ at size kind s k se ke e q =
    let s' : s ≡ to_little 4 size = se ∙ four_bytes size in
    let k' : k ≡ to_little 2 kind = ke ∙ two_bytes kind in
    let z : length (to_little 4 size) ≡ 4 = length-little 4 size in
    rw (q, e, s', k', ← z) (puts-puts out at (to_little 4 size) (to_little 2 kind))

head-long : (size kind : ℕ) → length (head size kind) ≡ 6
head-long size kind = omega (arith, length-append (to_little 4 size) (to_little 2 kind), length-little 4 size, length-little 2 kind)

pub record-long : (kind : ℕ) (bs : List ℕ) → length (record_bytes kind bs) ≡ 6 + length bs
unfolding record_bytes
record-long kind bs = length-append (head (length bs) kind) bs ∙ ap (λ (m : ℕ). m + length bs) (head-long (length bs) kind)

-- how long a value can be
pub value-small : {count : ℕ} {t : Tables} {from to : ℕ} → Valued count t from to → length (value_between t from to) ≤ 67108864
unfolding limit
value-small {t = t} {from} {to} x =
    let w : View t.values (pieces t from to) (Expansion.value (value_between t from to)) = rw x.expands at (view t.values (pieces t from to)) in
    omega (arith, w.0, ap length w.2)

-- a value's record: the value, and its head before it
module _ {t : Tables} {places stack out : List ℕ} (at kind from to : ℕ)
    (s : Standing t places stack out at (record_bytes kind (value_between t from to)) × Valued (length t.tokens) t from to) where
  pub head-fits : at + 6 ≤ length out
  head-fits = omega (arith, s.0.fits, record-long kind (value_between t from to))

  pub value-fits : Writable t places stack out (at + 6) from to
  value-fits =
      let r = record-long kind (value_between t from to) in
      record {
        room = s.0.room;
        ready = s.0.ready;
        in_table = s.1.in_table;
        known = (expanded s.0.ready refl (pieces t from to) (value_between t from to) s.1.expands).0;
        fits = omega (arith, s.0.fits);
        small = omega (arith, s.0.small);
        remembered = held_more t places out at (at + 6) (omega arith) s.0.remembered;
      }

  module _ {places₁ out₁ : List ℕ} {at₁ : ℕ} (w : Written t places out (at + 6) (value_between t from to) places₁ out₁ at₁) where
    pub head-fits-still : at + 6 ≤ length out₁
    head-fits-still = omega (arith, head-fits, ap length w.bytes ∙ length-puts out (at + 6) (value_between t from to))

    pub size-small : at₁ - (at + 6) < 4294967296
    size-small = omega (arith, w.moved, value-small s.1)

    pub recorded : (size : ℕ) → size ≡ at₁ - (at + 6) → (out₂ : List ℕ) → out₂ ≡ puts out₁ at (head size kind)
        → Written t places out at (record_bytes kind (value_between t from to)) places₁ out₂ at₁
    unfolding record_bytes
    recorded size se out₂ e =
        let l : size ≡ length (value_between t from to) = omega (arith, w.moved) in
        let z = head-long size kind in
        rw e (subst (λ (m : ℕ). Written t places out at (head m kind ++ value_between t from to) places₁ (puts out₁ at (head size kind)) at₁) l
        (before-written {t = t} {places = places} {out = out} {at = at} (head size kind) s.0.remembered (rw z w)))

-- after some records the rest can be written
pub stands-after : {t : Tables} {places stack out : List ℕ} {at : ℕ} {past rest : List ℕ} → Standing t places stack out at (past ++ rest)
    → {places₁ stack₁ out₁ : List ℕ} {at₁ : ℕ} → length places₁ ≡ length places → length stack₁ ≡ length stack → Written t places out at past places₁ out₁ at₁
    → Standing t places₁ stack₁ out₁ at₁ rest
stands-after {out = out} {at} {past} {rest} s p k w =
    let l : length (past ++ rest) ≡ length past + length rest = length-append past rest in
    let o = ap length w.bytes ∙ length-puts out at past in
    record {
      room = record { tokens = s.room.tokens; names = s.room.names; for_places = omega (arith, s.room.for_places); for_frames = omega (arith, s.room.for_frames) };
      ready = s.ready;
      remembered = w.remembered;
      fits = omega (arith, s.fits, w.moved);
      small = omega (arith, s.small, w.moved);
    }

-- and what can be written as a whole can be begun
pub stands-first : {t : Tables} {places stack out : List ℕ} {at : ℕ} {first : List ℕ} (rest : List ℕ) → Standing t places stack out at (first ++ rest) → Standing t places stack out at first
stands-first {first = first} rest s =
    let l : length (first ++ rest) ≡ length first + length rest = length-append first rest in
    record { room = s.room; ready = s.ready; remembered = s.remembered; fits = omega (arith, s.fits); small = omega (arith, s.small) }

-- the arguments from row i on are left
pub record Listing (t : Tables) (places₀ stack₀ out₀ : List ℕ) (at₀ row rows : ℕ) (places stack out : List ℕ) (p i : ℕ) : Type 0 where
  pub standing : Standing t places₀ stack₀ out₀ at₀ (argument_records (values_from t row rows))
  pub listed : Listed (length t.tokens) t row rows
  pub places_long : length places ≡ length places₀
  pub stack_long : length stack ≡ length stack₀
  pub past : List ℕ
  pub written : Written t places₀ out₀ at₀ past places out p
  pub rest : argument_records (values_from t row rows) ≡ past ++ argument_records (values_from t i (row + rows - i))
  pub begun : row ≤ i
  pub within : i ≤ row + rows

module _ {t : Tables} {places₀ stack₀ out₀ : List ℕ} {at₀ row rows : ℕ} {places stack out : List ℕ} {p i : ℕ} (L : Listing t places₀ stack₀ out₀ at₀ row rows places stack out p i) where
  pub list_done : row + rows ≤ i → Written t places₀ out₀ at₀ (argument_records (values_from t row rows)) places out p
  unfolding values_from argument_records
  list_done h =
      let z : row + rows - i ≡ 0 = omega arith in
      let e : argument_records (values_from t row rows) ≡ L.past = L.rest ∙ rw z (append-nil L.past) in
      subst (λ (bs : List ℕ). Written t places₀ out₀ at₀ bs places out p) (sym e) L.written

  module _ (h : i < row + rows) (from to : ℕ) (fe : from ≡ get_or t.starts i 0) (te : to ≡ get_or t.ends i 0) where
    this : List ℕ
    this = record_bytes 11 (value_between t from to)

    rest-is : argument_records (values_from t i (row + rows - i)) ≡ this ++ argument_records (values_from t (i + 1) (row + rows - (i + 1)))
    unfolding argument_records values_from this
    rest-is =
        let z : row + rows - i ≡ suc (row + rows - (i + 1)) = omega arith in
        let y : suc i ≡ i + 1 = omega arith in
        rw (z, values_from, y, fe, te) refl

    pub next_fits : Standing t places stack out p (record_bytes 11 (value_between t from to)) × Valued (length t.tokens) t from to
    unfolding this
    next_fits = (
      stands-first _ (subst (λ (bs : List ℕ). Standing t places stack out p bs) rest-is
          (stands-after (subst (λ (bs : List ℕ). Standing t places₀ stack₀ out₀ at₀ bs) L.rest L.standing) L.places_long L.stack_long L.written)),
      rw (fe, te) (L.listed.each i L.begun h),
    )

    pub next : {places' stack' out' : List ℕ} {p' : ℕ} → length places' ≡ length places → length stack' ≡ length stack
        → Written t places out p (record_bytes 11 (value_between t from to)) places' out' p' → Listing t places₀ stack₀ out₀ at₀ row rows places' stack' out' p' (i + 1)
    unfolding this
    next k s w =
        record {
          standing = L.standing;
          listed = L.listed;
          places_long = k ∙ L.places_long;
          stack_long = s ∙ L.stack_long;
          past = L.past ++ this;
          written = and_then L.written w;
          rest = L.rest ∙ ap (λ (x : List ℕ). L.past ++ x) rest-is ∙ sym (append_assoc L.past _ _);
          begun = omega (arith, L.begun);
          within = omega arith;
        }

-- a list: past its count the arguments can be written
module _ {t : Tables} {places stack out : List ℕ} (at kind row rows : ℕ) (s : Standing t places stack out at (list_bytes t kind row rows) × Listed (length t.tokens) t row rows) where
  list_length : length (list_bytes t kind row rows) ≡ 10 + length (argument_records (values_from t row rows))
  list_length =
      omega
      (arith, length-append (record_bytes kind (to_little 4 rows)) (argument_records (values_from t row rows)), record-long kind (to_little 4 rows), length-little 4 rows)

  pub list-head-fits : at + 10 ≤ length out
  list-head-fits = omega (arith, s.0.fits, list_length)

  pub count_fits : (out₁ : List ℕ) → out₁ ≡ puts out at (head 4 kind) → at + 6 + 4 ≤ length out₁
  count_fits out₁ e = let l : length out₁ ≡ length out = rw e (length-puts out at (head 4 kind)) in omega (arith, list-head-fits)

  module _ (out₁ : List ℕ) (e₁ : out₁ ≡ puts out at (head 4 kind)) (out₂ : List ℕ) (e₂ : out₂ ≡ puts out₁ (at + 6) (to_little 4 rows)) where
    counted : Written t places out at (record_bytes kind (to_little 4 rows)) places out₂ (at + 10)
    unfolding record_bytes
    counted =
        let h = head-long 4 kind in
        let l = length-little 4 rows in
        let a : Written t places out at (head 4 kind) places out₁ (at + 6)
        = rw e₁ (rw h at (bytes-written {t = t} {places = places} {out = out} {at = at} (head 4 kind) s.0.remembered)) in
        let b : Written t places out₁ (at + 6) (to_little 4 rows) places out₂ (at + 6 + 4)
        = rw e₂ (rw l at (bytes-written {t = t} {places = places} {out = out₁} {at = at + 6} (to_little 4 rows) a.remembered)) in
        let z : at + 6 + 4 ≡ at + 10 = omega arith in
        subst (λ (m : ℕ). Written t places out at (head m kind ++ to_little 4 rows) places out₂ (at + 10)) (sym l) (rw z at (and_then a b))

    pub args_fit : Standing t places stack out₂ (at + 10) (argument_records (values_from t row rows)) × Listed (length t.tokens) t row rows
    args_fit = (stands-after s.0 refl refl counted, s.1)

    pub listed : {places₃ out₃ : List ℕ} {at₃ : ℕ} → Written t places out₂ (at + 10) (argument_records (values_from t row rows)) places₃ out₃ at₃
        → Written t places out at (list_bytes t kind row rows) places₃ out₃ at₃
    listed w = and_then counted w
