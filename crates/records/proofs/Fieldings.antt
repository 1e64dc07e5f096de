-- Laws of a field's records, of how long records can be, and of the loop over the fields. Assumes nothing.
use Prim.Native.Nat.{ℕ, zero, suc, ◌+◌, ◌*◌, ◌-◌, ◌<◌, ◌≤◌}
use mathlib.Core.Path.{◌≡◌, refl, sym, ◌∙◌, ap, subst}
use mathlib.Core.Bool.{Bool, true, false}
use mathlib.Core.List.{List, [], ◌∷◌, ◌++◌, append_assoc, append-nil}
use native.Mathlib.Omega.{arith}
use lib.ListN.{length, get_or, take, drop, replicate, length-append, length-replicate, length-take, length-drop}
use lib.Seq.{take-take, drop-drop, take_at, drop_at}
use borrow.Author.Tests.{leb-true, leb-false, le-leb, lt-leb}
use Rattle.rules.specs.Bytes.{to_little, pick}
use Rattle.rules.specs.Lines.{is_string}
use Rattle.rules.specs.Records.{record_bytes, argument_records, records_of, records}
use Rattle.fields.specs.declared.Field.{Field}
use Rattle.fields.specs.declared.Field.TheVariants.{Name, Description, Url, Version, Requires, RequiresPrivate, Conflicts, Cflags, Libs, LibsPrivate}
use Rattle.fields.specs.Numbers.{number_of}
use Rattle.scan.specs.Stores.{puts}
use Rattle.scan.proofs.Littles.{length-little}
use Rattle.workspace.specs.Map.{Room, rules_in}
use Rattle.tokens.proofs.TokenLaws.{length-decode}
use Rattle.workspace.proofs.Frames.{column-low, decode-low}
use Rattle.workspace.proofs.Links.{keys_length}
use Rattle.writer.specs.Tables.{Tables, tables_in, value_between}
use Rattle.writer.specs.Writing.{Remembered, Written}
use Rattle.writer.proofs.Places.{scratch-fits}
use Rattle.writer.proofs.Uses.{fresh, none_written, and_then}
use Rattle.records.specs.Contents.{fields_of, values_from, content_at, present_at, presents, Valued, Listed, Entered, Fielded}
use Rattle.records.specs.Recording.{list_bytes, entry_bytes, Standing, Fieldable, Presentable, Recorded}
use Rattle.records.proofs.Lists.{record-long, value-small, stands-after, stands-first}

values-long : (t : Tables) (i m : ℕ) → length (values_from t i m) ≡ m
unfolding values_from
values-long t i zero = refl
values-long t i (suc m) = ap suc (values-long t (suc i) m)

-- the fields in the order of their numbers
pub numbered : (d : Field) (i : ℕ) → i < 10
    → number_of (get_or (Name ∷ Description ∷ Url ∷ Version ∷ Requires ∷ RequiresPrivate ∷ Conflicts ∷ Cflags ∷ Libs ∷ LibsPrivate ∷ []) i d) ≡ i + 1
numbered d zero h = refl
numbered d (suc zero) h = refl
numbered d (suc (suc zero)) h = refl
numbered d (suc (suc (suc zero))) h = refl
numbered d (suc (suc (suc (suc zero)))) h = refl
numbered d (suc (suc (suc (suc (suc zero))))) h = refl
numbered d (suc (suc (suc (suc (suc (suc zero)))))) h = refl
numbered d (suc (suc (suc (suc (suc (suc (suc zero))))))) h = refl
numbered d (suc (suc (suc (suc (suc (suc (suc (suc zero)))))))) h = refl
numbered d (suc (suc (suc (suc (suc (suc (suc (suc (suc zero))))))))) h = refl
numbered d (suc (suc (suc (suc (suc (suc (suc (suc (suc (suc i)))))))))) h = absurd (omega arith)

string_bytes : (t : Tables) (f k : ℕ) → is_string f ≡ true → entry_bytes t f (suc k) ≡ record_bytes f (value_between t (get_or t.starts k 0) (get_or t.ends k 0))
unfolding entry_bytes records_of content_at pick
string_bytes t f k h = rw h refl

list-bytes : (t : Tables) (f k : ℕ) → is_string f ≡ false → entry_bytes t f (suc k) ≡ list_bytes t f (get_or t.starts k 0) (get_or t.ends k 0)
unfolding entry_bytes records_of content_at pick
list-bytes t f k h = rw (h, records_of, values-long t (get_or t.starts k 0) (get_or t.ends k 0)) refl

pub string-number : (f : ℕ) → is_string f ≡ true → f ≤ 7
unfolding is_string
string-number f q = leb-true f 7 q

pub list-number : (f : ℕ) → is_string f ≡ false → 7 < f
unfolding is_string
list-number f q = leb-false f 7 q

-- one field, by its entry
pub absent : {t : Tables} {places out : List ℕ} {at entry : ℕ} (f : ℕ) → Remembered t places out at → entry ≡ 0 → Written t places out at (entry_bytes t f entry) places out at
unfolding entry_bytes
absent {t} {places} {out} {at} f r z = rw z (none_written {t = t} {places = places} {out = out} {at = at} r)

-- a field that is there, and the two numbers that its row gives: from which token up to which, or from which row how many
module _ {t : Tables} {places stack out : List ℕ} {at f entry : ℕ} (s : Standing t places stack out at (entry_bytes t f entry) × Entered (length t.tokens) t f entry)
    (key from to : ℕ) (ke : key + 1 ≡ entry) (fe : from ≡ get_or t.starts key 0) (te : to ≡ get_or t.ends key 0)
    (kind : ℕ) (ne : kind ≡ f) where
  is_entry : entry ≡ suc key
  is_entry = omega arith

  module _ (h : kind < 8) where
    a-string : is_string f ≡ true
    unfolding is_string
    a-string = le-leb f 7 (omega arith)

    pub is-string : entry_bytes t f entry ≡ record_bytes kind (value_between t from to)
    is-string = rw (is_entry, string_bytes t f key a-string, fe, te, ne) refl

    pub string-fits : Standing t places stack out at (record_bytes kind (value_between t from to)) × Valued (length t.tokens) t from to
    string-fits = (subst (λ (x : List ℕ). Standing t places stack out at x) is-string s.0, rw (fe, te) (s.1.strings key (omega arith) is_entry))

  module _ (h : 8 ≤ kind) where
    a-list : is_string f ≡ false
    unfolding is_string
    a-list = lt-leb f 7 (omega arith)

    pub is-list : entry_bytes t f entry ≡ list_bytes t kind from to
    is-list = rw (is_entry, list-bytes t f key a-list, fe, te, ne) refl

    pub list-fits : Standing t places stack out at (list_bytes t kind from to) × Listed (length t.tokens) t from to
    list-fits = (subst (λ (x : List ℕ). Standing t places stack out at x) is-list s.0, rw (fe, te) (s.1.lists key (omega arith) is_entry))

-- the records of a field, and those of the later ones
pub records-front : (t : Tables) (entries : List ℕ) (f m : ℕ) → records (presents t entries f (suc m)) ≡ entry_bytes t f (get_or entries f 0) ++ records (presents t entries (suc f) m)
unfolding presents present_at records entry_bytes
records-front t entries f m = go (get_or entries f 0)
  where
    go : (k : ℕ) → records (present_at t f k (presents t entries (suc f) m)) ≡ entry_bytes t f k ++ records (presents t entries (suc f) m)
    go zero = refl
    go (suc k) = refl

-- how long they can be
module _ {count : ℕ} {t : Tables} where
  arguments-small : (m i : ℕ) → ((k : ℕ) → i ≤ k → k < i + m → Valued count t (get_or t.starts k 0) (get_or t.ends k 0)) → length (argument_records (values_from t i m)) ≤ m * 67108870
  unfolding argument_records values_from
  arguments-small zero i x = omega arith
  arguments-small (suc m) i x =
      let bs : List ℕ = value_between t (get_or t.starts i 0) (get_or t.ends i 0) in
      omega (
        arith,
        length-append (record_bytes 11 bs) (argument_records (values_from t (suc i) m)),
        record-long 11 bs,
        value-small (x i (omega arith) (omega arith)),
        arguments-small m (suc i) (λ k a b. x k (omega arith) (omega arith)),
      )

  entry-small : (entries : List ℕ) (f m k : ℕ) → Fielded count t entries f (suc m) → get_or entries f 0 ≡ k → length (entry_bytes t f k) ≤ 4500000000000
  unfolding entry_bytes
  entry-small entries f m zero x e = omega arith
  entry-small entries f m (suc k) x e = go (is_string f) refl
    where
      go : (b : Bool) → is_string f ≡ b → length (entry_bytes t f (suc k)) ≤ 4500000000000
      go true q =
          let h = string-number f q in
          rw (string_bytes t f k q) (omega (arith, record-long f (value_between t (get_or t.starts k 0) (get_or t.ends k 0)), value-small (x.strings f k (omega arith) (omega arith) h e)))
      go false q =
          let h = list-number f q in
          let y = x.lists f k (omega arith) (omega arith) h e in
          let a = arguments-small (get_or t.ends k 0) (get_or t.starts k 0) y.each in
          rw (list-bytes t f k q)
          (omega (
            arith,
            length-append (record_bytes f (to_little 4 (get_or t.ends k 0))) (argument_records (values_from t (get_or t.starts k 0) (get_or t.ends k 0))),
            record-long f (to_little 4 (get_or t.ends k 0)),
            length-little 4 (get_or t.ends k 0),
            y.few,
          ))

  pub records-small : (entries : List ℕ) (m f : ℕ) → Fielded count t entries f m → length (records (presents t entries f m)) ≤ m * 4500000000000
  unfolding presents records
  records-small entries zero f x = omega arith
  records-small entries (suc m) f x =
      let y : Fielded count t entries (suc f) m
      = record { strings = λ g k a b. x.strings g k (omega arith) (omega arith); lists = λ g k a b. x.lists g k (omega arith) (omega arith) } in
      omega (
        arith,
        ap length (records-front t entries f m),
        length-append (entry_bytes t f (get_or entries f 0)) (records (presents t entries (suc f) m)),
        entry-small entries f m (get_or entries f 0) x refl,
        records-small entries m (suc f) y,
      )

-- the fields from the f-th on are left
pub record Fielding (t : Tables) (entries places₀ stack₀ out₀ : List ℕ) (at₀ : ℕ) (places stack out : List ℕ) (p f : ℕ) : Type 0 where
  pub standing : Standing t places₀ stack₀ out₀ at₀ (records (presents t entries 1 10))
  pub fielded : Fielded (length t.tokens) t entries 1 10
  pub known : 11 ≤ length entries
  pub places_long : length places ≡ length places₀
  pub stack_long : length stack ≡ length stack₀
  pub past : List ℕ
  pub written : Written t places₀ out₀ at₀ past places out p
  pub rest : records (presents t entries 1 10) ≡ past ++ records (presents t entries f (11 - f))
  pub low : 1 ≤ f
  pub within : f ≤ 11

-- once no place is remembered
module _ (n count v : ℕ) (front pool : List ℕ) (small : n ≤ 65535) (tokens : count ≤ n) (few : 3 * v ≤ count + 1) {entries places stack out : List ℕ}
    (x : Presentable n v (tables_in n count v front pool) front entries places stack out) where
  tokens-long : length (tables_in n count v front pool).tokens ≡ count
  tokens-long = length-decode count front pool

  keys-long : length (tables_in n count v front pool).keys ≡ v
  keys-long = keys_length n count v front pool (omega (arith, x.long))

  pub present-fits : (t : Tables) → t ≡ tables_in n count v front pool → (places₁ : List ℕ) → places₁ ≡ replicate (length places) 0
      → Standing t places₁ stack out 0 (records (presents t entries 1 10))
      × Fielded (length t.tokens) t entries 1 10 × (11 ≤ length entries)
  present-fits t te places₁ e =
      let m : length places₁ ≡ length places = rw e (length-replicate {A = ℕ} (length places) 0) in
      rw te (
        record {
          room = record {
            tokens = omega (arith, tokens-long);
            names = omega (arith, keys-long);
            for_places = omega (arith, keys-long, x.for_places);
            for_frames = omega (arith, keys-long, x.for_frames);
          };
          ready = x.ready;
          remembered = rw e (fresh (tables_in n count v front pool) out 0 (length places) (omega (arith, keys-long, x.for_places)));
          fits = omega (arith, x.fits);
          small = omega (arith, records-small entries 10 1 x.fielded);
        },
        x.fielded,
        x.known,
      )

pub fields-begin : {t : Tables} {entries places stack out : List ℕ} {at : ℕ}
    → Standing t places stack out at (records (presents t entries 1 10)) × Fielded (length t.tokens) t entries 1 10 × (11 ≤ length entries) → Fielding t entries places stack out at places stack out at 1
fields-begin {t} {entries} {places} {stack} {out} {at} x =
    record {
      standing = x.0;
      fielded = x.1;
      known = x.2;
      places_long = refl;
      stack_long = refl;
      past = [];
      written = none_written {t = t} {places = places} {out = out} {at = at} x.0.remembered;
      rest = refl;
      low = omega arith;
      within = omega arith;
    }

module _ {t : Tables} {entries places₀ stack₀ out₀ : List ℕ} {at₀ : ℕ} {places stack out : List ℕ} {p f : ℕ} (L : Fielding t entries places₀ stack₀ out₀ at₀ places stack out p f) where
  pub fields-done : 10 < f → Written t places₀ out₀ at₀ (records (presents t entries 1 10)) places out p
  unfolding presents records
  fields-done h =
      let z : 11 - f ≡ 0 = omega arith in
      let e : records (presents t entries 1 10) ≡ L.past = L.rest ∙ rw z (append-nil L.past) in
      subst (λ (bs : List ℕ). Written t places₀ out₀ at₀ bs places out p) (sym e) L.written

  module _ (h : f ≤ 10) (number : ℕ) (ne : number ≡ f) (entry : ℕ) (ee : entry ≡ get_or entries number 0) where
    rest-is : records (presents t entries f (11 - f)) ≡ entry_bytes t number entry ++ records (presents t entries (f + 1) (11 - (f + 1)))
    rest-is =
        let z : 11 - f ≡ suc (11 - (f + 1)) = omega arith in
        let y : suc f ≡ f + 1 = omega arith in
        rw (z, records-front t entries f (11 - (f + 1)), y, ee, ne) refl

    pub field_fits : Standing t places stack out p (entry_bytes t number entry) × Entered (length t.tokens) t number entry
    field_fits = (
      stands-first _ (subst (λ (bs : List ℕ). Standing t places stack out p bs) rest-is
          (stands-after (subst (λ (bs : List ℕ). Standing t places₀ stack₀ out₀ at₀ bs) L.rest L.standing) L.places_long L.stack_long L.written)),
      record {
        strings = λ k b e. L.fielded.strings number k (omega (arith, L.low)) (omega arith) b (sym ee ∙ e);
        lists = λ k b e. L.fielded.lists number k (omega (arith, L.low)) (omega arith) b (sym ee ∙ e);
      },
    )

    pub field_next : {places' stack' out' : List ℕ} {p' : ℕ} → length places' ≡ length places → length stack' ≡ length stack
        → Written t places out p (entry_bytes t number entry) places' out' p' → Fielding t entries places₀ stack₀ out₀ at₀ places' stack' out' p' (f + 1)
    field_next k s w =
        record {
          standing = L.standing;
          fielded = L.fielded;
          known = L.known;
          places_long = k ∙ L.places_long;
          stack_long = s ∙ L.stack_long;
          past = L.past ++ entry_bytes t number entry;
          written = and_then L.written w;
          rest = L.rest ∙ ap (λ (x : List ℕ). L.past ++ x) rest-is ∙ sym (append_assoc L.past _ _);
          low = omega (arith, L.low);
          within = omega arith;
        }

-- THE SPLIT: the tables are those of the workspace's first 9n entries, and all but the scratch stays
module _ (n count v : ℕ) (ws pool : List ℕ) (r : Room n count v ws) where
  pub tables-front : tables_in n count v (take (9 * n) ws) pool ≡ tables_in n count v ws pool
  unfolding rules_in
  tables-front =
      let a : take (9 * n) (take (9 * n) ws) ≡ take (9 * n) ws = take-take (9 * n) (9 * n) ws (omega arith) in
      let d = decode-low (9 * n) ws (take (9 * n) ws) a count pool (omega (arith, r.tokens)) in
      let k4 = column-low (9 * n) ws (take (9 * n) ws) a v (4 * n) (omega (arith, r.tokens, r.few)) in
      let k5 = column-low (9 * n) ws (take (9 * n) ws) a n (5 * n) (omega arith) in
      let k6 = column-low (9 * n) ws (take (9 * n) ws) a n (6 * n) (omega arith) in
      let k7 = column-low (9 * n) ws (take (9 * n) ws) a n (7 * n) (omega arith) in
      let k8 = column-low (9 * n) ws (take (9 * n) ws) a v (8 * n) (omega (arith, r.tokens, r.few)) in
      rw (d, k4, k5, k6, k7, k8)

  module _ (out : List ℕ) (x : Fieldable n count v (tables_in n count v ws pool) (fields_of n ws) ws out)
      (front rest scratch fields places stack : List ℕ) (fe : front ≡ take (9 * n) ws) (re : rest ≡ drop (9 * n) ws) (se : scratch ≡ take (3 * n) rest) (de : fields ≡ drop (3 * n) rest)
      (pe : places ≡ take (2 * v) scratch) (ke : stack ≡ drop (2 * v) scratch) where
    tables-are : tables_in n count v front pool ≡ tables_in n count v ws pool
    tables-are = ap (λ (l : List ℕ). tables_in n count v l pool) fe ∙ tables-front

    fields-are : take 11 fields ≡ fields_of n ws
    fields-are =
        let z : 9 * n + 3 * n ≡ 12 * n = omega arith in
        rw (de, re, drop-drop (3 * n) (9 * n) ws, z) refl

    front-long : length front ≡ 9 * n
    front-long = rw fe (omega (arith, length-take (9 * n) ws, r.room))

    scratch-long : length scratch ≡ 3 * n
    scratch-long = rw (se, re) (omega (arith, length-take (3 * n) (drop (9 * n) ws), length-drop (9 * n) ws, r.room))

    pub presentable : Presentable n v (tables_in n count v front pool) front (take 11 fields) places stack out
    presentable =
        let tokens : length (tables_in n count v ws pool).tokens ≡ count = length-decode count ws pool in
        let keys : length (tables_in n count v ws pool).keys ≡ v = keys_length n count v ws pool (omega (arith, r.room, r.few, r.tokens)) in
        rw (tables-are, fields-are)
        (record {
          long = front-long;
          ready = rw (tokens, keys) x.ready;
          fielded = rw tokens x.fielded;
          known = omega (arith, length-take 11 (drop (12 * n) ws), length-drop (12 * n) ws, r.room);
          for_places = rw pe (omega (arith, length-take (2 * v) scratch, scratch-long, scratch-fits r));
          for_frames = rw ke (omega (arith, length-drop (2 * v) scratch, scratch-long, scratch-fits r));
          fits = x.fits;
        })

    -- the scratch may end as it will
    pub presented : (places' stack' out' : List ℕ) (end : ℕ) → length places' ≡ length places → length stack' ≡ length stack → end ≡ length (records (presents (tables_in n count v front pool) (take 11 fields) 1 10))
        → out' ≡ puts out 0 (records (presents (tables_in n count v front pool) (take 11 fields) 1 10))
        → Recorded n ws out (records (presents (tables_in n count v ws pool) (fields_of n ws) 1 10)) (front ++ ((places' ++ stack') ++ fields)) out' end
    presented places' stack' out' end p q ee oe =
        let scratch' : List ℕ = places' ++ stack' in
        let j : length places + length stack ≡ length scratch = rw (pe, ke) (omega (arith, length-take (2 * v) scratch, length-drop (2 * v) scratch)) in
        let l : length scratch' ≡ length scratch = omega (arith, length-append places' stack') in
        let k : length fields ≡ length ws - 12 * n = rw (de, re) (omega (arith, length-drop (3 * n) (drop (9 * n) ws), length-drop (9 * n) ws)) in
        record {
          is_end = rw (tables-are, fields-are) at ee;
          bytes = rw (tables-are, fields-are) at oe;
          apart = record {
            long = omega (arith, length-append front (scratch' ++ fields), length-append scratch' fields, front-long, scratch-long, r.room);
            before = rw (take_at front (scratch' ++ fields) (9 * n) front-long) fe;
            past =
                (let z : 9 * n + 3 * n ≡ 12 * n = omega arith in
                rw (← append_assoc front scratch' fields, drop_at (front ++ scratch') fields (12 * n) (omega (arith, length-append front scratch', front-long, scratch-long)), de, re, drop-drop (3 * n) (9 * n) ws, z) refl);
          };
        }
