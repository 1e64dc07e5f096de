-- The writer's loop: its invariant, and each way that a turn goes. Assumes nothing.
use Prim.Native.Nat.{ℕ, ◌+◌, ◌*◌, ◌-◌, ◌/◌, ◌%◌, ◌<◌, ◌≤◌}
use mathlib.Core.Path.{◌≡◌, refl, sym, ◌∙◌, ap}
use mathlib.Core.Bool.{Bool, true, false}
use mathlib.Core.List.{List, [], ◌∷◌, ◌++◌, append_assoc, append-nil}
use native.Mathlib.Nat.{add-zero, zero-add}
use native.Mathlib.Decide.{dec_lt}
use native.Mathlib.Omega.{arith}
use lib.ListN.{length, get_or, take, drop, length-append}
use Rattle.rules.specs.Variables.{Piece}
use Rattle.scan.specs.Stores.{puts}
use Rattle.scan.proofs.Stores.{puts-puts, length-puts, column-before}
use Rattle.tokens.specs.Entries.{token_at}
use Rattle.writer.specs.declared.stack.Frame.{Frame}
use Rattle.writer.specs.Tables.{Tables, start_of, end_of, pieces, value, joined, value_between}
use Rattle.writer.specs.Writing.{place_in, Stands, Held, Remembered, Referred, Writable, Written}
use Rattle.writer.proofs.Places.{stands_here, place_same, place_other}
use Rattle.writer.proofs.Pieces.{front-dropped, front-text, front-ref, front-none, Refs, refs-tail, refs-all, Sound}
use Rattle.writer.proofs.Turns.{has, owners, frames_left, all_due, turns, turns-whole, has-cases, due-begin, due-end}

-- a value that is copied
pub copied-none : {t : Tables} {places out : List ℕ} {j p : ℕ} → Referred t places j out p → (size : ℕ) → size + 1 ≡ get_or t.lengths j 0 → size ≡ 0
    → (p ≡ p + length (value t j)) × (out ≡ puts out p (value t j))
copied-none {t} {out = out} {j} {p} r size se z =
    let e = empty (value t j) (omega (arith, r.has_length)) in
    (omega (arith, r.has_length), rw e refl)
  where
    empty : (bs : List ℕ) → length bs ≡ 0 → bs ≡ []
    empty [] x = refl
    empty (b ∷ bs) x = absurd (omega arith)

module _ {t : Tables} {places out : List ℕ} {j p : ℕ} (r : Referred t places j out p) (size q : ℕ) (se : size + 1 ≡ get_or t.lengths j 0) (qe : q + 1 ≡ place_in places j) where
  size_is : size ≡ length (value t j)
  size_is = omega (arith, r.has_length)

  is_place : place_in places j - 1 ≡ q
  is_place = omega arith

  pub copy-fits : (q + size ≤ p) × (p + size ≤ length out)
  copy-fits = let x = r.held (omega arith) in (omega (arith, x.inside, size_is), omega (arith, r.fits, size_is))

  pub copied : (out' : List ℕ) → out' ≡ puts out p (take size (drop q out)) → (p + size ≡ p + length (value t j)) × (out' ≡ puts out p (value t j))
  copied out' oe =
      let x = r.held (omega arith) in
      (omega (arith, size_is), rw (oe, size_is) (ap (puts out p) (rw is_place at x.stands)))

-- a frame: the tokens from i up to e are left of a value, with `depth` entries of the stack below it; `busy` are the variables that are being written
pub record Level (v : ℕ) (t : Tables) (num : ℕ → ℕ) (count depth : ℕ) (busy : List ℕ) (i e : ℕ) : Type 0 where
  pub rank : ℕ
  pub free : (k : ℕ) → k < v → has k busy ≡ true → rank ≤ num k
  pub known : Refs num v rank (pieces t i e)
  pub deep : 3 * rank + depth ≤ 3 * v
  pub in_table : e ≤ count

-- in the output as it will be, the owner's value ends at `end`, and begins at `low` or later
pub record Mine (v : ℕ) (t : Tables) (F : List ℕ) (low end owner : ℕ) : Type 0 where
  pub is_name : owner < v
  pub within : low + length (value t owner) ≤ end
  pub stands : Stands F (end - length (value t owner)) (value t owner)

-- the stack, the top first: what is left of the frame above it ends at `end`, and makes the value of `owner`
unfoldable pub Chain : ℕ → Tables → List ℕ → ℕ → (ℕ → ℕ) → ℕ → ℕ → ℕ → List ℕ → Type 0
Chain v t F low num count end owner [] = owner ≡ v
Chain v t F low num count end owner (a ∷ []) = ⊥
Chain v t F low num count end owner (a ∷ b ∷ []) = ⊥
Chain v t F low num count end owner (i ∷ e ∷ o ∷ rest) =
    Mine v t F low end owner × Level v t num count (length rest) (o ∷ owners rest) i e × Chain v t F low num count (end + length (value_between t i e)) o rest

-- what the stack is still to give
unfoldable pub pend : Tables → List ℕ → List ℕ
pend t [] = []
pend t (a ∷ []) = []
pend t (a ∷ b ∷ []) = []
pend t (i ∷ e ∷ o ∷ rest) = value_between t i e ++ pend t rest

-- F is the output as it will be, written from `low` up to `stop`; `free` entries of the stack are left
pub record Run (t : Tables) (places₀ F : List ℕ) (low stop : ℕ) (places frames : List ℕ) (free : ℕ) (out : List ℕ) (i e owner at : ℕ) : Type 0 where
  pub sound : Sound (length t.tokens) (length t.keys) t
  pub tokens : length t.tokens ≤ 65535
  pub names : length t.keys ≤ 65535
  pub for_places : 2 * length t.keys ≤ length places
  pub for_frames : 3 * length t.keys ≤ length frames + free
  pub out_long : length out ≡ length F
  pub level : Level (length t.keys) t sound.num (length t.tokens) (length frames) (owner ∷ owners frames) i e
  pub chain : Chain (length t.keys) t F low sound.num (length t.tokens) (at + length (value_between t i e)) owner frames
  pub bytes : puts out at (value_between t i e ++ pend t frames) ≡ F
  pub ends : at + length (value_between t i e ++ pend t frames) ≡ stop
  pub fits : stop ≤ length F
  pub small : stop < 4611686018427387904
  pub remembered : Remembered t places F at
  pub begun : low ≤ at
  pub recent : (j : ℕ) → j < length t.keys → place_in places j ≤ low → place_in places j ≡ place_in places₀ j

pub held_more : (t : Tables) (places F : List ℕ) (at at' : ℕ) → at ≤ at' → Remembered t places F at → Remembered t places F at'
held_more t places F at at' h r j k p = let x = r j k p in record { inside = omega (arith, x.inside); stands = x.stands }

pub begin : {t : Tables} {places stack out : List ℕ} {at from to : ℕ} → Sound (length t.tokens) (length t.keys) t → Writable t places stack out at from to
    → Run t places (puts out at (value_between t from to)) at (at + length (value_between t from to)) places [] (length stack) out from to (length t.keys) at
unfolding Chain pend owners has
begin {t} {places} {stack} {out} {at} {from} {to} s w =
    let v = length t.keys in
    record {
      sound = s;
      tokens = w.room.tokens;
      names = w.room.names;
      for_places = w.room.for_places;
      for_frames = omega (arith, w.room.for_frames);
      out_long = sym (length-puts out at (value_between t from to));
      level = record {
        rank = v;
        free = λ k h q. has-cases k v [] (v ≤ s.num k) q (λ x. absurd (omega arith)) (λ x. absurd (nothing x));
        known = refs-all s.num v (pieces t from to) s.low w.known;
        deep = omega arith;
        in_table = w.in_table;
      };
      chain = refl;
      bytes = rw (append-nil (value_between t from to)) refl;
      ends = rw (append-nil (value_between t from to)) refl;
      fits = rw (length-puts out at (value_between t from to)) w.fits;
      small = w.small;
      remembered = λ j k p. (let x = w.remembered j k p in record { inside = x.inside; stands = column-before (length (value t j)) (place_in places j - 1) out at (value_between t from to) x.inside ∙ x.stands });
      begun = omega arith;
      recent = λ j k h. refl;
    }
  where
    nothing : false ≡ true → ⊥
    nothing q = let z : ◌≡◌ {A = ℕ} 0 1 = cc in omega arith

module _ {t : Tables} {places₀ F : List ℕ} {low stop : ℕ} {places frames : List ℕ} {free : ℕ} {out : List ℕ} {i e owner at : ℕ} (R : Run t places₀ F low stop places frames free out i e owner at) where
  module _ (h : i < e) where
    in-tokens : i < length t.tokens
    in-tokens = omega (arith, R.level.in_table)

    pub index-small : i + 1 ≤ 65535
    index-small = omega (arith, R.level.in_table, R.tokens)

    pub less-front : turns (length t.keys) t places frames (i + 1) e owner < turns (length t.keys) t places frames i e owner
    unfolding turns
    less-front = omega arith

    -- the first token's bytes are written
    advance : (u : List ℕ) → value_between t i e ≡ u ++ value_between t (i + 1) e → Refs R.sound.num (length t.keys) R.level.rank (pieces t (i + 1) e)
        → Run t places₀ F low stop places frames free (puts out at u) (i + 1) e owner (at + length u)
    advance u q known =
        let w : List ℕ = value_between t (i + 1) e in
        let p : List ℕ = pend t frames in
        let l : length (value_between t i e) ≡ length u + length w = ap length q ∙ length-append u w in
        record {
          sound = R.sound;
          tokens = R.tokens;
          names = R.names;
          for_places = R.for_places;
          for_frames = R.for_frames;
          out_long = length-puts out at u ∙ R.out_long;
          level = record { rank = R.level.rank; free = R.level.free; known = known; deep = R.level.deep; in_table = R.level.in_table };
          chain = (let z : at + length (value_between t i e) ≡ at + length u + length w = omega arith in rw z at R.chain);
          bytes = puts-puts out at u (w ++ p) ∙ ap (puts out at) (sym (append_assoc u w p) ∙ ap (λ (x : List ℕ). x ++ p) (sym q)) ∙ R.bytes;
          ends = omega (arith, length-append w p, length-append (value_between t i e) p, R.ends);
          fits = R.fits;
          small = R.small;
          remembered = held_more t places F at (at + length u) (omega arith) R.remembered;
          begun = omega (arith, R.begun);
          recent = R.recent;
        }

    whole-fits : at + length (value_between t i e) ≤ length out
    whole-fits = omega (arith, R.ends, R.fits, R.out_long, length-append (value_between t i e) (pend t frames))

    -- a token that was dropped
    pub go-dropped : (k : ℕ) → k ≡ (token_at t.tokens i).kind → k ≡ 0 → Run t places₀ F low stop places frames free out (i + 1) e owner at
    go-dropped k ke z =
        let f = front-dropped t i e h in-tokens (sym ke ∙ z) in
        let a : at + 0 ≡ at = add-zero at in
        rw a at (advance [] (ap (joined (value t)) f) (rw f at R.level.known))

    -- a token that stands as its text
    module _ (k : ℕ) (ke : k ≡ (token_at t.tokens i).kind) (ref : k ≡ 2 → ⊥) (dropped : k ≡ 0 → ⊥) where
      is_text : pieces t i e ≡ Piece.text (token_at t.tokens i).text ∷ pieces t (i + 1) e
      is_text = front-text t i e h in-tokens (λ z. dropped (ke ∙ z)) (λ z. ref (ke ∙ z))

      whole-text : value_between t i e ≡ (token_at t.tokens i).text ++ value_between t (i + 1) e
      unfolding joined
      whole-text = ap (joined (value t)) is_text

      pub text-fits : at + length (token_at t.tokens i).text ≤ length out
      text-fits = omega (arith, whole-fits, length-append (token_at t.tokens i).text (value_between t (i + 1) e), ap length whole-text)

      pub go-text : (out' : List ℕ) (at' : ℕ) → (at' ≡ at + length (token_at t.tokens i).text) × (out' ≡ puts out at (token_at t.tokens i).text)
          → Run t places₀ F low stop places frames free out' (i + 1) e owner at'
      go-text out' at' q =
          rw (q.0, q.1) (advance (token_at t.tokens i).text whole-text (refs-tail R.sound.num (length t.keys) R.level.rank (Piece.text (token_at t.tokens i).text) (pieces t (i + 1) e) (rw is_text at R.level.known)))

    -- a reference to the variable of rank j
    module _ (k : ℕ) (ke : k ≡ (token_at t.tokens i).kind) (ref : k ≡ 2) (j : ℕ) (je : j ≡ get_or t.ranks i 0) where
      is-ref : pieces t i e ≡ Piece.ref (token_at t.tokens i) j ∷ pieces t (i + 1) e
      is-ref = rw je (front-ref t i e h in-tokens (sym ke ∙ ref))

      ref-known : (j < length t.keys) × (R.sound.num j < R.level.rank) × Refs R.sound.num (length t.keys) R.level.rank (pieces t (i + 1) e)
      unfolding Refs
      ref-known = rw is-ref at R.level.known

      place-in : 2 * j + 1 < length places
      place-in = omega (arith, ref-known.0, R.for_places)

      whole-ref : value_between t i e ≡ value t j ++ value_between t (i + 1) e
      unfolding joined
      whole-ref = ap (joined (value t)) is-ref

      value-fits : at + length (value t j) ≤ length out
      value-fits = omega (arith, whole-fits, length-append (value t j) (value_between t (i + 1) e), ap length whole-ref)

      -- where its value was written before, it stands in the output as it is now
      held-here : 1 ≤ place_in places j → Held out at (value t j) (place_in places j)
      held-here some =
          let x = R.remembered j ref-known.0 some in
          record {
            inside = x.inside;
            stands = sym (column-before (length (value t j)) (place_in places j - 1) out at (value_between t i e ++ pend t frames) x.inside)
                ∙ ap (λ (l : List ℕ). take (length (value t j)) (drop (place_in places j - 1) l)) R.bytes ∙ x.stands;
          }

      pub refers : Referred t places j out at
      refers =
          record {
            has_length = R.sound.sizes j ref-known.0;
            has_place = place-in;
            fits = value-fits;
            small = omega (arith, value-fits, R.ends, R.small, length-append (value_between t i e) (pend t frames), length-append (value t j) (value_between t (i + 1) e), ap length whole-ref);
            held = held-here;
          }

      pub go-copy : (out' : List ℕ) (at' : ℕ) → (at' ≡ at + length (value t j)) × (out' ≡ puts out at (value t j)) → Run t places₀ F low stop places frames free out' (i + 1) e owner at'
      go-copy out' at' q = rw (q.0, q.1) (advance (value t j) whole-ref ref-known.2)

      -- its value is to be written
      pub three-more : 3 ≤ free
      three-more = omega (arith, R.level.deep, R.for_frames, ref-known.1)

      not-busy : has j (owner ∷ owners frames) ≡ false
      not-busy = go (has j (owner ∷ owners frames)) refl
        where
          go : (b : Bool) → has j (owner ∷ owners frames) ≡ b → b ≡ false
          go true q = absurd (omega (arith, R.level.free j ref-known.0 q, ref-known.1))
          go false q = refl

      less-enter : place_in places j ≡ 0
          → turns (length t.keys) t places ((i + 1) ∷ e ∷ owner ∷ frames) (start_of t j) (end_of t j) j < turns (length t.keys) t places frames i e owner
      unfolding turns frames_left owners
      less-enter z =
          let d = due-begin (length t.keys) t places places j (owner ∷ owners frames) ref-known.0 (λ k l. refl) z not-busy in
          omega arith

      go-enter : Run t places₀ F low stop places ((i + 1) ∷ e ∷ owner ∷ frames) (free - 3) out (start_of t j) (end_of t j) j at
      unfolding Chain pend owners
      go-enter =
          let w : List ℕ = value_between t (i + 1) e in
          let p : List ℕ = pend t frames in
          let x : value_between t (start_of t j) (end_of t j) ≡ value t j = sym (R.sound.value_is j ref-known.0) in
          let b : puts out at (value t j ++ (w ++ p)) ≡ F = ap (puts out at) (sym (append_assoc (value t j) w p) ∙ ap (λ (x : List ℕ). x ++ p) (sym whole-ref)) ∙ R.bytes in
          let r : at + length (value t j ++ (w ++ p)) ≡ stop = rw (← append_assoc (value t j) w p, ← whole-ref) R.ends in
          let l : length (value_between t i e) ≡ length (value t j) + length w = ap length whole-ref ∙ length-append (value t j) w in
          let c : at + length (value_between t i e) ≡ at + length (value t j) + length w = omega arith in
          record {
            sound = R.sound;
            tokens = R.tokens;
            names = R.names;
            for_places = R.for_places;
            for_frames = omega (arith, R.for_frames, three-more);
            out_long = R.out_long;
            level = record {
              rank = R.sound.num j;
              free = λ x y q. has-cases x j (owner ∷ owners frames) (R.sound.num j ≤ R.sound.num x) q (λ same. rw same (omega arith)) (λ more. omega (arith, R.level.free x y more, ref-known.1));
              known = R.sound.lower j ref-known.0;
              deep = omega (arith, R.level.deep, ref-known.1);
              in_table = R.sound.in_table j ref-known.0;
            };
            chain = rw x (
              record {
                is_name = ref-known.0;
                within = omega (arith, R.begun);
                stands = (let z : at + length (value t j) - length (value t j) ≡ at = omega arith in rw (z, ← b) (stands_here out at (value t j) (w ++ p) (omega (arith, R.out_long, R.fits))));
              },
              record { rank = R.level.rank; free = R.level.free; known = ref-known.2; deep = R.level.deep; in_table = R.level.in_table },
              rw c at R.chain,
            );
            bytes = rw x b;
            ends = rw x r;
            fits = R.fits;
            small = R.small;
            remembered = R.remembered;
            begun = R.begun;
            recent = R.recent;
          }

      module _ (frames' : List ℕ) (se : frames' ≡ (i + 1) ∷ e ∷ owner ∷ frames) (f : Frame) (fe : f ≡ record { next = start_of t j; end = end_of t j; owner = j }) where
        pub less-entered : place_in places j ≡ 0 → turns (length t.keys) t places frames' f.next f.end f.owner < turns (length t.keys) t places frames i e owner
        less-entered z = rw (se, fe) (less-enter z)

        pub go-entered : (free' : ℕ) → free' + 3 ≡ free → (out' : List ℕ) → out' ≡ out → Run t places₀ F low stop places frames' free' out' f.next f.end f.owner at
        go-entered free' h out' oe = let z : free' ≡ free - 3 = omega arith in rw (se, fe, oe, z) go-enter

module _ (v : ℕ) (t : Tables) (F : List ℕ) (low : ℕ) (num : ℕ → ℕ) (count : ℕ) where
  none : (end owner : ℕ) (l : List ℕ) → Chain v t F low num count end owner l → length l < 3 → l ≡ []
  unfolding Chain
  none end owner [] c h = refl
  none end owner (a ∷ []) c h = absurd c
  none end owner (a ∷ b ∷ []) c h = absurd c
  none end owner (a ∷ b ∷ d ∷ l) c h = absurd (omega arith)

  owner-le : (end owner : ℕ) (l : List ℕ) → Chain v t F low num count end owner l → owner ≤ v
  unfolding Chain
  owner-le end owner [] c = omega (arith, c)
  owner-le end owner (a ∷ []) c = absurd c
  owner-le end owner (a ∷ b ∷ []) c = absurd c
  owner-le end owner (a ∷ b ∷ d ∷ l) c = omega (arith, c.0.is_name)

-- what is pushed fits its entries
pub frame_small : {t : Tables} {places₀ F : List ℕ} {low stop : ℕ} {places frames : List ℕ} {free : ℕ} {out : List ℕ} {i e owner at : ℕ} (R : Run t places₀ F low stop places frames free out i e owner at) → i < e
    → (i + 1 ≤ 65536) × (e ≤ 65536) × (owner ≤ 65536)
frame_small {t} {F = F} {low} {frames = frames} {i = i} {e} {owner} {at} R h =
    (omega (arith, R.level.in_table, R.tokens), omega (arith, R.level.in_table, R.tokens), omega (arith, owner-le (length t.keys) t F low R.sound.num (length t.tokens) (at + length (value_between t i e)) owner frames R.chain, R.names))

-- a value is whole
module _ {t : Tables} {places₀ F : List ℕ} {low stop : ℕ} {places frames : List ℕ} {free : ℕ} {out : List ℕ} {i e owner at : ℕ} (R : Run t places₀ F low stop places frames free out i e owner at) (h : e ≤ i) where
  nothing_left : value_between t i e ≡ []
  unfolding joined
  nothing_left = ap (joined (value t)) (front-none t i e h)

  chain-here : Chain (length t.keys) t F low R.sound.num (length t.tokens) at owner frames
  chain-here = rw (nothing_left, add-zero at) at R.chain

  -- of a variable
  module _ (f : Frame) (below : List ℕ) (popped : frames ≡ f.next ∷ f.end ∷ f.owner ∷ below) where
    mine : Mine (length t.keys) t F low at owner
    unfolding Chain
    mine = (rw popped at chain-here).0

    pub owner-in : 2 * owner + 1 < length places
    owner-in = omega (arith, mine.is_name, R.for_places)

    pub owner-value : 1 ≤ get_or t.lengths owner 0
    owner-value = omega (arith, R.sound.sizes owner mine.is_name)

    module _ (size : ℕ) (se : size + 1 ≡ get_or t.lengths owner 0) where
      owner-size : size ≡ length (value t owner)
      owner-size = omega (arith, R.sound.sizes owner mine.is_name)

      pub place-small : (size ≤ at) × (at < 4611686018427387904)
      place-small = (omega (arith, owner-size, mine.within), omega (arith, R.ends, R.small))

      -- its place is remembered
      module _ (places' : List ℕ) (pe : places' ≡ puts places (2 * owner) ((at - size + 1) % 2147483648 ∷ (at - size + 1) / 2147483648 ∷ [])) where
        noted : place_in places' owner ≡ at - size + 1
        noted = rw pe (place_same places owner (at - size + 1) owner-in)

        unnoted : (k : ℕ) → (k ≡ owner → ⊥) → place_in places' k ≡ place_in places k
        unnoted k q = rw pe (place_other places owner k ((at - size + 1) % 2147483648) ((at - size + 1) / 2147483648) q)

        noted-long : length places' ≡ length places
        noted-long = rw pe (length-puts places (2 * owner) ((at - size + 1) % 2147483648 ∷ (at - size + 1) / 2147483648 ∷ []))

        recalled : Remembered t places' F at
        recalled j k p = elim (dec_lt j owner) [ yes l ↦ there (λ q. omega arith) | no l ↦ elim (dec_lt owner j) [ yes m ↦ there (λ q. omega arith) | no m ↦ here (omega arith) ] ]
          where
            here : j ≡ owner → Held F at (value t j) (place_in places' j)
            here same =
                let z = noted in
                let y : at - size + 1 - 1 ≡ at - length (value t owner) = omega (arith, owner-size) in
                rw (same, z) (record { inside = omega (arith, owner-size, mine.within); stands = rw y mine.stands })

            there : (j ≡ owner → ⊥) → Held F at (value t j) (place_in places' j)
            there other = let z = unnoted j other in rw z (R.remembered j k (rw z at p))

        noted-recent : (j : ℕ) → j < length t.keys → place_in places' j ≤ low → place_in places' j ≡ place_in places₀ j
        noted-recent j k p = elim (dec_lt j owner) [ yes l ↦ there (λ q. omega arith) | no l ↦ elim (dec_lt owner j) [ yes m ↦ there (λ q. omega arith) | no m ↦ absurd (here (omega arith)) ] ]
          where
            here : j ≡ owner → ⊥
            here same = let z : place_in places' j ≡ at - size + 1 = ap (place_in places') same ∙ noted in omega (arith, owner-size, mine.within)

            there : (j ≡ owner → ⊥) → place_in places' j ≡ place_in places₀ j
            there other = let z = unnoted j other in z ∙ R.recent j k (rw z at p)

        pub less_pop : turns (length t.keys) t places' below f.next f.end f.owner < turns (length t.keys) t places frames i e owner
        unfolding turns frames_left owners
        less_pop =
            let d = due-end (length t.keys) t places places' owner (f.owner ∷ owners below) unnoted (omega (arith, noted)) in
            rw popped (omega arith)

        pub go-pop : (free' : ℕ) → free' ≡ free + 3 → Run t places₀ F low stop places' below free' out f.next f.end f.owner at
        unfolding Chain pend
        go-pop free' h =
            let c : Chain (length t.keys) t F low R.sound.num (length t.tokens) at owner (f.next ∷ f.end ∷ f.owner ∷ below) = rw popped at chain-here in
            record {
              sound = R.sound;
              tokens = R.tokens;
              names = R.names;
              for_places = omega (arith, R.for_places, noted-long);
              for_frames = omega (arith, R.for_frames, ap length popped);
              out_long = R.out_long;
              level = c.1;
              chain = c.2;
              bytes = rw (popped, nothing_left) at R.bytes;
              ends = rw (popped, nothing_left) at R.ends;
              fits = R.fits;
              small = R.small;
              remembered = recalled;
              begun = R.begun;
              recent = noted-recent;
            }

  -- of the whole
  module _ (m : length frames < 3) where
    empty_stack : frames ≡ []
    empty_stack = none (length t.keys) t F low R.sound.num (length t.tokens) at owner frames chain-here m

    pub at-stop : at ≡ stop
    unfolding pend
    at-stop = omega (arith, rw (empty_stack, nothing_left) at R.ends)

    -- what is left of the turns is for the variables that are still due
    pub turns-left : turns (length t.keys) t places frames i e owner ≡ 2 + all_due (length t.keys) t places []
    unfolding Chain
    turns-left =
        let o : owner ≡ length t.keys = rw empty_stack at chain-here in
        let z : e - i ≡ 0 = omega arith in
        rw (o, empty_stack, turns-whole (length t.keys) t places i e, z, zero-add 2) refl

    pub out-done : out ≡ F
    unfolding pend
    out-done = rw (empty_stack, nothing_left) at R.bytes

pub done : {t : Tables} {places₀ out₀ : List ℕ} {at₀ : ℕ} {bs places frames : List ℕ} {free : ℕ} {out : List ℕ} {i e owner at : ℕ}
    → Run t places₀ (puts out₀ at₀ bs) at₀ (at₀ + length bs) places frames free out i e owner at → e ≤ i → length frames < 3 → Written t places₀ out₀ at₀ bs places out at
done R h m = record { moved = at-stop R h m; bytes = out-done R h m; remembered = rw (out-done R h m) R.remembered; recent = R.recent }
