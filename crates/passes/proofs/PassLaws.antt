-- A pass that leaves out the blocks in which all variables rest. Assumes nothing.
use Prim.Native.Nat.{ℕ, zero, suc, ◌+◌, ◌*◌, ◌-◌, ◌≤◌, ◌<◌}
use Rattle.std.specs.Prelude.{min}
use mathlib.Core.Path.{◌≡◌, refl, sym, ◌∙◌, ap}
use mathlib.Core.Bool.{Bool, true, false}
use mathlib.Core.List.{List, [], ◌∷◌}
use native.Mathlib.Nat.{mul-le-mul_right, add-mul, one-mul, add-zero}
use native.Mathlib.Decide.{dec_lt}
use native.Mathlib.Omega.{arith}
use lib.Bits.{bit_or}
use lib.ListN.{length, get_or, drop}
use lib.Seq.{drop-cons}
use Rattle.std.specs.Prelude.{Option, None, Some, Ok}
use Rattle.std.specs.Option.{unwrap_or}
use Rattle.rules.specs.Tokens.{Token}
use Rattle.rules.specs.Variables.{Piece}
use Rattle.rules.proofs.Lengths.{Sum, add, Lens, pass_lens, lens-valued, lens-missing}
use Rattle.passes.specs.Visits.{Reads, rules_of, State, zeros, pass_from}
use Rattle.scan.specs.Bits.{bit_at}
use Rattle.passes.specs.Blocks.{Block, Rests, Leaves, Turns}
use Rattle.passes.specs.Passes.{Covers, Wide, Passes}
use Rattle.passes.proofs.Turns.{rules-count, rules-past}
use Rattle.scan.proofs.Bits.{or_off, no-bit}
use Rattle.passes.proofs.Waits.{rests-missing}
use Rattle.passes.specs.declared.blocks.Blocks.{Blocks}

-- blocks
pub block-bit : (b w v lo : ℕ) → lo ≡ b * w → v ≤ 32 * w → lo < v → b < 32
block-bit b w v lo e h l = elim (dec_lt b 32) [
  | yes q ↦ q
  | no q ↦ let x : 32 ≤ b = omega arith in let z : 32 * w ≤ b * w = mul-le-mul_right w x in absurd (omega arith)
]

next-lo : (b w lo : ℕ) → lo ≡ b * w → lo + w ≡ (b + 1) * w
next-lo b w lo e = rw (add-mul b 1 w, one-mul w, e)

-- each variable stands in a block, and in one only
block_of : (w : ℕ) → 1 ≤ w → (t : ℕ) → (c : ℕ) × Block w t c
block_of w h zero = (0, (omega arith, omega arith))
block_of w h (suc t) = go (block_of w h t)
  where
    go : (c : ℕ) × Block w t c → (c : ℕ) × Block w (suc t) c
    go x = elim (dec_lt (suc t) (x.0 * w + w)) [
      | yes l ↦ (x.0, (omega (arith, x.1.0), l))
      | no l ↦ let e = next-lo x.0 w (x.0 * w) refl in (x.0 + 1, (omega (arith, x.1.1), omega (arith, x.1.1)))
    ]

block_one : (w t b c : ℕ) → Block w t b → Block w t c → c ≡ b
block_one w t b c x y = elim (dec_lt c b) [
  | yes l ↦ absurd (let p : c + 1 ≤ b = omega arith in let z : (c + 1) * w ≤ b * w = mul-le-mul_right w p in let e = next-lo c w (c * w) refl in omega (arith, x.0, y.1))
  | no l ↦ elim (dec_lt b c) [
    | yes m ↦ absurd (let p : b + 1 ≤ c = omega arith in let z : (b + 1) * w ≤ c * w = mul-le-mul_right w p in let e = next-lo b w (b * w) refl in omega (arith, x.1, y.0))
    | no m ↦ omega arith
  ]
]

-- Variables that have a value or lack one at their sum can be left out of a pass
abbrev Still : List (List Piece) → List ℕ → ℕ → Type 0
Still rules lens t = get_or lens t 0 ≡ 0 → (m : Token) × (add lens 0 (get_or rules t []) ≡ Sum.missing m)

skip-one : (rules : List (List Piece)) (lens : List ℕ) (f : Bool) (i : ℕ) → i < length rules → Still rules lens i
    → pass_lens i (drop i rules) f lens ≡ pass_lens (suc i) (drop (suc i) rules) f lens
skip-one rules lens f i h r = ap (λ (l : List (List Piece)). pass_lens i l f lens) (drop-cons rules i [] h) ∙ go (get_or lens i 0) refl
  where
    go : (x : ℕ) → get_or lens i 0 ≡ x → pass_lens i (get_or rules i [] ∷ drop (suc i) rules) f lens ≡ pass_lens (suc i) (drop (suc i) rules) f lens
    go zero q = let y = r q in lens-missing i (get_or rules i []) (drop (suc i) rules) f lens y.0 q y.1
    go (suc k) q = lens-valued i (get_or rules i []) (drop (suc i) rules) f lens k q

skip : (rules : List (List Piece)) (lens : List ℕ) (f : Bool) (k i : ℕ) → i + k ≤ length rules → ((t : ℕ) → i ≤ t → t < i + k → Still rules lens t)
    → pass_lens i (drop i rules) f lens ≡ pass_lens (i + k) (drop (i + k) rules) f lens
skip rules lens f zero i h r = rw add-zero refl
skip rules lens f (suc k) i h r =
    let e : suc i + k ≡ i + suc k = omega arith in
    skip-one rules lens f i (omega arith) (r i (omega arith) (omega arith)) ∙ skip rules lens f k (suc i) (omega arith) (λ t p q. r t (omega arith) (omega arith))
    ∙ ap (λ (x : ℕ). pass_lens x (drop x rules) f lens) e

-- what was found: whether anything, and the blocks that wait for it
abbrev pub any_found : Option Blocks → Bool
any_found None = false
any_found (Some m) = true

abbrev pub woken : Option Blocks → ℕ
woken None = 0
woken (Some m) = m.0

-- At the variable of rank i: what is left of the pass comes to the whole of it; what is not due rests, and so does what is passed and not in a block that
-- waits for what was found
pub record Passing (R : Reads) (w : ℕ) (lens₀ lens stops sums waiters : List ℕ) (due : ℕ) (found : Option Blocks) (i : ℕ) : Type 0 where
  pub blocks : Wide (length R.keys) w
  pub state : State R lens stops sums
  pub waiters_long : length waiters ≡ length R.keys
  pub rest : pass_from R i (any_found found) lens ≡ pass_from R 0 false lens₀
  pub covers : Covers R w due lens stops waiters
  pub past : (t c : ℕ) → t < length R.keys → t < i → Block w t c → bit_at (woken found) c ≡ false → Rests R lens stops waiters t c
  pub fewer : any_found found ≡ true → zeros lens < zeros lens₀
  pub no_more : zeros lens ≤ zeros lens₀

-- what is added to nothing yet
pub woken-or : (o : Option Blocks) (x : Blocks) → x ≡ unwrap_or o (record { 0 = 0 }) → x.0 ≡ woken o
woken-or None x e = ap (λ (y : Blocks). y.0) e
woken-or (Some m) x e = ap (λ (y : Blocks). y.0) e

module _ {R : Reads} {w : ℕ} {lens₀ lens stops sums waiters : List ℕ} {due : ℕ} {found : Option Blocks} {i : ℕ} (P : Passing R w lens₀ lens stops sums waiters due found i) where
  -- past the last variable
  pub pass-beyond : length R.keys ≤ i → (j : ℕ) → length R.keys ≤ j → Passing R w lens₀ lens stops sums waiters due found j
  unfolding pass_lens
  pass-beyond h j q =
      record {
        blocks = P.blocks;
        state = P.state;
        waiters_long = P.waiters_long;
        rest =
            let x : pass_from R j (any_found found) lens ≡ Lens.passed (any_found found) lens = rw (rules-past R j (omega arith)) refl in
            let y : pass_from R i (any_found found) lens ≡ Lens.passed (any_found found) lens = rw (rules-past R i h) refl in
            x ∙ sym y ∙ P.rest;
        covers = P.covers;
        past = λ t c r l. P.past t c r (omega arith);
        fewer = P.fewer;
        no_more = P.no_more;
      }

  -- a block that is not due is left out
  pub pass-skip : (b : ℕ) → i ≡ b * w → (c : Bool) → c ≡ bit_at due b → c ≡ false → (j : ℕ) → j ≡ (b + 1) * w → Passing R w lens₀ lens stops sums waiters due found j
  unfolding pass_lens
  pass-skip b e c ec f j ej =
      let l = rules-count R in
      let n : j ≡ i + w = ej ∙ sym (next-lo b w i e) in
      let in_block : (t : ℕ) → i ≤ t → t < j → Block w t b = λ t p q. (omega (arith, e), omega (arith, e, n)) in
      let rests : (t : ℕ) → i ≤ t → t < j → t < length R.keys → Rests R lens stops waiters t b = λ t p q r. P.covers.at t b r (in_block t p q) (sym ec ∙ f) in
      let still : (t : ℕ) → i ≤ t → t < j → t < length R.keys → Still (rules_of R) lens t = λ t p q r. rests-missing P.state waiters t b r (rests t p q r) in
      record {
        blocks = P.blocks;
        state = P.state;
        waiters_long = P.waiters_long;
        rest = elim (dec_lt (length R.keys) j) [
          | yes big ↦ elim (dec_lt i (length R.keys)) [
            | yes low ↦
                let k : i + (length R.keys - i) ≡ length R.keys = omega arith in
                let x = skip (rules_of R) lens (any_found found) (length R.keys - i) i (omega arith) (λ t p q. still t p (omega arith) (omega arith)) in
                let y : pass_from R j (any_found found) lens ≡ Lens.passed (any_found found) lens = rw (rules-past R j (omega arith)) refl in
                let z : pass_from R (length R.keys) (any_found found) lens ≡ Lens.passed (any_found found) lens = rw (rules-past R (length R.keys) (omega arith)) refl in
                y ∙ sym z ∙ ap (λ (m : ℕ). pass_from R m (any_found found) lens) (sym k) ∙ sym x ∙ P.rest
            | no low ↦ (pass-beyond (omega arith) j (omega arith)).rest
          ]
          | no small ↦
              let k : i + (j - i) ≡ j = omega arith in
              let x = skip (rules_of R) lens (any_found found) (j - i) i (omega arith) (λ t p q. still t p (omega arith) (omega arith)) in
              ap (λ (m : ℕ). pass_from R m (any_found found) lens) (sym k) ∙ sym x ∙ P.rest
        ];
        covers = P.covers;
        past = λ t d r q m o. elim (dec_lt t i) [
          | yes k ↦ P.past t d r k m o
          | no k ↦ let y : d ≡ b = block_one w t b d (in_block t (omega arith) q) m in rw y (rests t (omega arith) q r)
        ];
        fewer = P.fewer;
        no_more = P.no_more;
      }

  -- a turn in block b
  module _ (h : i < length R.keys) (b : ℕ) (lo : b * w ≤ i) (hi : i < b * w + w) where
    -- who rests after the turn, where the blocks of m wake
    module _ {lens' stops' waiters' : List ℕ} (m : ℕ) (L : Leaves R lens stops waiters lens' stops' waiters' i b m) where
      own : (c : ℕ) → Block w i c → Rests R lens' stops' waiters' i c
      own c k = let y : c ≡ b = block_one w i b c (lo, hi) k in rw y L.own

      any : (t c : ℕ) → Block w t c → bit_at m c ≡ false → ((t ≡ i → ⊥) → Rests R lens stops waiters t c) → Rests R lens' stops' waiters' t c
      any t c k o x = elim (dec_lt t i) [
        | yes q ↦ L.others t c (λ z. omega arith) o (x (λ z. omega arith))
        | no q ↦ elim (dec_lt i t) [
          | yes q' ↦ L.others t c (λ z. omega arith) o (x (λ z. omega arith))
          | no q' ↦ let y : t ≡ i = omega arith in rw y (own c (rw y at k))
        ]
      ]

    pub pass-nothing : {lens' stops' sums' waiters' : List ℕ} → length waiters' ≡ length waiters → State R lens' stops' sums' × Turns R lens stops waiters lens' stops' waiters' i b (Ok None)
        → Passing R w lens₀ lens' stops' sums' waiters' due found (i + 1)
    pass-nothing l a =
        record {
          blocks = P.blocks;
          state = a.0;
          waiters_long = l ∙ P.waiters_long;
          rest = rw a.1.0 (sym (a.1.2 (any_found found)) ∙ P.rest);
          covers = record { at = λ t c r k o. any 0 a.1.1 t c k (no-bit c) (λ d. P.covers.at t c r k o) };
          past = λ t c r q k o. any 0 a.1.1 t c k (no-bit c) (λ d. P.past t c r (omega arith) k o);
          fewer = λ e. rw a.1.0 (P.fewer e);
          no_more = rw a.1.0 P.no_more;
        }

    pub pass-wakes : {lens' stops' sums' waiters' : List ℕ} → length waiters' ≡ length waiters → (m : Blocks) → State R lens' stops' sums' × Turns R lens stops waiters lens' stops' waiters' i b (Ok (Some m))
        → (due' : ℕ) → due' ≡ bit_or due m.0 → (all : Blocks) → all.0 ≡ bit_or (woken found) m.0 → Passing R w lens₀ lens' stops' sums' waiters' due' (Some all) (i + 1)
    pass-wakes l m a due' ed all ea =
        record {
          blocks = P.blocks;
          state = a.0;
          waiters_long = l ∙ P.waiters_long;
          rest = sym (a.1.2 (any_found found)) ∙ P.rest;
          covers = rw ed record { at = λ t c r k o. let x = or_off due m.0 c o in any m.0 a.1.1 t c k x.1 (λ d. P.covers.at t c r k x.0) };
          past = rw ea (λ t c r q k o. let x = or_off (woken found) m.0 c o in any m.0 a.1.1 t c k x.1 (λ d. P.past t c r (omega arith) k x.0));
          fewer = λ z. omega (arith, a.1.0, P.no_more);
          no_more = omega (arith, a.1.0, P.no_more);
        }

  -- the next block
  pub pass-next : (b from end : ℕ) → from ≡ b * w → end ≡ min (from + w) (length R.keys) → from ≤ i → (from ≤ end → i ≤ end) → end ≤ i
      → Passing R w lens₀ lens stops sums waiters due found ((b + 1) * w)
  pass-next b from end e f p q r =
      let n = next-lo b w from e in
      elim (dec_lt i (length R.keys)) [
        | yes l ↦
            let z = q (omega arith) in
            let y : i ≡ (b + 1) * w = omega arith in
            rw (← y) P
        | no l ↦ elim (dec_lt end from) [
          | yes m ↦ pass-beyond (omega arith) ((b + 1) * w) (omega arith)
          | no m ↦ let z = q (omega arith) in pass-beyond (omega arith) ((b + 1) * w) (omega arith)
        ]
      ]

module _ {R : Reads} {w : ℕ} {lens₀ lens stops sums waiters : List ℕ} {due : ℕ} {found : Option Blocks} {i : ℕ} (P : Passing R w lens₀ lens stops sums waiters due found i) (h : length R.keys ≤ i) where
  ended : Lens.passed (any_found found) lens ≡ pass_from R 0 false lens₀
  unfolding pass_lens
  ended = rw (rules-past R i h) at P.rest

-- past the last variable
pub pass-done : {R : Reads} {w : ℕ} {lens₀ lens stops sums waiters : List ℕ} {due : ℕ} (found : Option Blocks) (i : ℕ) → Passing R w lens₀ lens stops sums waiters due found i → length R.keys ≤ i
    → State R lens stops sums × Passes R w lens₀ lens stops waiters (Ok found)
pass-done (Some m) i P h = (P.state, (P.fewer refl, sym (ended P h), record { at = λ t c r k o. P.past t c r (omega arith) k o }))
pass-done {w = w} None i P h = (
  P.state,
  (
    (λ t r z. let c = block_of w P.blocks.some t in rests-missing P.state _ t c.0 r (P.past t c.0 r (omega arith) c.1 (no-bit c.0)) z),
    sym (ended P h),
  ),
)

-- past the last block
pub pass-ends : {R : Reads} {w : ℕ} {lens₀ lens stops sums waiters : List ℕ} {due : ℕ} (found : Option Blocks) (b : ℕ) → Passing R w lens₀ lens stops sums waiters due found (b * w) → 32 ≤ b
    → State R lens stops sums × Passes R w lens₀ lens stops waiters (Ok found)
pass-ends {w = w} found b P n = let h : 32 * w ≤ b * w = mul-le-mul_right w n in pass-done found (b * w) P (omega (arith, P.blocks.wide))
