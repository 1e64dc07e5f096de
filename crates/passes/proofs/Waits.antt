-- Turns, and who rests after them. Assumes nothing.
use Prim.Native.Nat.{ℕ, suc, ◌^◌, ◌<◌}
use mathlib.Core.Path.{◌≡◌, sym, ◌∙◌, ap}
use mathlib.Core.Bool.{true}
use mathlib.Core.List.{List}
use native.Mathlib.Decide.{dec_lt}
use native.Mathlib.Omega.{arith}
use lib.Bits.{bit_or}
use lib.ListN.{length, get_or, set, get_or-eq_default}
use lib.Seq.{get_or-set_other, get_or-set_same}
use Rattle.std.specs.Prelude.{None, Some, Ok}
use Rattle.rules.specs.Tokens.{Token}
use Rattle.rules.proofs.BytesLaws.{false-true}
use Rattle.rules.proofs.Lengths.{Sum, add}
use Rattle.tokens.specs.Entries.{token_at}
use Rattle.passes.specs.Sums.{size_of}
use Rattle.passes.specs.Visits.{Reads, resume_at, end_at, rule, rest_of, State, Steps}
use Rattle.scan.specs.Bits.{bit_at}
use Rattle.passes.specs.Blocks.{marked_at, Rests, Turns}
use Rattle.passes.proofs.Advances.{add-stopped, extends_refl}
use Rattle.passes.proofs.States.{dec-eq}
use Rattle.scan.proofs.Bits.{or_left, or_right, own-bit, no-bit}
use Rattle.passes.specs.declared.blocks.Blocks.{Blocks}
use Rattle.passes.specs.declared.visits.Visited.TheVariants.{Blocked, Valued}

-- what a mark of block b at token j leaves: it adds one bit
pub record Adds (ranks waiters waiters' : List ℕ) (j b : ℕ) : Type 0 where
  pub keeps : (k c : ℕ) → bit_at (get_or waiters k 0) c ≡ true → bit_at (get_or waiters' k 0) c ≡ true
  pub adds : get_or ranks j 0 < length waiters → bit_at (get_or waiters' (get_or ranks j 0) 0) b ≡ true

module _ (ranks waiters : List ℕ) (j b : ℕ) (h : b < 32) where
  abbrev at : ℕ
  at = get_or ranks j 0

  new : at < length waiters → get_or (marked_at ranks j b waiters) at 0 ≡ bit_or (get_or waiters at 0) (2 ^ b)
  new o = get_or-set_same waiters at (bit_or (get_or waiters at 0) (2 ^ b)) 0 o

  pub mark-adds : Adds ranks waiters (marked_at ranks j b waiters) j b
  mark-adds =
      record {
        keeps = λ k c t. elim (dec-eq k at) [
          | yes q ↦ elim (dec_lt at (length waiters)) [
            | yes o ↦ rw (q, new o) (or_left (get_or waiters at 0) (2 ^ b) c (rw q at t))
            | no o ↦
                let z : get_or waiters k 0 ≡ 0 = get_or-eq_default waiters 0 (omega arith) in
                absurd (false-true (no-bit c) (rw z at t))
          ]
          | no q ↦ rw (get_or-set_other waiters at k (bit_or (get_or waiters at 0) (2 ^ b)) 0 q) t
        ];
        adds = λ o. rw (new o) (or_right (get_or waiters at 0) (2 ^ b) b (own-bit b h));
      }

size-other : (lens : List ℕ) (i x rank : ℕ) (t : Token) → (rank ≡ i → ⊥) → size_of lens rank t ≡ 0 → size_of (set lens i x) rank t ≡ 0
unfolding size_of
size-other lens i x rank t d e = rw (get_or-set_other lens i rank x 0 d) e

-- a turn
module _ {R : Reads} {lens stops sums : List ℕ} (S : State R lens stops sums) (waiters : List ℕ) (long : length waiters ≡ length R.keys) (i b : ℕ) (h : i < length R.keys) where
  module _ {lens' stops' sums' : List ℕ} where
    -- it waits: the token at which it stopped is k, and its block is marked there
    pub turn-blocked : (k : ℕ) → State R lens' stops' sums' × Steps R lens stops sums lens' stops' sums' i (Ok (Blocked k)) → (waiters' : List ℕ) → Adds R.ranks waiters waiters' k b
        → State R lens' stops' sums' × Turns R lens stops waiters lens' stops' waiters' i b (Ok None)
    turn-blocked k a waiters' M = (
      a.0,
      (
        a.1.0,
        record {
          own = λ z.
              record {
                token = k;
                stop = rw a.1.1 (get_or-set_same stops i (suc k) 0 (omega (arith, S.stops_long)));
                inside = a.1.2;
                lacks = rw a.1.0 a.1.3;
                marked = λ q. M.adds (omega (arith, long));
              };
          others = λ t c d o r z.
              let y = r (rw a.1.0 at z) in
              record {
                token = y.token;
                stop = rw (a.1.1, get_or-set_other stops i t (suc k) 0 d) y.stop;
                inside = y.inside;
                lacks = rw a.1.0 y.lacks;
                marked = λ q. M.keeps (get_or R.ranks y.token 0) c (y.marked q);
              };
        },
        a.1.4,
      ),
    )

    -- it has a value now: the blocks of m waited for it
    pub turn-valued : State R lens' stops' sums' × Steps R lens stops sums lens' stops' sums' i (Ok Valued) → (m : Blocks) → m.0 ≡ get_or waiters i 0
        → State R lens' stops' sums' × Turns R lens stops waiters lens' stops' waiters i b (Ok (Some m))
    turn-valued a m e =
        let valued : get_or lens' i 0 ≡ suc a.1.0 = rw a.1.2 (get_or-set_same lens i (suc a.1.0) 0 (omega (arith, S.lens_long))) in (
          a.0,
          (
            a.1.1,
            record {
              own = λ z. absurd (omega (arith, valued));
              others = λ t c d o r z.
                  let y = r (sym (get_or-set_other lens i t (suc a.1.0) 0 d) ∙ (rw a.1.2 at z)) in
                  record {
                    token = y.token;
                    stop = rw a.1.3 y.stop;
                    inside = y.inside;
                    lacks = rw a.1.2 (size-other lens i (suc a.1.0) (get_or R.ranks y.token 0) (token_at R.tokens y.token)
                        (λ q. false-true o (ap (λ (l : ℕ). bit_at l c) e ∙ ap (λ (l : ℕ). bit_at (get_or waiters l 0) c) (sym q) ∙ y.marked (omega arith)))
                        y.lacks);
                    marked = y.marked;
                  };
            },
            a.1.4,
          ),
        )

-- one that rests lacks a value, or has one
pub rests-missing : {R : Reads} {lens stops sums : List ℕ} → State R lens stops sums → (waiters : List ℕ) (t b : ℕ) → t < length R.keys
    → Rests R lens stops waiters t b → get_or lens t 0 ≡ 0 → (m : Token) × (add lens 0 (rule R t) ≡ Sum.missing m)
unfolding rest_of resume_at
rests-missing {R} {lens} {stops} {sums} S waiters t b h r z =
    let y = r z in
    let g = (S.resumes t h).same lens (extends_refl lens) in (
      token_at R.tokens y.token,
      (rw y.stop at g) ∙ add-stopped R.tokens R.ranks lens (end_at R t) y.token (get_or sums t 0) y.inside y.lacks,
    )
