-- All passes, from the cleared columns to the answer. Assumes nothing.
use Prim.Native.Nat.{ℕ, suc, ◌+◌, ◌*◌, ◌-◌, ◌/◌, ◌≤◌}
use mathlib.Core.Path.{◌≡◌, refl, sym, ◌∙◌, ap, ap₂}
use mathlib.Core.List.{List, ◌++◌, append_assoc, append-nil}
use native.Mathlib.Nat.{zero-add, sub-zero}
use native.Mathlib.Omega.{arith}
use lib.ListN.{length, take, drop, replicate, length-drop, length-replicate, get_or-replicate, drop_of_length-le}
use lib.Seq.{take-take, drop-drop, drop_at, take_at, length-take-le}
use Rattle.std.proofs.lemmas.List.{take-append-le, take-replicate, drop-replicate}
use Rattle.std.specs.Prelude.{None, Some, Ok, Err}
use Rattle.rules.specs.Tokens.{Token}
use Rattle.rules.specs.Variables.{Piece}
use Rattle.rules.proofs.BytesLaws.{false-true}
use Rattle.rules.proofs.Lengths.{Settles, left_lens, passes_lens, resolve_lens}
use Rattle.scan.specs.Stores.{puts}
use Rattle.scan.proofs.Bits.{all-bits}
use Rattle.scan.proofs.Stores.{puts-eq, take-puts}
use Rattle.tokens.specs.Entries.{decode}
use Rattle.tokens.proofs.TokenLaws.{length-decode}
use Rattle.workspace.specs.Map.{keys_of, starts_of, ends_of, ranks_of, lengths_of, rules_in, Room}
use Rattle.workspace.proofs.Frames.{decode-low, rules-low}
use Rattle.passes.specs.Visits.{Reads, rules_of, State, zeros, Settled, said}
use Rattle.passes.specs.Passes.{Turning, Passes, count_lens, pass_count, kept_of, Ready, Runs, Clear, Mapped, columns, Resolved, Resolves}
use Rattle.passes.proofs.States.{rule-rest}
use Rattle.passes.proofs.Turns.{zeros-replicate, rules-count}
use Rattle.passes.proofs.PassLaws.{block-bit}
use Rattle.passes.specs.declared.blocks.Blocks.{Blocks}
use Rattle.passes.specs.declared.visits.TooLarge.{TooLarge}
use Rattle.passes.specs.declared.visits.Unresolved.TheVariants as Variable

-- zeros, split
split-zeros : (cells front back : List ℕ) (m v : ℕ) → cells ≡ replicate m 0 → v ≤ m → front ≡ take v cells → back ≡ drop v cells → (front ≡ replicate v 0) × (back ≡ replicate (m - v) 0)
split-zeros cells front back m v e h f b = (f ∙ ap (take v) e ∙ take-replicate v m 0 h, b ∙ ap (drop v) e ∙ drop-replicate v m 0)

-- four clear columns
module _ {R : Reads} {v : ℕ} {cells : List ℕ} (C : Clear R v cells) (lens rest stops rest' sums waiters : List ℕ) (a : lens ≡ take v cells) (b : rest ≡ drop v cells)
    (d : stops ≡ take v rest) (e : rest' ≡ drop v rest) (f : sums ≡ take v rest') (g : waiters ≡ drop v rest') where
  pub clear-ready : (w : ℕ) → w ≡ v / 32 + 1 → Ready R w lens stops sums waiters
  clear-ready w q =
      let x = split-zeros cells lens rest (4 * v) v C.clear (omega arith) a b in
      let y = split-zeros rest stops rest' (4 * v - v) v x.1 (omega arith) d e in
      let z = split-zeros rest' sums waiters (4 * v - v - v) v y.1 (omega arith) f g in
      let n : (l : List ℕ) → l ≡ replicate v 0 → length l ≡ length R.keys = λ l k. ap length k ∙ length-replicate v 0 ∙ sym C.keys in
      record {
        state = record {
          tokens = C.tokens;
          few = omega (arith, C.keys, C.few);
          lens_long = n lens x.0;
          stops_long = n stops y.0;
          sums_long = n sums z.0;
          resumes = λ i h.
              rw (y.0, z.0, get_or-replicate {A = ℕ} v i 0 0 (omega (arith, C.keys)), rule-rest R i h)
              record { same = λ m x. refl; fits = omega arith };
        };
        waiters_long = omega (arith, ap length z.1, length-replicate {A = ℕ} (4 * v - v - v - v) 0, C.keys);
        none = rw (x.0, C.keys);
        blocks = rw C.keys record { some = omega arith; wide = omega arith; narrow = omega (arith, C.few) };
      }

-- after `passes` passes: what is left comes to the whole
pub record Resolving (R : Reads) (lens : List ℕ) (passes : ℕ) : Type 0 where
  pub bound : passes + zeros lens ≤ length R.keys
  pub rest : passes_lens (suc (length R.keys - passes)) (rules_of R) lens ≡ resolve_lens (rules_of R)
  pub so_far : passes + count_lens (suc (length R.keys - passes)) (rules_of R) lens ≡ pass_count (rules_of R)

run-resolving : (R : Reads) (w : ℕ) (lens stops sums waiters : List ℕ) → Ready R w lens stops sums waiters → Resolving R lens 0
unfolding resolve_lens pass_count
run-resolving R w lens stops sums waiters F =
    let l = rules-count R in
    record {
      bound = rw (F.none, zeros-replicate (length R.keys)) (omega arith);
      rest = rw (F.none, l, sub-zero) refl;
      so_far = rw (F.none, l, sub-zero) (zero-add (count_lens (suc (length R.keys)) (rules_of R) (replicate (length R.keys) 0)));
    }

-- with the blocks that are due
pub record Running (R : Reads) (w : ℕ) (lens stops sums waiters : List ℕ) (passes due : ℕ) : Type 0 where
  pub resolving : Resolving R lens passes
  pub turning : Turning R w due lens stops sums waiters

pub run-start : (R : Reads) (w : ℕ) (lens stops sums waiters : List ℕ) → Ready R w lens stops sums waiters → Running R w lens stops sums waiters 0 4294967295
run-start R w lens stops sums waiters F =
    record {
      resolving = run-resolving R w lens stops sums waiters F;
      turning = record {
        state = F.state;
        waiters_long = F.waiters_long;
        blocks = F.blocks;
        covers = record { at = λ t b h m o. absurd (false-true o (all-bits b (block-bit b w (length R.keys) (b * w) refl F.blocks.wide (omega (arith, m.0))))) };
      };
    }

module _ {R : Reads} {w : ℕ} {lens stops sums waiters : List ℕ} {passes due : ℕ} (Q : Running R w lens stops sums waiters passes due) where
  G : Resolving R lens passes
  G = Q.resolving

  module _ (lens' stops' sums' waiters' : List ℕ) where
    pub run-over : (e : TooLarge) → State R lens' stops' sums' × Passes R w lens lens' stops' waiters' (Err e) → Runs R lens' (Err (Variable.TooLarge e.0)) (passes + 1)
    unfolding passes_lens count_lens
    run-over e a = record { is_answer = rw (a.1, passes_lens) at G.rest; is_count = rw (a.1, count_lens) at G.so_far }

    pub run_more : length waiters' ≡ length waiters → (m : Blocks) → State R lens' stops' sums' × Passes R w lens lens' stops' waiters' (Ok (Some m))
        → Running R w lens' stops' sums' waiters' (passes + 1) m.0
    unfolding passes_lens count_lens
    run_more l m a =
        let k : length R.keys - passes ≡ suc (length R.keys - (passes + 1)) = omega (arith, G.bound, a.1.0) in
        record {
          resolving = record {
            bound = omega (arith, G.bound, a.1.0);
            rest = ap (λ (x : ℕ). passes_lens x (rules_of R) lens') (sym k) ∙ (rw (a.1.1, passes_lens) at G.rest);
            so_far = ap (λ (x : ℕ). passes + 1 + count_lens x (rules_of R) lens') (sym k) ∙ omega (arith, rw (a.1.1, count_lens) at G.so_far);
          };
          turning = record { state = a.0; waiters_long = l ∙ Q.turning.waiters_long; blocks = Q.turning.blocks; covers = a.1.2 };
        }

    pub run_end : State R lens' stops' sums' × Passes R w lens lens' stops' waiters' (Ok None) → (r : Settled) → said R.tokens lens' r ≡ left_lens 0 (rules_of R) lens' → Runs R lens' r (passes + 1)
    unfolding passes_lens count_lens
    run_end a r e = record { is_answer = e ∙ (rw (a.1.1, passes_lens) at G.rest); is_count = rw (a.1.1, count_lens) at G.so_far }

kept-few : (r : Settled) (v : ℕ) → kept_of r v ≤ v
kept-few (Ok u) v = omega arith
kept-few (Err e) v = omega arith

-- the columns at the end, of which k entries stay: the lengths, where all variables have values, else none
module _ (ts : List Token) (v k : ℕ) (cells : List ℕ) (l : length cells ≡ 4 * v) where
  abbrev ended : List ℕ
  ended = take k cells ++ replicate (4 * v - k) 0

  ended-columns : (r : Settled) → k ≡ kept_of r v → ended ≡ columns v (said ts (take v cells) r)
  unfolding columns
  ended-columns (Ok u) e = let z : length (take v cells) ≡ v = length-take-le v cells (omega arith) in rw (e, z)
  ended-columns (Err (Variable.TooLarge i)) e = rw (e, sub-zero)
  ended-columns (Err (Variable.Lacks i j)) e = rw (e, sub-zero)

  ended-said : (r : Settled) → k ≡ kept_of r v → said ts (take v ended) r ≡ said ts (take v cells) r
  ended-said (Ok u) e =
      let z : length (take v cells) ≡ v = length-take-le v cells (omega arith) in
      ap Settles.settled (rw e (take_at (take v cells) (replicate (4 * v - v) 0) v z))
  ended-said (Err (Variable.TooLarge i)) e = refl
  ended-said (Err (Variable.Lacks i j)) e = refl

  ended-puts : k ≤ v → puts cells k (replicate (4 * v - k) 0) ≡ ended
  ended-puts h =
      let z = length-replicate {A = ℕ} (4 * v - k) 0 in
      let n : length cells ≤ k + length (replicate {A = ℕ} (4 * v - k) 0) = omega arith in
      puts-eq cells k (replicate (4 * v - k) 0) (omega arith) ∙ rw (drop_of_length-le cells n) (append-nil ended)

-- over the map
module _ {n count v : ℕ} {map cells₀ : List ℕ} (M : Mapped n count v map cells₀) (pool : List ℕ) (R : Reads) (t : R.tokens ≡ decode count map pool) (r : R.ranks ≡ ranks_of n map)
    (k : R.keys ≡ keys_of n v map) (b : R.starts ≡ starts_of n map) (e : R.ends ≡ ends_of n map) where
  rules-are : rules_of R ≡ rules_in n count v map pool
  unfolding rules_of rules_in
  rules-are = rw (t, r, k, b, e) refl

  pub map-clear : (cells : List ℕ) → cells ≡ puts cells₀ 0 (replicate (4 * v) 0) → Clear R v cells
  map-clear cells q =
      let z = length-replicate {A = ℕ} (4 * v) 0 in
      let x : length cells₀ ≤ 0 + length (replicate {A = ℕ} (4 * v) 0) = omega (arith, M.room) in
      record {
        tokens = omega (arith, ap length t, length-decode count map pool, M.tokens, M.small);
        few = omega (arith, M.few, M.small);
        keys = ap length k ∙ length-take-le v (drop (4 * n) map) (omega (arith, length-drop (4 * n) map, M.long, M.few));
        clear = q ∙ puts-eq cells₀ 0 (replicate (4 * v) 0) (omega (arith, M.room)) ∙ rw (drop_of_length-le cells₀ x) (append-nil (replicate (4 * v) 0));
      }

  pub map-resolved : (cells : List ℕ) → length cells ≡ length cells₀ → (s : Settled) (passes : ℕ) → Runs R (take v cells) s passes → (j : ℕ) → j ≡ kept_of s v
      → (cells' : List ℕ) → cells' ≡ puts cells j (replicate (4 * v - j) 0) → Resolved n count v pool map cells' s passes
  map-resolved cells l s passes A j q cells' x =
      let y : cells' ≡ ended (decode count map pool) v j cells (l ∙ M.room) = x ∙ ended-puts (decode count map pool) v j cells (l ∙ M.room) (omega (arith, kept-few s v)) in
      let z : said (decode count map pool) (take v cells) s ≡ resolve_lens (rules_in n count v map pool) = ap (λ (ts : List Token). said ts (take v cells) s) (sym t) ∙ A.is_answer ∙ ap resolve_lens rules-are in
      record {
        is_answer = rw y (ended-said (decode count map pool) v j cells (l ∙ M.room) s q ∙ z);
        is_count = A.is_count ∙ ap pass_count rules-are;
        is_columns = y ∙ ended-columns (decode count map pool) v j cells (l ∙ M.room) s q ∙ ap (columns v) z;
      }

-- in the whole workspace
pub resolves : {n count v : ℕ} {pool ws : List ℕ} → Room n count v ws → (map rest cells beyond cells' ws' : List ℕ) → map ≡ take (8 * n) ws → rest ≡ drop (8 * n) ws → cells ≡ take (4 * v) rest → beyond ≡ drop (4 * v) rest
    → length cells' ≡ length cells → ws' ≡ map ++ (cells' ++ beyond) → (s : Settled) (passes : ℕ) → Resolved n count v pool map cells' s passes → Resolves n count v pool ws ws' s passes
resolves {n} {count} {v} {pool} {ws} M map rest cells beyond cells' ws' em er ec eb l e s passes A =
    let f : v ≤ n = omega (arith, M.few, M.tokens) in
    let lr : length rest ≡ length ws - 8 * n = ap length er ∙ length-drop (8 * n) ws in
    let lm : length map ≡ 8 * n = ap length em ∙ length-take-le (8 * n) ws (omega (arith, M.room)) in
    let lc : length cells' ≡ 4 * v = l ∙ ap length ec ∙ length-take-le (4 * v) rest (omega (arith, M.room)) in
    let b : beyond ≡ drop (8 * n + length cells') ws = eb ∙ ap (drop (4 * v)) er ∙ drop-drop (4 * v) (8 * n) ws ∙ ap (λ (k : ℕ). drop (8 * n + k) ws) (sym lc) in
    let w : ws' ≡ puts ws (8 * n) cells' =
    e ∙ ap₂ (λ (p q : List ℕ). p ++ (cells' ++ q)) em b ∙ sym (append_assoc (take (8 * n) ws) cells' (drop (8 * n + length cells') ws)) ∙ sym (puts-eq ws (8 * n) cells' (omega (arith, M.room))) in
    let lo : take (8 * n) map ≡ take (8 * n) ws = ap (take (8 * n)) em ∙ take-take (8 * n) (8 * n) ws (omega arith) in
    let lo' : take (8 * n) ws' ≡ take (8 * n) map = ap (take (8 * n)) w ∙ take-puts (8 * n) ws (8 * n) cells' (omega arith) ∙ sym lo in
    let d : decode count ws' pool ≡ decode count map pool = decode-low (8 * n) map ws' lo' count pool (omega (arith, M.tokens)) in
    let u : rules_in n count v map pool ≡ rules_in n count v ws pool = rules-low n count v ws map pool M.tokens f lo in
    let g : lengths_of n v ws' ≡ take v cells' =
    ap (λ (x : List ℕ). take v (drop (8 * n) x)) e ∙ ap (take v) (drop_at map (cells' ++ beyond) (8 * n) lm) ∙ take-append-le v cells' beyond (omega arith) in
    record {
      is_answer = ap₂ (λ (ts : List Token) (x : List ℕ). said ts x s) d g ∙ A.is_answer ∙ ap resolve_lens u;
      is_count = A.is_count ∙ ap pass_count u;
      is_workspace = w ∙ ap (puts ws (8 * n)) (A.is_columns ∙ ap (λ (x : List (List Piece)). columns v (resolve_lens x)) u);
    }
