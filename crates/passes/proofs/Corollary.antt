-- What the answer of `resolve_variables` says by the rules, and so demand 3 of it. Assumes nothing.
use Prim.Native.Nat.{ℕ, ◌*◌, ◌-◌}
use mathlib.Core.Path.{◌≡◌, refl, sym, ◌∙◌, ap}
use mathlib.Core.Logic.{◌↔◌}
use mathlib.Core.List.{List, []}
use native.Mathlib.Omega.{arith}
use lib.ListN.{length, replicate, length-append, length-replicate, drop, length-take}
use Rattle.rules.specs.Tokens.{Token}
use Rattle.rules.specs.Numbers.{in_variable, undefined_variable, content_too_large, Result, refused, ok}
use Rattle.rules.specs.Lines.{Assignment}
use Rattle.rules.specs.Variables.{Found, Resolved, too_large_at, lacks, resolved, rules_of, resolve, key_at, resolve_variables}
use Rattle.rules.specs.Demand3.{TooLarge, Numbered, Lacks, Demand3}
use Rattle.rules.proofs.Lengths.{entries, settles_of, resolve_lens, resolve-lens}
use Rattle.rules.proofs.TableLaws.{Sorted}
use Rattle.rules.proofs.Demand3Laws.{resolve-exactly, values-are, cycle, leads-assigned, too-large-exactly, lacks-exactly}
use Rattle.scan.proofs.Stores.{length-puts}
use Rattle.tokens.specs.Entries.{decode, token_at}
use Rattle.workspace.specs.Map.{variables_in, lengths_of, rules_in, Looked, Room}
use Rattle.workspace.proofs.Frames.{Kept, kept-puts, tokens-kept}
use Rattle.workspace.proofs.Links.{rules-looked}
use Rattle.std.specs.Prelude.{Ok, Err}
use Rattle.passes.specs.Visits.{Settled, meaning}
use Rattle.passes.specs.Passes.{columns, Resolves}
use Rattle.passes.specs.declared.visits.Unresolved.TheVariants as Unr

-- demand 3 of variables in byte order
pub demand3-sorted : (vs : List Assignment) → Sorted vs → Demand3 vs (resolve_variables vs)
demand3-sorted vs s =
    record {
      resolves = resolve-exactly vs s;
      values = values-are vs s;
      cycles = cycle vs s;
      leading = leads-assigned vs s;
      too_large = too-large-exactly vs s;
      lacking = lacks-exactly vs s;
    }

-- the answer as the rules give it, where vals are the values
abbrev pub result_of : List Assignment → List Token → Found → Settled → Result Found
result_of vs ts vals (Ok u) = ok vals
result_of vs ts vals (Err (Unr.TooLarge i)) = refused (content_too_large (in_variable (key_at vs i)))
result_of vs ts vals (Err (Unr.Lacks i j)) = refused (undefined_variable (token_at ts j) (in_variable (key_at vs i)))

-- what one answer says, where lens are the lengths that it leaves
abbrev pub Says : List Assignment → List Token → List ℕ → Settled → Type 0
Says vs ts lens (Ok u) = (vals : Found) × (resolve_variables vs ≡ ok vals) × (lens ≡ entries vals)
Says vs ts lens (Err (Unr.TooLarge i)) = resolve_variables vs ≡ refused (content_too_large (in_variable (key_at vs i)))
Says vs ts lens (Err (Unr.Lacks i j)) = resolve_variables vs ≡ refused (undefined_variable (token_at ts j) (in_variable (key_at vs i)))

-- Demand 3 of an answer
pub record Demanded (vs : List Assignment) (ts : List Token) (lens : List ℕ) (r : Settled) : Type 0 where
  pub vals : Found
  pub is_answer : result_of vs ts vals r ≡ resolve_variables vs
  pub lengths : r ≡ Ok tt → lens ≡ entries vals
  pub demand3 : Demand3 vs (result_of vs ts vals r)

-- what `resolve_variables` leaves
module _ {n count v : ℕ} {ws : List ℕ} (R : Room n count v ws) {pool ws' : List ℕ} {r : Settled} {passes : ℕ} (A : Resolves n count v pool ws ws' r passes) where
  columns-length : length (columns v (resolve_lens (rules_in n count v ws pool))) ≡ 4 * v
  unfolding columns
  columns-length = rw (← A.is_answer) (go r)
    where
      go : (s : Settled) → length (columns v (meaning n count v ws' pool s)) ≡ 4 * v
      go (Ok u) =
          omega (arith, length-append (lengths_of n v ws') (replicate (4 * v - length (lengths_of n v ws')) 0), length-replicate {A = ℕ} (4 * v - length (lengths_of n v ws')) 0, length-take v (drop (8 * n) ws'), R.few, R.tokens)
      go (Err (Unr.TooLarge i)) = length-replicate (4 * v) 0
      go (Err (Unr.Lacks i j)) = length-replicate (4 * v) 0

  -- all but four columns of v entries from 8n on is as it was, so all outside 8n up to 12n
  pub resolve-keeps : Kept n ws ws'
  resolve-keeps = rw A.is_workspace (kept-puts n ws (8 * n) (columns v (resolve_lens (rules_in n count v ws pool))) (omega arith) (omega (arith, columns-length)))

  pub resolve-long : length ws' ≡ length ws
  resolve-long = ap length A.is_workspace ∙ length-puts ws (8 * n) (columns v (resolve_lens (rules_in n count v ws pool)))

  -- by its variables, in byte order and looked up
  module _ (looked : Looked n count ws pool (variables_in n count v ws pool)) where
    answer-is : meaning n count v ws' pool r ≡ settles_of (resolve (rules_of (variables_in n count v ws pool) (variables_in n count v ws pool)))
    answer-is =
        A.is_answer ∙ ap resolve_lens (rules-looked n count ws pool (variables_in n count v ws pool) looked v)
        ∙ resolve-lens (rules_of (variables_in n count v ws pool) (variables_in n count v ws pool))

    says-by : (s : Settled) (x : Resolved) → meaning n count v ws' pool s ≡ settles_of x → resolve (rules_of (variables_in n count v ws pool) (variables_in n count v ws pool)) ≡ x
        → Says (variables_in n count v ws pool) (decode count ws' pool) (lengths_of n v ws') s
    unfolding settles_of resolve_variables
    says-by (Ok u) (resolved vals) m q = (vals, rw (q, resolve_variables) refl, cc)
    says-by (Ok u) (too_large_at i) m q = let z : ◌≡◌ {A = ℕ} 0 1 = cc in absurd (omega arith)
    says-by (Ok u) (lacks i t) m q = let z : ◌≡◌ {A = ℕ} 0 1 = cc in absurd (omega arith)
    says-by (Err (Unr.TooLarge i)) (resolved vals) m q = let z : ◌≡◌ {A = ℕ} 0 1 = cc in absurd (omega arith)
    says-by (Err (Unr.TooLarge i)) (too_large_at k) m q = let p : i ≡ k = cc in rw (q, resolve_variables, p) refl
    says-by (Err (Unr.TooLarge i)) (lacks k t) m q = let z : ◌≡◌ {A = ℕ} 0 1 = cc in absurd (omega arith)
    says-by (Err (Unr.Lacks i j)) (resolved vals) m q = let z : ◌≡◌ {A = ℕ} 0 1 = cc in absurd (omega arith)
    says-by (Err (Unr.Lacks i j)) (too_large_at k) m q = let z : ◌≡◌ {A = ℕ} 0 1 = cc in absurd (omega arith)
    says-by (Err (Unr.Lacks i j)) (lacks k t) m q =
        let p : i ≡ k = cc in
        let p' : token_at (decode count ws' pool) j ≡ t = cc in
        rw (q, resolve_variables, p, p') refl

    -- THE LAW of the answer
    pub resolve-says : Says (variables_in n count v ws pool) (decode count ws pool) (lengths_of n v ws') r
    resolve-says =
        rw (← tokens-kept n count v ws ws' pool R.tokens (omega (arith, R.few, R.tokens)) resolve-keeps)
        (says-by r (resolve (rules_of (variables_in n count v ws pool) (variables_in n count v ws pool))) answer-is refl)

    module _ (sorted : Sorted (variables_in n count v ws pool)) where
      -- THE THEOREM: demand 3 of the answer
      pub resolve-demand3 : Demanded (variables_in n count v ws pool) (decode count ws pool) (lengths_of n v ws') r
      resolve-demand3 = go r resolve-says
        where
          go : (s : Settled) → Says (variables_in n count v ws pool) (decode count ws pool) (lengths_of n v ws') s
              → Demanded (variables_in n count v ws pool) (decode count ws pool) (lengths_of n v ws') s
          go (Ok u) a =
              record { vals = a.0; is_answer = sym a.1; lengths = λ e. a.2; demand3 = rw (← a.1) (demand3-sorted (variables_in n count v ws pool) sorted) }
          go (Err (Unr.TooLarge i)) a =
              record { vals = []; is_answer = sym a; lengths = λ e. let z : ◌≡◌ {A = ℕ} 0 1 = cc in absurd (omega arith); demand3 = rw (← a) (demand3-sorted (variables_in n count v ws pool) sorted) }
          go (Err (Unr.Lacks i j)) a =
              record { vals = []; is_answer = sym a; lengths = λ e. let z : ◌≡◌ {A = ℕ} 0 1 = cc in absurd (omega arith); demand3 = rw (← a) (demand3-sorted (variables_in n count v ws pool) sorted) }

      -- the same, by the answer's variants: resolved exactly when nothing is too large and the names can be numbered
      pub resolved-exactly : (r ≡ Ok tt) ↔ ((TooLarge (variables_in n count v ws pool) → ⊥) × ((num : List ℕ → ℕ) × Numbered (variables_in n count v ws pool) num))
      resolved-exactly = (
        λ e. let a = rw e at resolve-says in (demand3-sorted (variables_in n count v ws pool) sorted).resolves.0 (a.0, a.1),
        λ x. let y = (demand3-sorted (variables_in n count v ws pool) sorted).resolves.1 x in go r resolve-says y.0 y.1,
      )
        where
          go : (s : Settled) → Says (variables_in n count v ws pool) (decode count ws pool) (lengths_of n v ws') s → (vals : Found) → resolve_variables (variables_in n count v ws pool) ≡ ok vals → s ≡ Ok tt
          go (Ok u) a vals e = refl
          go (Err (Unr.TooLarge i)) a vals e = let z : ◌≡◌ {A = ℕ} 0 1 = cc in absurd (omega arith)
          go (Err (Unr.Lacks i j)) a vals e = let z : ◌≡◌ {A = ℕ} 0 1 = cc in absurd (omega arith)

      -- too large exactly when some name's value, up to its first reference without a value, is
      pub too_large : ((i : ℕ) × (r ≡ Err (Unr.TooLarge i))) ↔ TooLarge (variables_in n count v ws pool)
      too_large = (
        λ x. let a = rw x.1 at resolve-says in (demand3-sorted (variables_in n count v ws pool) sorted).too_large.0 (key_at (variables_in n count v ws pool) x.0, a),
        λ x. let y = (demand3-sorted (variables_in n count v ws pool) sorted).too_large.1 x in go r resolve-says y.0 y.1,
      )
        where
          go : (s : Settled) → Says (variables_in n count v ws pool) (decode count ws pool) (lengths_of n v ws') s
              → (k : Token) → resolve_variables (variables_in n count v ws pool) ≡ refused (content_too_large (in_variable k)) → (i : ℕ) × (s ≡ Err (Unr.TooLarge i))
          go (Ok u) a k e = let z : ◌≡◌ {A = ℕ} 0 1 = cc a.1 in absurd (omega arith)
          go (Err (Unr.TooLarge i)) a k e = (i, refl)
          go (Err (Unr.Lacks i j)) a k e = let z : ◌≡◌ {A = ℕ} 0 1 = cc in absurd (omega arith)

      -- else the smallest name without a value, with its first reference that has none
      pub lacks-first : (i j : ℕ) → r ≡ Err (Unr.Lacks i j)
          → (TooLarge (variables_in n count v ws pool) → ⊥)
          × ((a : Assignment) × (a.key ≡ key_at (variables_in n count v ws pool) i) × Lacks (variables_in n count v ws pool) a (token_at (decode count ws pool) j))
      lacks-first i j e =
          let a = rw e at resolve-says in
          ((demand3-sorted (variables_in n count v ws pool) sorted).lacking (token_at (decode count ws pool) j) (key_at (variables_in n count v ws pool) i)).0 a
