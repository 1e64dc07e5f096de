-- What a visit leaves. Assumes nothing.
use Prim.Native.Nat.{ℕ, zero, suc, ◌+◌, ◌-◌, ◌≤◌, ◌<◌}
use mathlib.Core.Path.{◌≡◌, refl, sym, ◌∙◌, ap}
use mathlib.Core.List.{List, [], ◌∷◌, map}
use native.Mathlib.Numerals.{add-one}
use native.Mathlib.Decide.{dec_lt}
use native.Mathlib.Omega.{arith}
use lib.ListN.{length, get_or, set, length-set}
use lib.Seq.{get_or-set_other, get_or-set_same}
use Rattle.std.specs.Prelude.{Option, None, Some, SomeIff, Ok, Err}
use Rattle.std.specs.Option.{unwrap_or}
use Rattle.rules.specs.Variables.{Piece}
use Rattle.rules.proofs.Lengths.{Sum, add}
use Rattle.tokens.specs.Entries.{token_at}
use Rattle.workspace.specs.Map.{rule_at}
use Rattle.passes.specs.Sums.{top, Advance, advance, Extends}
use Rattle.passes.specs.declared.visits.Progress.{Progress}
use Rattle.passes.specs.Visits.{Reads, SameColumns, rules_of, rule, resume_at, start_at, end_at, rest_of, size_at, advance_in, Resumes, State, Visits, Lacking}
use Rattle.passes.proofs.Advances.{Advances, advances, extends_refl, extends-then}
use Rattle.passes.specs.declared.sums.Stop.{Stop}
use Rattle.passes.specs.declared.sums.Stop.TheVariants.{Over, Missing}
use Rattle.passes.specs.declared.visits.Visited.TheVariants.{Blocked, Valued}

pub dec-eq : (j i : ℕ) → Dec (j ≡ i)
dec-eq j i = go (dec_lt j i) (dec_lt i j)
  where
    go : Dec (j < i) → Dec (i < j) → Dec (j ≡ i)
    go (yes a) b = no (λ e. omega arith)
    go (no a) (yes b) = no (λ e. omega arith)
    go (no a) (no b) = yes (omega arith)

-- what lends the same memory, in turn
pub same-then : (p q r : Progress) → SameColumns p q → SameColumns q r → SameColumns p r
same-then p q r a b = (b.0 ∙ a.0, b.1 ∙ a.1, b.2 ∙ a.2, b.3 ∙ a.3)

map_at : (f : ℕ → List Piece) (ks : List ℕ) (i : ℕ) → i < length ks → get_or (map f ks) i [] ≡ f (get_or ks i 0)
map_at f [] i h = absurd (omega arith)
map_at f (k ∷ ks) zero h = refl
map_at f (k ∷ ks) (suc i) h = map_at f ks i (omega arith)

-- a variable's pieces are those from its first token on
pub rule-rest : (R : Reads) (i : ℕ) → i < length R.keys → rule R i ≡ rest_of R i 0
unfolding rules_of rest_of resume_at
rule-rest R i h = map_at (rule_at R.tokens R.ranks R.starts R.ends) R.keys i h

-- what a sum tells where it stops
pub told : (r : Advance) (s t : Stop) (a : Advance) → r ≡ Err s → s ≡ t → r ≡ a → Err t ≡ a
told r s t a p q e = ap (λ (x : Stop). Err x) (sym q) ∙ sym p ∙ e

-- where a visit goes on, as it is read
resumed : (start stop from : ℕ) (o : Option ℕ) → SomeIff o (1 ≤ stop) (stop - 1) → from ≡ unwrap_or o start → from ≡ resume_at start stop
unfolding resume_at
resumed start zero from (Some x) h e = absurd (omega (arith, h.0))
resumed start (suc k) from (Some x) h e = e ∙ omega (arith, h.1)
resumed start zero from None h e = e
resumed start (suc k) from None h e = absurd (h (omega arith))

pub goes_on : (R : Reads) (lens stops sums : List ℕ) (i key start stop from to sum : ℕ) (o : Option ℕ) → key ≡ get_or R.keys i 0 → stop ≡ get_or stops i 0 → start ≡ get_or R.starts key 0
    → SomeIff o (1 ≤ stop) (stop - 1) → from ≡ unwrap_or o start → to ≡ get_or R.ends key 0 → sum ≡ get_or sums i 0
    → (r : Advance) → r ≡ advance (size_at R lens) from sum (to - from) → r ≡ advance_in R lens stops sums i
goes_on R lens stops sums i key start stop from to sum o ek es eb x y et eu r e =
    let q : from ≡ resume_at (start_at R i) (get_or stops i 0) = resumed start stop from o x y ∙ rw (eb, es, ek) refl in
    e ∙ rw (q, et, eu, ek) refl

module _ {R : Reads} {lens stops sums : List ℕ} (S : State R lens stops sums) (i : ℕ) (h : i < length R.keys) where
  pub sum_fits : (s : ℕ) → s ≡ get_or sums i 0 → s ≤ top
  sum_fits s e = rw e (S.resumes i h).fits

  abbrev rest : List Piece
  rest = rest_of R i (get_or stops i 0)

  gone : add lens 0 (rule R i) ≡ add lens (get_or sums i 0) rest
  gone = (S.resumes i h).same lens (extends_refl lens)

  -- what going on comes to
  abbrev Gone : Advance → Type 0
  Gone r = Advances R.tokens R.ranks lens (end_at R i) (resume_at (start_at R i) (get_or stops i 0)) (get_or sums i 0) r

  goes : (r : Advance) → r ≡ advance_in R lens stops sums i → Gone r
  goes r e = rw e (advances R.tokens R.ranks lens (end_at R i) (resume_at (start_at R i) (get_or stops i 0)) (get_or sums i 0) (S.resumes i h).fits)

  pub visit-over : Err Over ≡ advance_in R lens stops sums i → State R lens stops sums × Visits R lens stops lens stops i (Err (record { 0 = i }))
  unfolding rest_of
  visit-over e = (S, (refl, gone ∙ goes (Err Over) e))

  module _ (k t : ℕ) (e : Err (Missing k t) ≡ advance_in R lens stops sums i) where
    pub stop-inside : k < 65535
    stop-inside = omega (arith, (goes (Err (Missing k t)) e).0, S.tokens)

    pub stop-fits : t ≤ top
    stop-fits = (goes (Err (Missing k t)) e).1

    pub lacks-token : add lens 0 (rule R i) ≡ Sum.missing (token_at R.tokens k)
    unfolding rest_of
    lacks-token = gone ∙ (goes (Err (Missing k t)) e).3

    here : Resumes lens (rule R i) (rest_of R i (k + 1)) t
    unfolding rest_of resume_at
    here = rw add-one record { same = λ m x. (S.resumes i h).same m x ∙ (goes (Err (Missing k t)) e).2 m x; fits = stop-fits }

    resumes-stop : (j : ℕ) → j < length R.keys → Resumes lens (rule R j) (rest_of R j (get_or (set stops i (k + 1)) j 0)) (get_or (set sums i t) j 0)
    resumes-stop j q = elim (dec-eq j i) [
      | yes p ↦ rw (p, get_or-set_same stops i (k + 1) 0 (omega (arith, S.stops_long)), get_or-set_same sums i t 0 (omega (arith, S.sums_long))) here
      | no p ↦ rw (get_or-set_other stops i j (k + 1) 0 p, get_or-set_other sums i j t 0 p) (S.resumes j q)
    ]

    pub visit-blocked : State R lens (set stops i (k + 1)) (set sums i t) × Visits R lens stops lens (set stops i (k + 1)) i (Ok (Blocked k))
    visit-blocked = (
      record {
        tokens = S.tokens;
        few = S.few;
        lens_long = S.lens_long;
        stops_long = length-set stops i (k + 1) ∙ S.stops_long;
        sums_long = length-set sums i t ∙ S.sums_long;
        resumes = resumes-stop;
      },
      (refl, rw add-one refl, (goes (Err (Missing k t)) e).4, (goes (Err (Missing k t)) e).5, lacks-token),
    )

  module _ (t : ℕ) (e : Ok t ≡ advance_in R lens stops sums i) where
    pub value-fits : t ≤ top
    value-fits = (goes (Ok t) e).0

    module _ (z : get_or lens i 0 ≡ 0) where
      grows : Extends lens (set lens i (t + 1))
      grows j k q = elim (dec-eq j i) [
        | yes p ↦ absurd (let y : get_or lens j 0 ≡ 0 = rw p z in omega arith)
        | no p ↦ get_or-set_other lens i j (t + 1) 0 p ∙ q
      ]

      pub visit-valued : State R (set lens i (t + 1)) stops sums × Visits R lens stops (set lens i (t + 1)) stops i (Ok Valued)
      unfolding rest_of
      visit-valued = (
        record {
          tokens = S.tokens;
          few = S.few;
          lens_long = length-set lens i (t + 1) ∙ S.lens_long;
          stops_long = S.stops_long;
          sums_long = S.sums_long;
          resumes = λ j q. record { same = λ m x. (S.resumes j q).same m (extends-then lens (set lens i (t + 1)) m grows x); fits = (S.resumes j q).fits };
        },
        (t, gone ∙ (goes (Ok t) e).1, rw add-one refl, refl),
      )

  -- a variable that lacks a value
  pub lacks-over : Lacking R lens i → Err Over ≡ advance_in R lens stops sums i → ⊥
  unfolding rest_of
  lacks-over l e = let y : Sum.over ≡ Sum.missing l.token = sym (gone ∙ goes (Err Over) e) ∙ l.is in let z : ◌≡◌ {A = ℕ} 0 1 = cc in omega arith

  pub lacks-sum : Lacking R lens i → (t : ℕ) → Ok t ≡ advance_in R lens stops sums i → ⊥
  unfolding rest_of
  lacks-sum l t e = let y : Sum.sum t ≡ Sum.missing l.token = sym (gone ∙ (goes (Ok t) e).1) ∙ l.is in let z : ◌≡◌ {A = ℕ} 0 1 = cc in omega arith
