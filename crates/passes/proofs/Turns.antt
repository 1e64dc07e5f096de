-- A variable's turn in a pass, and the smallest name left. Assumes nothing.
use Prim.Native.Nat.{ℕ, zero, suc, ◌+◌, ◌≤◌, ◌<◌}
use mathlib.Core.Path.{◌≡◌, refl, sym, ◌∙◌, ap}
use mathlib.Core.Bool.{Bool, true, false}
use mathlib.Core.List.{List, [], ◌∷◌}
use native.Mathlib.Numerals.{add-one}
use native.Mathlib.Omega.{arith}
use lib.Dec.{ltb}
use lib.ListN.{length, get_or, drop, set, replicate, drop_of_length-le, length-map}
use lib.Seq.{drop-cons}
use Rattle.std.proofs.lemmas.Bool.{eqb-true, eq-eqb}
use Rattle.std.specs.Prelude.{Option, None, Some, Result, Ok, Err, eqb}
use Rattle.std.specs.List.{position, position_or_len}
use Rattle.std.proofs.lemmas.List.Sums.{fails_before_first}
use borrow.Author.Tests.{lt-ltb}
use native.Mathlib.Decide.{dec_lt}
use Rattle.rules.proofs.BytesLaws.{false-true}
use Rattle.std.proofs.lemmas.List.Quantifiers.{position-Some}
use Rattle.rules.specs.Tokens.{Token}
use Rattle.rules.specs.Variables.{Piece, text, ref, limit}
use Rattle.rules.proofs.Lengths.{Sum, bounded_sum, add, add-missing, add-more, lens-valued, lens-over, lens-missing, lens-sum, Settles, lacking_lens, left_lens}
use Rattle.tokens.specs.Entries.{token_at}
use Rattle.workspace.specs.Map.{rule_at}
use Rattle.passes.specs.Visits.{Reads, rules_of, rule, advance_in, State, Visits, zeros, Steps, Lacking, Stuck, said}
use Rattle.passes.proofs.States.{lacks-token}
use Rattle.passes.specs.declared.sums.Stop.TheVariants.{Missing}
use Rattle.passes.specs.declared.visits.TooLarge.{TooLarge}
use Rattle.passes.specs.declared.visits.Visited.{Visited}
use Rattle.passes.specs.declared.visits.Visited.TheVariants.{Known, Blocked, Valued}
use Rattle.passes.specs.declared.visits.Unresolved.TheVariants.{Lacks}

pub zeros-set : (l : List ℕ) (i t : ℕ) → i < length l → get_or l i 0 ≡ 0 → zeros (set l i (suc t)) < zeros l
unfolding zeros
zeros-set [] i t h z = absurd (omega arith)
zeros-set (zero ∷ l) zero t h z = omega arith
zeros-set (suc k ∷ l) zero t h z = absurd (omega arith)
zeros-set (zero ∷ l) (suc i) t h z = omega (arith, zeros-set l i t (omega arith) z)
zeros-set (suc k ∷ l) (suc i) t h z = zeros-set l i t (omega arith) z

pub zeros-replicate : (n : ℕ) → zeros (replicate n 0) ≡ n
unfolding zeros
zeros-replicate zero = refl
zeros-replicate (suc n) = ap suc (zeros-replicate n)

nonzero : (x : ℕ) → (x ≡ 0 → ⊥) → (k : ℕ) × (x ≡ suc k)
nonzero zero z = absurd (z refl)
nonzero (suc k) z = (k, refl)

module _ (R : Reads) where
  pub rules-count : length (rules_of R) ≡ length R.keys
  unfolding rules_of
  rules-count = length-map R.keys (rule_at R.tokens R.ranks R.starts R.ends)

  pub rule-next : (i : ℕ) → i < length R.keys → drop i (rules_of R) ≡ rule R i ∷ drop (suc i) (rules_of R)
  rule-next i h = drop-cons (rules_of R) i [] (omega (arith, rules-count))

  pub rules-past : (i : ℕ) → length R.keys ≤ i → drop i (rules_of R) ≡ []
  rules-past i h = let q : length (rules_of R) ≤ i = omega (arith, rules-count) in drop_of_length-le (rules_of R) q

-- a turn; x is the entry of the variable's length
module _ {R : Reads} {lens stops sums : List ℕ} (S : State R lens stops sums) (i : ℕ) (h : i < length R.keys) (x : ℕ) (e : x ≡ get_or lens i 0) where
  pub step-valued : (x ≡ 0 → ⊥) → State R lens stops sums × Steps R lens stops sums lens stops sums i (Ok Known)
  step-valued z =
      let y = nonzero x z in
      (S, (refl, refl, refl, λ q. z (e ∙ q), λ f. rw (rule-next R i h, add-one) (lens-valued i (rule R i) (drop (suc i) (rules_of R)) f lens y.0 (sym e ∙ y.1))))

  pub step-visited : x ≡ 0 → (lens' stops' sums' : List ℕ) (r : Result Visited TooLarge) → State R lens' stops' sums' × Visits R lens stops lens' stops' i r
      → State R lens' stops' sums' × Steps R lens stops sums lens' stops' sums' i r
  step-visited z lens' stops' sums' (Err k) a =
      (a.0, (a.1.0, λ f. rw (rule-next R i h) (lens-over i (rule R i) (drop (suc i) (rules_of R)) f lens (sym e ∙ z) a.1.1)))
  step-visited z lens' stops' sums' (Ok Known) a = absurd a.1
  step-visited z lens' stops' sums' (Ok (Blocked k)) a = (
    a.0,
    (
      a.1.0,
      a.1.1,
      a.1.2,
      a.1.3,
      λ f. rw (rule-next R i h, add-one) (lens-missing i (rule R i) (drop (suc i) (rules_of R)) f lens (token_at R.tokens k) (sym e ∙ z) a.1.4),
    ),
  )
  step-visited z lens' stops' sums' (Ok Valued) a = (
    a.0,
    (
      a.1.0,
      rw a.1.2 (zeros-set lens i a.1.0 (omega (arith, S.lens_long)) (sym e ∙ z)),
      a.1.2,
      a.1.3,
      λ f. rw (rule-next R i h, add-one, a.1.2) (lens-sum i (rule R i) (drop (suc i) (rules_of R)) f lens a.1.0 (sym e ∙ z) a.1.1),
    ),
  )

-- what is missing is what the rules say is lacking
bounded-missing : (n : ℕ) (x : Sum) (m : Token) → bounded_sum n x ≡ Sum.missing m → x ≡ Sum.missing m
unfolding bounded_sum
bounded-missing n x m e = go (ltb limit n) refl
  where
    go : (b : Bool) → ltb limit n ≡ b → x ≡ Sum.missing m
    go true q = let y : Sum.over ≡ Sum.missing m = rw (q, bounded_sum) at e in absurd (let z : ◌≡◌ {A = ℕ} 0 1 = cc in omega arith)
    go false q = rw (q, bounded_sum) at e

lacking-is : (lens : List ℕ) (ps : List Piece) (n : ℕ) (m : Token) → add lens n ps ≡ Sum.missing m → lacking_lens lens ps ≡ m
unfolding add lacking_lens
lacking-is lens [] n m e = absurd (let z : ◌≡◌ {A = ℕ} 0 1 = cc in omega arith)
lacking-is lens (text s ∷ ps) n m e = lacking-is lens ps (n + length s) m (bounded-missing (n + length s) (add lens (n + length s) ps) m e)
lacking-is lens (ref r j ∷ ps) n m e = go (get_or lens j 0) refl (λ k q. lacking-is lens ps (n + k) m q)
  where
    go : (x : ℕ) → get_or lens j 0 ≡ x → ((k : ℕ) → add lens (n + k) ps ≡ Sum.missing m → lacking_lens lens ps ≡ m) → lacking_lens lens (ref r j ∷ ps) ≡ m
    go zero q ih = let y : Sum.missing r ≡ Sum.missing m = sym (add-missing lens n r j ps q) ∙ e in rw (q, lacking_lens) cc
    go (suc k) q ih = rw (q, lacking_lens) (ih k (bounded-missing (n + k) (add lens (n + k) ps) m (sym (add-more lens n r j ps k q) ∙ e)))

-- what `lacking` answers
pub lacking-token : {R : Reads} {lens stops sums : List ℕ} → State R lens stops sums → (i : ℕ) → i < length R.keys → (k t : ℕ) → Err (Missing k t) ≡ advance_in R lens stops sums i
    → lacking_lens lens (rule R i) ≡ token_at R.tokens k
lacking-token {R} {lens} S i h k t e = lacking-is lens (rule R i) 0 (token_at R.tokens k) (lacks-token S i h k t e)

-- where none is 0
none-first : (l : List ℕ) → position (λ x. eqb x 0) l ≡ None → length l ≤ position_or_len (λ x. eqb x 0) l
none-first l e = elim (dec_lt (position_or_len (λ x. eqb x 0) l) (length l)) [
  | yes h ↦ absurd (let y : Some (position_or_len (λ x. eqb x 0) l) ≡ None = rw (lt-ltb (position_or_len (λ x. eqb x 0) l) (length l) h) at e in let z : ◌≡◌ {A = ℕ} 0 1 = cc in omega arith)
  | no h ↦ omega arith
]

-- the smallest name left
module _ {R : Reads} {lens stops sums : List ℕ} (S : State R lens stops sums) where
  -- those before it have values
  left-on : (k : ℕ) → k ≤ length R.keys → ((j : ℕ) → j < k → get_or lens j 0 ≡ 0 → ⊥) → left_lens 0 (rules_of R) lens ≡ left_lens k (drop k (rules_of R)) lens
  unfolding left_lens
  left-on zero h v = refl
  left-on (suc k) h v =
      let x = nonzero (get_or lens k 0) (v k (omega arith)) in
      left-on k (omega arith) (λ j l. v j (omega arith)) ∙ rw (rule-next R k (omega arith), x.1, left_lens) refl

  pub left-none : (r : Option ℕ) → r ≡ position (λ x. eqb x 0) lens → r ≡ None → said R.tokens lens (Ok tt) ≡ left_lens 0 (rules_of R) lens
  unfolding left_lens
  left-none r e q =
      let n : length lens ≤ position_or_len (λ x. eqb x 0) lens = none-first lens (sym e ∙ q) in
      sym (left-on (length R.keys) (omega arith) (λ j l z. false-true (fails_before_first (λ x. eqb x 0) lens j 0 (omega (arith, S.lens_long))) (eq-eqb (get_or lens j 0) 0 z))
      ∙ rw (rules-past R (length R.keys) (omega arith)) refl)

  pub some-lacks : (r : Option ℕ) → r ≡ position (λ x. eqb x 0) lens → (i : ℕ) → r ≡ Some i → Stuck R lens → State R lens stops sums × (i < length R.keys) × Lacking R lens i
  some-lacks r e i q u =
      let f = position-Some (λ x. eqb x 0) lens i 0 (sym e ∙ q) in
      let h : i < length R.keys = omega (arith, f.0, S.lens_long) in
      let x = u i h (eqb-true (get_or lens i 0) 0 f.1) in
      (S, h, record { token = x.0; is = x.1 })

  pub left-some : (r : Option ℕ) → r ≡ position (λ x. eqb x 0) lens → (i k : ℕ) → r ≡ Some i → lacking_lens lens (rule R i) ≡ token_at R.tokens k
      → said R.tokens lens (Err (Lacks i k)) ≡ left_lens 0 (rules_of R) lens
  unfolding left_lens
  left-some r e i k q l =
      let f = position-Some (λ x. eqb x 0) lens i 0 (sym e ∙ q) in
      let z = eqb-true (get_or lens i 0) 0 f.1 in
      let y : Settles.lacks i (lacking_lens lens (rule R i)) ≡ left_lens i (drop i (rules_of R)) lens = rw (rule-next R i (omega (arith, f.0, S.lens_long)), z, left_lens) refl in
      ap (λ (m : Token). Settles.lacks i m) (sym l) ∙ y
      ∙ sym (left-on i (omega (arith, f.0, S.lens_long)) (λ j h v. false-true (f.2 j h) (eq-eqb (get_or lens j 0) 0 v)))
