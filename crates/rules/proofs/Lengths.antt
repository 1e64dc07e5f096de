-- The passes on lengths alone, as code holds them: 0 for no value, one more than the length for a value. They go as the passes on values. Assumes nothing.
use Prim.Native.Nat.{ℕ, zero, suc, ◌+◌}
use mathlib.Core.Path.{◌≡◌, refl, ap, sym, ◌∙◌}
use mathlib.Core.Bool.{Bool, true, false}
use mathlib.Core.List.{List, [], ◌∷◌, ◌++◌, map}
use mathlib.Core.Option.{Option, none, some}
use lib.ListN.{length, get_or, set, replicate, length-append, get_or-map}
use lib.Dec.{ltb}
use Rattle.rules.specs.Tokens.{Token}
use Rattle.rules.specs.Tokens.{no_name}
use Rattle.rules.proofs.PassesLaws.{pass-valued, pass-over, pass-missing, pass-value}
use Rattle.rules.specs.Variables.{Piece, text, ref, limit, Found, found_at, Expansion, value, bounded, expand, Pass, pass, Resolved, lacking, left, passes, resolve}

-- the entry of a value
unfoldable pub entry : Option (List ℕ) → ℕ
entry none = 0
entry (some v) = suc (length v)

unfoldable pub entries : Found → List ℕ
entries vals = map entry vals

pub data Sum : Type 0 where
  over : Sum
  missing : Token → Sum
  sum : ℕ → Sum

unfoldable pub bounded_sum : ℕ → Sum → Sum
bounded_sum n e = elim (ltb limit n) [ true ↦ Sum.over | false ↦ e ]

unfoldable pub add : List ℕ → ℕ → List Piece → Sum
add lens n [] = sum n
add lens n (text s ∷ ps) = bounded_sum (n + length s) (add lens (n + length s) ps)
add lens n (ref m j ∷ ps) = elim (get_or lens j 0) [ zero ↦ Sum.missing m | suc k ↦ bounded_sum (n + k) (add lens (n + k) ps) ]

pub data Lens : Type 0 where
  stopped : ℕ → Lens
  passed : Bool → List ℕ → Lens

unfoldable pub pass_lens : ℕ → List (List Piece) → Bool → List ℕ → Lens
pass_lens i [] found lens = Lens.passed found lens
pass_lens i (ps ∷ rest) found lens = elim (get_or lens i 0) [
  | suc k ↦ pass_lens (suc i) rest found lens
  | zero ↦ elim (add lens 0 ps) [
    | over ↦ Lens.stopped i
    | missing n ↦ pass_lens (suc i) rest found lens
    | sum n ↦ pass_lens (suc i) rest true (set lens i (suc n))
  ]
]

pub data Settles : Type 0 where
  too_large_at : ℕ → Settles
  lacks : ℕ → Token → Settles
  settled : List ℕ → Settles

unfoldable pub lacking_lens : List ℕ → List Piece → Token
lacking_lens lens [] = no_name
lacking_lens lens (text s ∷ ps) = lacking_lens lens ps
lacking_lens lens (ref n j ∷ ps) = elim (get_or lens j 0) [ zero ↦ n | suc k ↦ lacking_lens lens ps ]

unfoldable pub left_lens : ℕ → List (List Piece) → List ℕ → Settles
left_lens i [] lens = Settles.settled lens
left_lens i (ps ∷ rest) lens = elim (get_or lens i 0) [ suc k ↦ left_lens (suc i) rest lens | zero ↦ Settles.lacks i (lacking_lens lens ps) ]

unfoldable pub passes_lens : ℕ → List (List Piece) → List ℕ → Settles
passes_lens zero rules lens = left_lens 0 rules lens
passes_lens (suc k) rules lens = elim (pass_lens 0 rules false lens) [
  | stopped i ↦ Settles.too_large_at i
  | passed found after ↦ elim found [ true ↦ passes_lens k rules after | false ↦ left_lens 0 rules after ]
]

unfoldable pub resolve_lens : List (List Piece) → Settles
resolve_lens rules = passes_lens (suc (length rules)) rules (replicate (length rules) 0)

-- the laws
unfoldable pub sum_of : Expansion → Sum
sum_of Expansion.large = Sum.over
sum_of (Expansion.missing n) = Sum.missing n
sum_of (value v) = sum (length v)

entry_at : (vals : Found) (j : ℕ) → get_or (entries vals) j 0 ≡ entry (found_at vals j)
unfolding entries entry
entry_at vals j = get_or-map entry vals j none

bounded-sum : (v : List ℕ) (e : Expansion) (n : ℕ) (s : Sum) → n ≡ length v → s ≡ sum_of e → bounded_sum n s ≡ sum_of (bounded v e)
unfolding bounded_sum bounded sum_of
bounded-sum v e n s p q = rw (p, q) (go (ltb limit (length v)) refl)
  where
    go : (b : Bool) → ltb limit (length v) ≡ b → bounded_sum (length v) (sum_of e) ≡ sum_of (bounded v e)
    go true h = rw (h, bounded_sum, bounded)
    go false h = rw (h, bounded_sum, bounded)

-- a reference, as laws
pub add-missing : (lens : List ℕ) (n : ℕ) (m : Token) (j : ℕ) (ps : List Piece) → get_or lens j 0 ≡ 0 → add lens n (ref m j ∷ ps) ≡ Sum.missing m
unfolding add
add-missing lens n m j ps q = rw (q, add)

pub add-more : (lens : List ℕ) (n : ℕ) (m : Token) (j : ℕ) (ps : List Piece) (k : ℕ) → get_or lens j 0 ≡ suc k → add lens n (ref m j ∷ ps) ≡ bounded_sum (n + k) (add lens (n + k) ps)
unfolding add
add-more lens n m j ps k q = rw (q, add)

pub add_is : (vals : Found) (v : List ℕ) (ps : List Piece) → add (entries vals) (length v) ps ≡ sum_of (expand vals v ps)
unfolding add expand sum_of entry
add_is vals v [] = refl
add_is vals v (text s ∷ ps) =
    bounded-sum (v ++ s) (expand vals (v ++ s) ps) (length v + length s) _ (sym (length-append v s)) (rw (← length-append v s) (add_is vals (v ++ s) ps))
add_is vals v (ref n j ∷ ps) = go (found_at vals j) refl (λ w. add_is vals w ps)
  where
    go : (o : Option (List ℕ)) → found_at vals j ≡ o → ((w : List ℕ) → add (entries vals) (length w) ps ≡ sum_of (expand vals w ps))
        → add (entries vals) (length v) (ref n j ∷ ps) ≡ sum_of (expand vals v (ref n j ∷ ps))
    go none q ih = rw (add-missing (entries vals) (length v) n j ps (entry_at vals j ∙ ap entry q)) (rw (q, expand) refl)
    go (some u) q ih =
        rw (add-more (entries vals) (length v) n j ps (length u) (entry_at vals j ∙ ap entry q))
        (rw (q, expand) (bounded-sum (v ++ u) (expand vals (v ++ u) ps) (length v + length u) (add (entries vals) (length v + length u) ps) (sym (length-append v u)) (rw (← length-append v u) (ih (v ++ u)))))

unfoldable pub lens_of : Pass → Lens
lens_of (Pass.stopped i) = Lens.stopped i
lens_of (Pass.passed found vals) = Lens.passed found (entries vals)

entries-set : (vals : Found) (i : ℕ) (v : List ℕ) → entries (set vals i (some v)) ≡ set (entries vals) i (suc (length v))
unfolding entries entry
entries-set [] i v = refl
entries-set (o ∷ vals) zero v = refl
entries-set (o ∷ vals) (suc i) v = ap {B = List ℕ} (λ l. entry o ∷ l) (entries-set vals i v)

-- a visit, as laws
pub lens-valued : (i : ℕ) (ps : List Piece) (rest : List (List Piece)) (f : Bool) (lens : List ℕ) (k : ℕ)
    → get_or lens i 0 ≡ suc k → pass_lens i (ps ∷ rest) f lens ≡ pass_lens (suc i) rest f lens
unfolding pass_lens
lens-valued i ps rest f lens k q = rw (q, pass_lens)

pub lens-over : (i : ℕ) (ps : List Piece) (rest : List (List Piece)) (f : Bool) (lens : List ℕ)
    → get_or lens i 0 ≡ 0 → add lens 0 ps ≡ Sum.over → pass_lens i (ps ∷ rest) f lens ≡ Lens.stopped i
unfolding pass_lens
lens-over i ps rest f lens q e = rw (q, e, pass_lens)

pub lens-missing : (i : ℕ) (ps : List Piece) (rest : List (List Piece)) (f : Bool) (lens : List ℕ) (n : Token)
    → get_or lens i 0 ≡ 0 → add lens 0 ps ≡ Sum.missing n → pass_lens i (ps ∷ rest) f lens ≡ pass_lens (suc i) rest f lens
unfolding pass_lens
lens-missing i ps rest f lens n q e = rw (q, e, pass_lens)

pub lens-sum : (i : ℕ) (ps : List Piece) (rest : List (List Piece)) (f : Bool) (lens : List ℕ) (n : ℕ)
    → get_or lens i 0 ≡ 0 → add lens 0 ps ≡ sum n → pass_lens i (ps ∷ rest) f lens ≡ pass_lens (suc i) rest true (set lens i (suc n))
unfolding pass_lens
lens-sum i ps rest f lens n q e = rw (q, e, pass_lens)

pub pass-is : (rest : List (List Piece)) (i : ℕ) (found : Bool) (vals : Found) → pass_lens i rest found (entries vals) ≡ lens_of (pass i rest found vals)
unfolding pass_lens pass lens_of entry sum_of
pass-is [] i found vals = refl
pass-is (ps ∷ rest) i found vals = go (found_at vals i) (expand vals [] ps) refl refl (λ f more. pass-is rest (suc i) f more)
  where
    go : (o : Option (List ℕ)) (x : Expansion) → found_at vals i ≡ o → expand vals [] ps ≡ x
        → ((f : Bool) (more : Found) → pass_lens (suc i) rest f (entries more) ≡ lens_of (pass (suc i) rest f more))
        → pass_lens i (ps ∷ rest) found (entries vals) ≡ lens_of (pass i (ps ∷ rest) found vals)
    go (some v) x q e ih =
        lens-valued i ps rest found (entries vals) (length v) (entry_at vals i ∙ ap entry q) ∙ ih found vals ∙ ap lens_of (sym (pass-valued i ps rest found vals v q))
    go none Expansion.large q e ih =
        lens-over i ps rest found (entries vals) (entry_at vals i ∙ ap entry q) (add_is vals [] ps ∙ ap sum_of e) ∙ ap lens_of (sym (pass-over i ps rest found vals q e))
    go none (Expansion.missing n) q e ih =
        lens-missing i ps rest found (entries vals) n (entry_at vals i ∙ ap entry q) (add_is vals [] ps ∙ ap sum_of e) ∙ ih found vals
        ∙ ap lens_of (sym (pass-missing i ps rest found vals n q e))
    go none (value v) q e ih =
        lens-sum i ps rest found (entries vals) (length v) (entry_at vals i ∙ ap entry q) (add_is vals [] ps ∙ ap sum_of e)
        ∙ ap (λ (l : List ℕ). pass_lens (suc i) rest true l) (sym (entries-set vals i v)) ∙ ih true (set vals i (some v))
        ∙ ap lens_of (sym (pass-value i ps rest found vals v q e))

unfoldable pub settles_of : Resolved → Settles
settles_of (Resolved.too_large_at i) = Settles.too_large_at i
settles_of (Resolved.lacks i n) = Settles.lacks i n
settles_of (Resolved.resolved vals) = Settles.settled (entries vals)

lacking-lens : (vals : Found) (ps : List Piece) → lacking_lens (entries vals) ps ≡ lacking vals ps
unfolding lacking_lens lacking entry
lacking-lens vals [] = refl
lacking-lens vals (text s ∷ ps) = lacking-lens vals ps
lacking-lens vals (ref n j ∷ ps) = go (found_at vals j) refl (lacking-lens vals ps)
  where
    go : (o : Option (List ℕ)) → found_at vals j ≡ o → lacking_lens (entries vals) ps ≡ lacking vals ps → lacking_lens (entries vals) (ref n j ∷ ps) ≡ lacking vals (ref n j ∷ ps)
    go none q ih = let p : get_or (entries vals) j 0 ≡ 0 = entry_at vals j ∙ ap entry q in rw (p, q, lacking_lens, lacking)
    go (some u) q ih = let p : get_or (entries vals) j 0 ≡ suc (length u) = entry_at vals j ∙ ap entry q in rw (p, q, lacking_lens, lacking) ih

left-lens : (rest : List (List Piece)) (i : ℕ) (vals : Found) → left_lens i rest (entries vals) ≡ settles_of (left i rest vals)
unfolding left_lens left settles_of entry
left-lens [] i vals = refl
left-lens (ps ∷ rest) i vals = go (found_at vals i) refl (left-lens rest (suc i) vals)
  where
    go : (o : Option (List ℕ)) → found_at vals i ≡ o → left_lens (suc i) rest (entries vals) ≡ settles_of (left (suc i) rest vals) → left_lens i (ps ∷ rest) (entries vals) ≡ settles_of (left i (ps ∷ rest) vals)
    go none q ih = let p : get_or (entries vals) i 0 ≡ 0 = entry_at vals i ∙ ap entry q in rw (p, q, left_lens, left) (ap (λ (n : Token). Settles.lacks i n) (lacking-lens vals ps))
    go (some u) q ih = let p : get_or (entries vals) i 0 ≡ suc (length u) = entry_at vals i ∙ ap entry q in rw (p, q, left_lens, left) ih

passes-lens : (k : ℕ) (rules : List (List Piece)) (vals : Found) → passes_lens k rules (entries vals) ≡ settles_of (passes k rules vals)
unfolding passes_lens passes settles_of lens_of
passes-lens zero rules vals = left-lens rules 0 vals
passes-lens (suc k) rules vals = go (pass 0 rules false vals) refl (λ more. passes-lens k rules more)
  where
    go : (p : Pass) → pass 0 rules false vals ≡ p → ((more : Found) → passes_lens k rules (entries more) ≡ settles_of (passes k rules more))
        → passes_lens (suc k) rules (entries vals) ≡ settles_of (passes (suc k) rules vals)
    go (Pass.stopped i) q ih = let p : pass_lens 0 rules false (entries vals) ≡ Lens.stopped i = pass-is rules 0 false vals ∙ ap lens_of q in rw (p, q, passes_lens, passes) refl
    go (Pass.passed true after) q ih = let p : pass_lens 0 rules false (entries vals) ≡ Lens.passed true (entries after) = pass-is rules 0 false vals ∙ ap lens_of q in rw (p, q, passes_lens, passes) (ih after)
    go (Pass.passed false after) q ih = let p : pass_lens 0 rules false (entries vals) ≡ Lens.passed false (entries after) = pass-is rules 0 false vals ∙ ap lens_of q in rw (p, q, passes_lens, passes) (left-lens rules 0 after)

entries_none : (n : ℕ) → entries (replicate n none) ≡ replicate n 0
unfolding entries entry
entries_none zero = refl
entries_none (suc n) = ap {B = List ℕ} (λ l. 0 ∷ l) (entries_none n)

-- the passes on lengths answer as the passes on values
pub resolve-lens : (rules : List (List Piece)) → resolve_lens rules ≡ settles_of (resolve rules)
unfolding resolve_lens resolve
resolve-lens rules = rw (← entries_none (length rules)) (passes-lens (suc (length rules)) rules (replicate (length rules) none))
