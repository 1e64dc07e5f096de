-- Laws of the passes: what they find is a value, each pass that goes on finds one more, and the last leaves no name with a value. Assumes nothing.
use Prim.Native.Nat.{ℕ, zero, suc, ◌<◌, ◌≤◌, ◌+◌}
use mathlib.Core.Path.{◌≡◌, refl, ap, ap₂, sym, ◌∙◌, subst₂}
use mathlib.Core.Logic.{◌⊎◌, inl, inr}
use mathlib.Core.Bool.{Bool, true, false}
use mathlib.Core.List.{List, [], ◌∷◌, ◌++◌, head-eq_of_cons-eq, tail-eq_of_cons-eq, nil≢cons}
use mathlib.Core.Option.{Option, none, some}
use native.Mathlib.Decide.{dec_lt, ℕ_discrete}
use native.Mathlib.Omega.{arith}
use lib.ListN.{length, get_or, set, drop, replicate, length-drop, length-set, length-replicate, get_or-replicate, get_or-eq_default}
use lib.Seq.{get_or-set_same, get_or-set_other}
use Rattle.rules.specs.Tokens.{Token}
use Rattle.rules.specs.Variables.{Piece, limit, Found, found_at, Expansion, large, missing, value, expand, Pass, stopped, passed, pass, Resolved, too_large_at, lacks, resolved, lacking, left, passes, resolve}
use Rattle.rules.proofs.Ranks.{Joined, nil, Value, Upto, TooLarge}
use Rattle.rules.proofs.RanksLaws.{joined-one, upto-joined}
use Rattle.rules.proofs.ExpandLaws.{total, stop_at, total-some, total-none, stop_at-some, stop_at-none, View, view, lacking-is}

-- what the parts give up to some place, with values for all references before it
pub data Front (rules : List (List Piece)) : List Piece → List ℕ → Type 0 where
  stop : {ps : List Piece} → Front rules ps []
  text : {s v : List ℕ} {ps : List Piece} → Front rules ps v → Front rules (Piece.text s ∷ ps) (s ++ v)
  ref : {n : Token} {j : ℕ} {u v : List ℕ} {ps : List Piece} → Value rules j u → Front rules ps v → Front rules (Piece.ref n j ∷ ps) (u ++ v)

-- the number of values found
pub count : Found → ℕ
count [] = 0
count (none ∷ vals) = count vals
count (some v ∷ vals) = suc (count vals)

count-le : (vals : Found) → count vals ≤ length vals
unfolding count
count-le [] = omega arith
count-le (none ∷ vals) = omega (arith, count-le vals)
count-le (some v ∷ vals) = omega (arith, count-le vals)

count_set : (vals : Found) (i : ℕ) (v : List ℕ) → i < length vals → found_at vals i ≡ none → count (set vals i (some v)) ≡ suc (count vals)
unfolding count
count_set [] i v h q = absurd (omega arith)
count_set (none ∷ vals) zero v h q = refl
count_set (some u ∷ vals) zero v h q = let z : ◌≡◌ {A = ℕ} 0 1 = cc in absurd (omega arith)
count_set (none ∷ vals) (suc i) v h q = count_set vals i v (omega arith) q
count_set (some u ∷ vals) (suc i) v h q = ap suc (count_set vals i v (omega arith) q)

pub none-some : {A : Type 0} {o : Option A} {v : A} → o ≡ none → o ≡ some v → ⊥
none-some p q = let z : ◌≡◌ {A = ℕ} 0 1 = cc in omega arith

drop-step {ℓ} : {A : Type ℓ} (l : List A) (i : ℕ) (d x : A) (r : List A) → drop i l ≡ x ∷ r → (i < length l) × (get_or l i d ≡ x) × (drop (suc i) l ≡ r)
drop-step [] zero d x r q = absurd (nil≢cons q)
drop-step [] (suc i) d x r q = absurd (nil≢cons q)
drop-step (y ∷ l) zero d x r q = (omega arith, head-eq_of_cons-eq q, tail-eq_of_cons-eq q)
drop-step (y ∷ l) (suc i) d x r q = let s = drop-step l i d x r q in (omega (arith, s.0), s.1, s.2)

-- a visit, as laws
pub pass-valued : (i : ℕ) (ps : List Piece) (rest : List (List Piece)) (f : Bool) (vals : Found) (v : List ℕ)
    → found_at vals i ≡ some v → pass i (ps ∷ rest) f vals ≡ pass (suc i) rest f vals
unfolding pass
pass-valued i ps rest f vals v q = rw (q, pass)

pub pass-over : (i : ℕ) (ps : List Piece) (rest : List (List Piece)) (f : Bool) (vals : Found)
    → found_at vals i ≡ none → expand vals [] ps ≡ large → pass i (ps ∷ rest) f vals ≡ stopped i
unfolding pass
pass-over i ps rest f vals q e = rw (q, e, pass)

pub pass-missing : (i : ℕ) (ps : List Piece) (rest : List (List Piece)) (f : Bool) (vals : Found) (n : Token)
    → found_at vals i ≡ none → expand vals [] ps ≡ missing n → pass i (ps ∷ rest) f vals ≡ pass (suc i) rest f vals
unfolding pass
pass-missing i ps rest f vals n q e = rw (q, e, pass)

pub pass-value : (i : ℕ) (ps : List Piece) (rest : List (List Piece)) (f : Bool) (vals : Found) (v : List ℕ)
    → found_at vals i ≡ none → expand vals [] ps ≡ value v → pass i (ps ∷ rest) f vals ≡ pass (suc i) rest true (set vals i (some v))
unfolding pass
pass-value i ps rest f vals v q e = rw (q, e, pass)

module _ (rules : List (List Piece)) where
  abbrev pub Sound : Found → Type 0
  Sound vals = (j : ℕ) (v : List ℕ) → found_at vals j ≡ some v → Value rules j v × (length v ≤ limit)

  total-front : (vals : Found) → Sound vals → (ps : List Piece) → Front rules ps (total vals ps)
  unfolding total
  total-front vals s [] = stop
  total-front vals s (Piece.text t ∷ ps) = Front.text (total-front vals s ps)
  total-front vals s (Piece.ref n j ∷ ps) = go (found_at vals j) refl (total-front vals s ps)
    where
      go : (o : Option (List ℕ)) → found_at vals j ≡ o → Front rules ps (total vals ps) → Front rules (Piece.ref n j ∷ ps) (total vals (Piece.ref n j ∷ ps))
      go none q ih = rw (total-none vals n j ps q) stop
      go (some u) q ih = rw (total-some vals n j ps u q) (Front.ref (s j u q).0 ih)

  total-joined : (vals : Found) → Sound vals → (ps : List Piece) → stop_at vals ps ≡ none → Joined rules ps (total vals ps)
  unfolding total stop_at
  total-joined vals s [] e = nil
  total-joined vals s (Piece.text t ∷ ps) e = Joined.text (total-joined vals s ps e)
  total-joined vals s (Piece.ref n j ∷ ps) e = go (found_at vals j) refl (λ e'. total-joined vals s ps e')
    where
      go : (o : Option (List ℕ)) → found_at vals j ≡ o → (stop_at vals ps ≡ none → Joined rules ps (total vals ps)) → Joined rules (Piece.ref n j ∷ ps) (total vals (Piece.ref n j ∷ ps))
      go none q ih = let z : ◌≡◌ {A = ℕ} 0 1 = cc (stop_at-none vals n j ps q) in absurd (omega arith)
      go (some u) q ih = rw (total-some vals n j ps u q) (Joined.ref (s j u q).0.0 (s j u q).0.1 (ih (sym (stop_at-some vals n j ps u q) ∙ e)))

  set-sound : (vals : Found) (i : ℕ) (v : List ℕ) → Sound vals → i < length vals → Value rules i v → length v ≤ limit → Sound (set vals i (some v))
  set-sound vals i v s h x l j w q = elim (ℕ_discrete j i) [
    | yes e ↦ (let p : w ≡ v = cc (get_or-set_same vals i (some v) none h) in subst₂ (λ (a : ℕ) (b : List ℕ). Value rules a b × (length b ≤ limit)) (sym e) (sym p) (x, l))
    | no e ↦ s j w (sym (get_or-set_other vals i j (some v) none e) ∙ q)
  ]

  abbrev pub Large : ℕ → Type 0
  Large k = (k < length rules) × ((v : List ℕ) × Front rules (get_or rules k []) v × (limit < length v))

  -- no name from the i-th on that lacks a value gets one
  abbrev pub IdleFrom : ℕ → Found → Type 0
  IdleFrom i vals = (k : ℕ) → i ≤ k → k < length rules → found_at vals k ≡ none → (n : Token) × (expand vals [] (get_or rules k []) ≡ missing n)

  abbrev Grown : Found → Pass → Type 0
  Grown vals (stopped k) = Large k
  Grown vals (passed found after) = (found ≡ true) × Sound after × (length after ≡ length rules) × (count vals ≤ count after)

  abbrev Swept : ℕ → Found → Pass → Type 0
  Swept i vals (stopped k) = Large k
  Swept i vals (passed true after) = Sound after × (length after ≡ length rules) × (count vals < count after)
  Swept i vals (passed false after) = (after ≡ vals) × IdleFrom i vals

  weaken : (vals more : Found) (p : Pass) → count vals ≤ count more → Grown more p → Grown vals p
  weaken vals more (stopped k) h g = g
  weaken vals more (passed found after) h g = (g.0, g.1, g.2, omega (arith, g.3))

  -- where a pass stops, and what it finds
  stops : (vals : Found) (i : ℕ) → Sound vals → i < length rules → expand vals [] (get_or rules i []) ≡ large → Large i
  stops vals i s h e = (h, (total vals (get_or rules i []), total-front vals s (get_or rules i []), rw e at (view vals (get_or rules i []))))

  finds : (vals : Found) (i : ℕ) (v : List ℕ) → Sound vals → i < length rules → length vals ≡ length rules → expand vals [] (get_or rules i []) ≡ value v → Sound (set vals i (some v))
  finds vals i v s h l e =
      let w : View vals (get_or rules i []) (value v) = rw e at (view vals (get_or rules i [])) in
      set-sound vals i v s (omega arith) (h, rw w.2 (total-joined vals s (get_or rules i []) w.1)) (rw w.2 w.0)

  grown : (rest : List (List Piece)) (i : ℕ) (vals : Found) → drop i rules ≡ rest → Sound vals → length vals ≡ length rules → Grown vals (pass i rest true vals)
  unfolding pass
  grown [] i vals e s l = (refl, s, l, omega arith)
  grown (ps ∷ rest) i vals e s l =
      let d = drop-step rules i [] ps rest e in
      go d (found_at vals i) (expand vals [] ps) refl refl (λ more s' l'. grown rest (suc i) more d.2 s' l')
    where
      go : (i < length rules) × (get_or rules i [] ≡ ps) × (drop (suc i) rules ≡ rest) → (o : Option (List ℕ)) (x : Expansion) → found_at vals i ≡ o → expand vals [] ps ≡ x
          → ((more : Found) → Sound more → length more ≡ length rules → Grown more (pass (suc i) rest true more)) → Grown vals (pass i (ps ∷ rest) true vals)
      go d (some v) x q e ih = rw (pass-valued i ps rest true vals v q) (ih vals s l)
      go d none large q e ih = rw (pass-over i ps rest true vals q e) (stops vals i s d.0 (rw d.1 e))
      go d none (missing n) q e ih = rw (pass-missing i ps rest true vals n q e) (ih vals s l)
      go d none (value v) q e ih =
          rw (pass-value i ps rest true vals v q e)
          (weaken vals (set vals i (some v)) (pass (suc i) rest true (set vals i (some v))) (omega (arith, count_set vals i v (omega arith) q))
          (ih (set vals i (some v)) (finds vals i v s d.0 l (rw d.1 e)) (length-set vals i (some v) ∙ l)))

  sweeps : (vals more : Found) (i : ℕ) (p : Pass) → count vals < count more → Grown more p → Swept i vals p
  sweeps vals more i (stopped k) h g = g
  sweeps vals more i (passed true after) h g = (g.1, g.2, omega (arith, g.3))
  sweeps vals more i (passed false after) h g = let z : ◌≡◌ {A = ℕ} 0 1 = cc g.0 in absurd (omega arith)

  idle-more : (vals : Found) (i : ℕ) (p : Pass) → (found_at vals i ≡ none → (n : Token) × (expand vals [] (get_or rules i []) ≡ missing n)) → Swept (suc i) vals p → Swept i vals p
  idle-more vals i (stopped k) h g = g
  idle-more vals i (passed true after) h g = g
  idle-more vals i (passed false after) h g = (
    g.0,
    λ k le lt q. elim (ℕ_discrete k i) [
      | yes e ↦ rw e (h (rw e at q))
      | no e ↦ g.1 k (omega arith) lt q
    ],
  )

  swept : (rest : List (List Piece)) (i : ℕ) (vals : Found) → drop i rules ≡ rest → Sound vals → length vals ≡ length rules → Swept i vals (pass i rest false vals)
  unfolding pass
  swept [] i vals e s l = (refl, λ k le lt q. absurd (omega (arith, length-drop i rules, ap length e)))
  swept (ps ∷ rest) i vals e s l =
      let d = drop-step rules i [] ps rest e in
      go d (found_at vals i) (expand vals [] ps) refl refl (swept rest (suc i) vals d.2 s l) (λ more s' l'. grown rest (suc i) more d.2 s' l')
    where
      go : (i < length rules) × (get_or rules i [] ≡ ps) × (drop (suc i) rules ≡ rest) → (o : Option (List ℕ)) (x : Expansion) → found_at vals i ≡ o → expand vals [] ps ≡ x
          → Swept (suc i) vals (pass (suc i) rest false vals)
          → ((more : Found) → Sound more → length more ≡ length rules → Grown more (pass (suc i) rest true more)) → Swept i vals (pass i (ps ∷ rest) false vals)
      go d (some v) x q e ih more = rw (pass-valued i ps rest false vals v q) (idle-more vals i (pass (suc i) rest false vals) (λ q'. absurd (none-some q' q)) ih)
      go d none large q e ih more = rw (pass-over i ps rest false vals q e) (stops vals i s d.0 (rw d.1 e))
      go d none (missing n) q e ih more = rw (pass-missing i ps rest false vals n q e) (idle-more vals i (pass (suc i) rest false vals) (λ q'. (n, rw d.1 e)) ih)
      go d none (value v) q e ih more =
          rw (pass-value i ps rest false vals v q e)
          (sweeps vals (set vals i (some v)) i (pass (suc i) rest true (set vals i (some v))) (omega (arith, count_set vals i v (omega arith) q))
          (more (set vals i (some v)) (finds vals i v s d.0 l (rw d.1 e)) (length-set vals i (some v) ∙ l)))

  -- the values after the last pass
  pub record Settled (vals : Found) : Type 0 where
    pub sound : Sound vals
    pub size : length vals ≡ length rules
    pub idle : IdleFrom 0 vals

  abbrev pub Ends : Resolved → Type 0
  Ends r = ((k : ℕ) × (r ≡ too_large_at k) × Large k) ⊎ ((vals : Found) × Settled vals × (r ≡ left 0 rules vals))

  passes-stopped : (k i : ℕ) (vals : Found) → pass 0 rules false vals ≡ stopped i → passes (suc k) rules vals ≡ too_large_at i
  unfolding passes
  passes-stopped k i vals q = rw (q, passes)

  passes-found : (k : ℕ) (vals after : Found) → pass 0 rules false vals ≡ passed true after → passes (suc k) rules vals ≡ passes k rules after
  unfolding passes
  passes-found k vals after q = rw (q, passes)

  passes-idle : (k : ℕ) (vals after : Found) → pass 0 rules false vals ≡ passed false after → passes (suc k) rules vals ≡ left 0 rules after
  unfolding passes
  passes-idle k vals after q = rw (q, passes)

  passes-end : (k : ℕ) (vals : Found) → Sound vals → length vals ≡ length rules → length rules < k + count vals → Ends (passes k rules vals)
  passes-end zero vals s l h = absurd (omega (arith, count-le vals))
  passes-end (suc k) vals s l h = go (pass 0 rules false vals) refl (swept rules 0 vals refl s l) (λ after s' l' h'. passes-end k after s' l' h')
    where
      go : (p : Pass) → pass 0 rules false vals ≡ p → Swept 0 vals p
          → ((after : Found) → Sound after → length after ≡ length rules → length rules < k + count after → Ends (passes k rules after)) → Ends (passes (suc k) rules vals)
      go (stopped i) q w ih = inl (i, passes-stopped k i vals q, w)
      go (passed true after) q w ih = rw (passes-found k vals after q) (ih after w.0 w.1 (omega (arith, w.2)))
      go (passed false after) q w ih = inr (vals, record { sound = s; size = l; idle = w.1 }, passes-idle k vals after q ∙ ap (λ (x : Found). left 0 rules x) w.0)

  none_found : (n : ℕ) (j : ℕ) → found_at (replicate n none) j ≡ none
  none_found n j = elim (dec_lt j n) [
    | yes h ↦ get_or-replicate n j none none h
    | no h ↦ get_or-eq_default (replicate n none) none (rw length-replicate (omega arith))
  ]

  pub resolve-ends : Ends (resolve rules)
  unfolding resolve
  resolve-ends =
      passes-end (suc (length rules)) (replicate (length rules) none) (λ j v q. absurd (none-some (none_found (length rules) j) q)) (length-replicate (length rules) none) (omega arith)

  pub upto-one : {ps : List Piece} {v w : List ℕ} {d e : Option Token} → Upto rules ps v d → Upto rules ps w e → (v ≡ w) × (d ≡ e)
  upto-one Upto.whole Upto.whole = (refl, refl)
  upto-one (Upto.text {s} x) (Upto.text y) = (ap (λ (a : List ℕ). s ++ a) (upto-one x y).0, (upto-one x y).1)
  upto-one (Upto.ref a x) (Upto.ref b y) = (ap₂ (λ (a b : List ℕ). a ++ b) (joined-one rules a.1 b.1) (upto-one x y).0, (upto-one x y).1)
  upto-one (Upto.ref {u} a x) (Upto.stop f) = absurd (f (u, a))
  upto-one (Upto.stop f) (Upto.ref {u} a x) = absurd (f (u, a))
  upto-one (Upto.stop f) (Upto.stop g) = (refl, refl)

  module _ (vals : Found) (ends : Settled vals) where
    stuck : (j : ℕ) → j < length rules → found_at vals j ≡ none → stop_at vals (get_or rules j []) ≡ none → ⊥
    stuck j h q a =
        let x = ends.idle j (omega arith) h q in
        let w : View vals (get_or rules j []) (missing x.0) = rw x.1 at (view vals (get_or rules j [])) in
        none-some a w.1

    filled : {ps : List Piece} {v : List ℕ} → Joined rules ps v → stop_at vals ps ≡ none
    unfolding stop_at
    filled nil = refl
    filled (Joined.text d) = filled d
    filled (Joined.ref {n} {j} {ps = ps} h d f) = go (found_at vals j) refl (filled d) (filled f)
      where
        go : (o : Option (List ℕ)) → found_at vals j ≡ o → stop_at vals (get_or rules j []) ≡ none → stop_at vals ps ≡ none → stop_at vals (Piece.ref n j ∷ ps) ≡ none
        go (some u) q a b = stop_at-some vals n j ps u q ∙ b
        go none q a b = absurd (stuck j h q a)

    pub complete : (j : ℕ) (v : List ℕ) → Value rules j v → found_at vals j ≡ some v
    complete j v x = go (found_at vals j) refl
      where
        go : (o : Option (List ℕ)) → found_at vals j ≡ o → found_at vals j ≡ some v
        go (some u) q = q ∙ ap {B = Option (List ℕ)} some (joined-one rules (ends.sound j u q).0.1 x.1)
        go none q = absurd (stuck j x.0 q (filled x.1))

    pub upto : (ps : List Piece) → Upto rules ps (total vals ps) (stop_at vals ps)
    unfolding total stop_at
    upto [] = Upto.whole
    upto (Piece.text s ∷ ps) = Upto.text (upto ps)
    upto (Piece.ref n j ∷ ps) = go (found_at vals j) refl (upto ps)
      where
        go : (o : Option (List ℕ)) → found_at vals j ≡ o → Upto rules ps (total vals ps) (stop_at vals ps)
            → Upto rules (Piece.ref n j ∷ ps) (total vals (Piece.ref n j ∷ ps)) (stop_at vals (Piece.ref n j ∷ ps))
        go none q u = rw (total-none vals n j ps q, stop_at-none vals n j ps q) (Upto.stop (λ x. none-some q (complete j x.0 x.1)))
        go (some v) q u = rw (total-some vals n j ps v q, stop_at-some vals n j ps v q) (Upto.ref (ends.sound j v q).0 u)

    pub not-large : TooLarge rules → ⊥
    not-large x = go (found_at vals x.0) refl
      where
        go : (o : Option (List ℕ)) → found_at vals x.0 ≡ o → ⊥
        go (some v) q =
            let y = ends.sound x.0 v q in
            let z = upto-joined rules y.0.1 x.1.1.2 in
            omega (arith, y.1, x.1.1.3, ap length z.0)
        go none q =
            let y = ends.idle x.0 (omega arith) x.1.0 q in
            let w : View vals (get_or rules x.0 []) (missing y.0) = rw y.1 at (view vals (get_or rules x.0 [])) in
            omega (arith, w.0, x.1.1.3, ap length (upto-one x.1.1.2 (upto (get_or rules x.0 []))).0)

    abbrev pub Left : ℕ → Resolved → Type 0
    Left i (too_large_at k) = ⊥
    Left i (lacks k n) = (k < length rules) × (found_at vals k ≡ none) × (stop_at vals (get_or rules k []) ≡ some n) × ((h : ℕ) → i ≤ h → h < k → (v : List ℕ) × (found_at vals h ≡ some v))
    Left i (resolved after) = (after ≡ vals) × ((h : ℕ) → i ≤ h → h < length rules → (v : List ℕ) × (found_at vals h ≡ some v))

    left-more : (i : ℕ) (v : List ℕ) (r : Resolved) → found_at vals i ≡ some v → Left (suc i) r → Left i r
    left-more i v (too_large_at k) q x = x
    left-more i v (lacks k n) q x = (x.0, x.1, x.2, λ h a b. elim (ℕ_discrete h i) [ yes e ↦ (v, rw e q) | no e ↦ x.3 h (omega arith) b ])
    left-more i v (resolved after) q x = (x.0, λ h a b. elim (ℕ_discrete h i) [ yes e ↦ (v, rw e q) | no e ↦ x.1 h (omega arith) b ])

    pub left_is : (rest : List (List Piece)) (i : ℕ) → drop i rules ≡ rest → Left i (left i rest vals)
    unfolding left
    left_is [] i e = (refl, λ h a b. absurd (omega (arith, length-drop i rules, ap length e)))
    left_is (ps ∷ rest) i e =
        let d = drop-step rules i [] ps rest e in
        go d (found_at vals i) refl (left_is rest (suc i) d.2)
      where
        go : (i < length rules) × (get_or rules i [] ≡ ps) × (drop (suc i) rules ≡ rest) → (o : Option (List ℕ)) → found_at vals i ≡ o
            → Left (suc i) (left (suc i) rest vals) → Left i (left i (ps ∷ rest) vals)
        go d (some v) q ih = rw (q, left) (left-more i v (left (suc i) rest vals) q ih)
        go d none q ih =
            let x = ends.idle i (omega arith) d.0 q in
            let w : View vals (get_or rules i []) (missing x.0) = rw x.1 at (view vals (get_or rules i [])) in
            let y : stop_at vals (get_or rules i []) ≡ some (lacking vals ps) = w.1 ∙ ap {B = Option Token} some (sym (lacking-is vals ps x.0 (rw d.1 at w.1))) in
            rw (q, left) (d.0, q, y, λ h a b. absurd (omega arith))
