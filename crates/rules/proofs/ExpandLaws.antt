-- Laws of `expand`: it sums the parts up to the first reference without a value, and tests the sum. Assumes nothing.
use Prim.Native.Nat.{ℕ, ◌<◌, ◌≤◌}
use mathlib.Core.Path.{◌≡◌, refl, ap, ap₂, sym, ◌∙◌}
use mathlib.Core.List.{List, [], ◌∷◌, ◌++◌, append-nil, append_assoc}
use mathlib.Core.Option.{Option, none, some}
use native.Mathlib.Decide.{dec_lt}
use native.Mathlib.Omega.{arith}
use borrow.Author.Tests.{le-ltb, lt-ltb}
use lib.ListN.{length, length-append}
use Rattle.rules.specs.Tokens.{Token}
use Rattle.rules.specs.Variables.{Piece, text, ref, limit, Found, found_at, Expansion, large, missing, value, bounded, expand, lacking}

-- what the parts give up to the first reference without a value among `vals`, and that reference
unfoldable pub total : Found → List Piece → List ℕ
total vals [] = []
total vals (text s ∷ ps) = s ++ total vals ps
total vals (ref n j ∷ ps) = elim (found_at vals j) [ none ↦ [] | some u ↦ u ++ total vals ps ]

unfoldable pub stop_at : Found → List Piece → Option Token
stop_at vals [] = none
stop_at vals (text s ∷ ps) = stop_at vals ps
stop_at vals (ref n j ∷ ps) = elim (found_at vals j) [ none ↦ some n | some u ↦ stop_at vals ps ]

pub total-some : (vals : Found) (n : Token) (j : ℕ) (ps : List Piece) (u : List ℕ) → found_at vals j ≡ some u → total vals (ref n j ∷ ps) ≡ u ++ total vals ps
unfolding total
total-some vals n j ps u q = rw (q, total)

pub total-none : (vals : Found) (n : Token) (j : ℕ) (ps : List Piece) → found_at vals j ≡ none → total vals (ref n j ∷ ps) ≡ []
unfolding total
total-none vals n j ps q = rw (q, total)

pub stop_at-some : (vals : Found) (n : Token) (j : ℕ) (ps : List Piece) (u : List ℕ) → found_at vals j ≡ some u → stop_at vals (ref n j ∷ ps) ≡ stop_at vals ps
unfolding stop_at
stop_at-some vals n j ps u q = rw (q, stop_at)

pub stop_at-none : (vals : Found) (n : Token) (j : ℕ) (ps : List Piece) → found_at vals j ≡ none → stop_at vals (ref n j ∷ ps) ≡ some n
unfolding stop_at
stop_at-none vals n j ps q = rw (q, stop_at)

ending : List ℕ → Option Token → Expansion
ending v none = value v
ending v (some n) = missing n

finish : List ℕ → Option Token → Expansion
finish v e = bounded v (ending v e)

bounded-small : (v : List ℕ) (e : Expansion) → length v ≤ limit → bounded v e ≡ e
unfolding bounded
bounded-small v e h = rw (le-ltb limit (length v) h, bounded)

bounded-large : (v : List ℕ) (e : Expansion) → limit < length v → bounded v e ≡ large
unfolding bounded
bounded-large v e h = rw (lt-ltb limit (length v) h, bounded)

-- one part more
grow : (v s t : List ℕ) (e : Option Token) (x : Expansion) → (length (v ++ s) ≤ limit → x ≡ finish (v ++ s ++ t) e)
    → bounded (v ++ s) x ≡ finish (v ++ (s ++ t)) e
unfolding finish
grow v s t e x ih = elim (dec_lt limit (length (v ++ s))) [
  | yes h ↦ bounded-large (v ++ s) x h ∙ sym (bounded-large (v ++ (s ++ t)) _ (simp length-append (omega (arith, simp length-append at h))))
  | no h ↦ bounded-small (v ++ s) x (omega arith) ∙ ih (omega arith) ∙ ap (λ (w : List ℕ). finish w e) (append_assoc v s t)
]

expand-some : (vals : Found) (v : List ℕ) (n : Token) (j : ℕ) (ps : List Piece) (u : List ℕ) → found_at vals j ≡ some u
    → expand vals v (ref n j ∷ ps) ≡ bounded (v ++ u) (expand vals (v ++ u) ps)
unfolding expand
expand-some vals v n j ps u q = rw (q, expand)

expand-none : (vals : Found) (v : List ℕ) (n : Token) (j : ℕ) (ps : List Piece) → found_at vals j ≡ none → expand vals v (ref n j ∷ ps) ≡ missing n
unfolding expand
expand-none vals v n j ps q = rw (q, expand)

expand-is : (vals : Found) (v : List ℕ) (ps : List Piece) → length v ≤ limit → expand vals v ps ≡ finish (v ++ total vals ps) (stop_at vals ps)
unfolding expand total stop_at finish ending
expand-is vals v [] h = rw append-nil (sym (bounded-small v (value v) h))
expand-is vals v (text s ∷ ps) h = grow v s (total vals ps) (stop_at vals ps) _ (λ h'. expand-is vals (v ++ s) ps h')
expand-is vals v (ref n j ∷ ps) h = go (found_at vals j) refl (λ w h'. expand-is vals w ps h')
  where
    go : (o : Option (List ℕ)) → found_at vals j ≡ o → ((w : List ℕ) → length w ≤ limit → expand vals w ps ≡ finish (w ++ total vals ps) (stop_at vals ps))
        → expand vals v (ref n j ∷ ps) ≡ finish (v ++ total vals (ref n j ∷ ps)) (stop_at vals (ref n j ∷ ps))
    go none q ih =
        expand-none vals v n j ps q
        ∙ sym (ap₂ (λ (w : List ℕ) (e : Option Token). finish (v ++ w) e) (total-none vals n j ps q) (stop_at-none vals n j ps q) ∙ rw append-nil (bounded-small v (missing n) h))
    go (some u) q ih =
        expand-some vals v n j ps u q ∙ grow v u (total vals ps) (stop_at vals ps) _ (λ h'. ih (v ++ u) h')
        ∙ sym (ap₂ (λ (w : List ℕ) (e : Option Token). finish (v ++ w) e) (total-some vals n j ps u q) (stop_at-some vals n j ps u q))

-- what each answer of `expand` says of the sum
abbrev pub View : Found → List Piece → Expansion → Type 0
View vals ps large = limit < length (total vals ps)
View vals ps (missing n) = (length (total vals ps) ≤ limit) × (stop_at vals ps ≡ some n)
View vals ps (value v) = (length (total vals ps) ≤ limit) × (stop_at vals ps ≡ none) × (v ≡ total vals ps)

pub view : (vals : Found) (ps : List Piece) → View vals ps (expand vals [] ps)
unfolding finish ending
view vals ps = rw (expand-is vals [] ps (omega arith)) (elim (dec_lt limit (length (total vals ps))) [
  | yes h ↦ rw (bounded-large (total vals ps) (ending (total vals ps) (stop_at vals ps)) h) h
  | no h ↦ rw (bounded-small (total vals ps) (ending (total vals ps) (stop_at vals ps)) (omega arith)) (go (stop_at vals ps) refl (omega arith))
])
  where
    go : (e : Option Token) → stop_at vals ps ≡ e → length (total vals ps) ≤ limit → View vals ps (ending (total vals ps) (stop_at vals ps))
    go none q h = rw q (h, q, refl)
    go (some n) q h = rw q (h, q)

pub lacking-is : (vals : Found) (ps : List Piece) (n : Token) → stop_at vals ps ≡ some n → lacking vals ps ≡ n
unfolding stop_at lacking
lacking-is vals [] n e = let z : ◌≡◌ {A = ℕ} 0 1 = cc in absurd (omega arith)
lacking-is vals (text s ∷ ps) n e = lacking-is vals ps n e
lacking-is vals (ref m j ∷ ps) n e = go (found_at vals j) refl (λ e'. lacking-is vals ps n e')
  where
    go : (o : Option (List ℕ)) → found_at vals j ≡ o → (stop_at vals ps ≡ some n → lacking vals ps ≡ n) → lacking vals (ref m j ∷ ps) ≡ n
    go none q ih = rw (q, lacking) (cc (stop_at-none vals m j ps q))
    go (some u) q ih = rw (q, lacking) (ih (sym (stop_at-some vals m j ps u q) ∙ e))
