-- What a sum of tokens comes to by the rules, and that to go on with it is to start anew. Assumes nothing.
use Prim.Native.Nat.{ℕ, zero, suc, ◌+◌, ◌-◌, ◌≤◌, ◌<◌}
use mathlib.Core.Path.{◌≡◌, refl, sym, ◌∙◌, ap}
use mathlib.Core.Bool.{Bool, true, false}
use mathlib.Core.List.{List, [], ◌∷◌}
use native.Mathlib.Nat.{add-zero}
use native.Mathlib.Decide.{dec_lt}
use native.Mathlib.Omega.{arith}
use lib.ListN.{length, get_or, take, drop, drop_of_length-le, get_or-eq_default}
use lib.Seq.{drop-cons, drop-drop, get_or-drop, take-nil}
use borrow.Author.Tests.{lt-ltb, le-ltb}
use Rattle.rules.specs.Bytes.{pick}
use Rattle.rules.specs.Tokens.{Token, token, is_a, variable_kind, no_name}
use Rattle.rules.specs.Variables.{Piece, text, ref, limit}
use Rattle.rules.proofs.Lengths.{Sum, bounded_sum, add, add-missing, add-more}
use Rattle.tokens.specs.Entries.{token_at}
use Rattle.workspace.specs.Map.{dropped_kind, piece_of, pieces_of, pieces_between}
use Rattle.passes.specs.Sums.{top, size_of, Advance, advance, Extends, Reaches}
use Rattle.std.specs.Prelude.{Ok, Err}
use Rattle.passes.specs.declared.sums.Stop.TheVariants.{Over, Missing}

pub extends_refl : (lens : List ℕ) → Extends lens lens
extends_refl lens j k e = e

pub extends-then : (a b c : List ℕ) → Extends a b → Extends b c → Extends a c
extends-then a b c p q j k e = q j k (p j k e)

pub bounded-in : (n : ℕ) (x : Sum) → n ≤ top → bounded_sum n x ≡ x
unfolding bounded_sum limit
bounded-in n x h = rw (le-ltb top n h, bounded_sum)

pub bounded-over : (n : ℕ) (x : Sum) → top < n → bounded_sum n x ≡ Sum.over
unfolding bounded_sum limit
bounded-over n x h = rw (lt-ltb top n h, bounded_sum)

-- the piece of one token, if it was not dropped, before others
abbrev joined : ℕ → Token → List Piece → List Piece
joined rank t ps = pick (is_a dropped_kind t) ps (piece_of rank t ∷ ps)

-- one token, by its size
module _ (lens : List ℕ) (rank : ℕ) (t : Token) where
  size-extends : (m : List ℕ) (x : ℕ) → Extends lens m → size_of lens rank t ≡ suc x → size_of m rank t ≡ suc x
  unfolding size_of pick
  size-extends m x g = go (is_a dropped_kind t) (is_a variable_kind t)
    where
      go : (a b : Bool) → pick a 1 (pick b (get_or lens rank 0) (suc (length t.text))) ≡ suc x → pick a 1 (pick b (get_or m rank 0) (suc (length t.text))) ≡ suc x
      go true b e = e
      go false true e = g rank x e
      go false false e = e

  -- a token without a value is a reference
  lacks : size_of lens rank t ≡ 0 → (is_a dropped_kind t ≡ false) × (is_a variable_kind t ≡ true) × (get_or lens rank 0 ≡ 0)
  unfolding size_of pick
  lacks = go (is_a dropped_kind t) (is_a variable_kind t)
    where
      go : (a b : Bool) → pick a 1 (pick b (get_or lens rank 0) (suc (length t.text))) ≡ 0 → (a ≡ false) × (b ≡ true) × (get_or lens rank 0 ≡ 0)
      go true b e = absurd (omega arith)
      go false true e = (refl, refl, e)
      go false false e = absurd (omega arith)

  pub add-lacking : (s : ℕ) (ps : List Piece) → size_of lens rank t ≡ 0 → add lens s (joined rank t ps) ≡ Sum.missing t
  unfolding pick
  add-lacking s ps e = let y = lacks e in rw (y.0, y.1) (add-missing lens s t rank ps y.2)

  pub add-sized : (s x : ℕ) (ps : List Piece) → s ≤ top → size_of lens rank t ≡ suc x → add lens s (joined rank t ps) ≡ bounded_sum (s + x) (add lens (s + x) ps)
  unfolding size_of pick add
  add-sized s x ps f = go (is_a dropped_kind t) (is_a variable_kind t)
    where
      go : (a b : Bool) → pick a 1 (pick b (get_or lens rank 0) (suc (length t.text))) ≡ suc x
          → add lens s (pick a ps (pick b (ref t rank) (text t.text) ∷ ps)) ≡ bounded_sum (s + x) (add lens (s + x) ps)
      go true b e = let z : s + x ≡ s = omega arith in rw z (sym (bounded-in s (add lens s ps) f))
      go false true e = add-more lens s t rank ps x e
      go false false e = let q : length t.text ≡ x = omega arith in rw q

-- the tokens ts with their ranks
module _ (ts : List Token) (ranks : List ℕ) where
  past-none : (k : ℕ) → length ts ≤ k → (drop k ts ≡ []) × (token_at ts k ≡ no_name)
  past-none k h = (drop_of_length-le ts h, get_or-eq_default ts no_name h)

  pieces-next : (k m : ℕ) → pieces_of (drop k ranks) (take (suc m) (drop k ts)) ≡ joined (get_or ranks k 0) (token_at ts k) (pieces_of (drop (suc k) ranks) (take m (drop (suc k) ts)))
  unfolding pieces_of pick no_name token is_a
  pieces-next k m = elim (dec_lt k (length ts)) [
    | yes h ↦
        let e : k + 1 ≡ suc k = omega arith in
        rw (drop-cons ts k no_name h, drop-drop 1 k ranks, e, get_or-drop k ranks 0 0, add-zero)
    | no h ↦
        let a = past-none k (omega arith) in
        let b = past-none (suc k) (omega arith) in
        rw (a.0, b.0, a.1, take-nil m)
  ]

  pieces_more : (k to : ℕ) → k < to → pieces_between ts ranks k to ≡ joined (get_or ranks k 0) (token_at ts k) (pieces_between ts ranks (suc k) to)
  pieces_more k to h = let e : to - k ≡ suc (to - suc k) = omega arith in rw e (pieces-next k (to - suc k))

  pub pieces_end : (k to : ℕ) → to ≤ k → pieces_between ts ranks k to ≡ []
  unfolding pieces_of
  pieces_end k to h = let e : to - k ≡ 0 = omega arith in rw e

  module _ (lens : List ℕ) (to : ℕ) where
    -- what going on at token k with the sum s comes to
    abbrev pub Advances : ℕ → ℕ → Advance → Type 0
    Advances k s (Err Over) = add lens s (pieces_between ts ranks k to) ≡ Sum.over
    Advances k s (Err (Missing j t)) =
        (j < length ts) × (t ≤ top) × Reaches lens s (pieces_between ts ranks k to) t (pieces_between ts ranks j to)
        × (add lens s (pieces_between ts ranks k to) ≡ Sum.missing (token_at ts j)) × (j < to) × (size_of lens (get_or ranks j 0) (token_at ts j) ≡ 0)
    Advances k s (Ok t) = (t ≤ top) × (add lens s (pieces_between ts ranks k to) ≡ Sum.sum t)

    abbrev size : ℕ → ℕ
    size k = size_of lens (get_or ranks k 0) (token_at ts k)

    -- going on later
    before : (k s j t : ℕ) (r : Advance) → Reaches lens s (pieces_between ts ranks k to) t (pieces_between ts ranks j to) → Advances j t r → Advances k s r
    before k s j t (Err Over) g a = g lens (extends_refl lens) ∙ a
    before k s j t (Err (Missing i u)) g a = (a.0, a.1, (λ m x. g m x ∙ a.2 m x), g lens (extends_refl lens) ∙ a.3, a.4, a.5)
    before k s j t (Ok u) g a = (a.0, g lens (extends_refl lens) ∙ a.1)

    pub add-stopped : (k s : ℕ) → k < to → size k ≡ 0 → add lens s (pieces_between ts ranks k to) ≡ Sum.missing (token_at ts k)
    add-stopped k s h e = ap (add lens s) (pieces_more k to h) ∙ add-lacking lens (get_or ranks k 0) (token_at ts k) s (pieces_between ts ranks (suc k) to) e

    module _ (k s : ℕ) (h : k < to) (f : s ≤ top) where
      at-missing : size k ≡ 0 → Advances k s (Err (Missing k s))
      unfolding size_of pick no_name token is_a
      at-missing e = (
        elim (dec_lt k (length ts)) [ yes l ↦ l | no l ↦ absurd (let y = past-none k (omega arith) in let z : 1 ≡ 0 = rw y.1 at e in omega arith) ],
        f,
        λ m x. refl,
        add-stopped k s h e,
        h,
        e,
      )

      module _ (x : ℕ) (e : size k ≡ suc x) where
        one : (m : List ℕ) → Extends lens m → add m s (pieces_between ts ranks k to) ≡ bounded_sum (s + x) (add m (s + x) (pieces_between ts ranks (suc k) to))
        one m g =
            ap (add m s) (pieces_more k to h)
            ∙ add-sized m (get_or ranks k 0) (token_at ts k) s x (pieces_between ts ranks (suc k) to) f (size-extends lens (get_or ranks k 0) (token_at ts k) m x g e)

        at-over : top < s + x → Advances k s (Err Over)
        at-over o = one lens (extends_refl lens) ∙ bounded-over (s + x) (add lens (s + x) (pieces_between ts ranks (suc k) to)) o

        at_more : s + x ≤ top → Reaches lens s (pieces_between ts ranks k to) (s + x) (pieces_between ts ranks (suc k) to)
        at_more o m g = one m g ∙ bounded-in (s + x) (add m (s + x) (pieces_between ts ranks (suc k) to)) o

    advances-by : (m k s : ℕ) → to - k ≡ m → s ≤ top → Advances k s (advance size k s m)
    unfolding advance pick add
    advances-by zero k s d f = (f, ap (add lens s) (pieces_end k to (omega arith)))
    advances-by (suc m) k s d f = go (size k) refl (λ x o. advances-by m (suc k) (s + x) (omega arith) o)
      where
        go : (y : ℕ) → size k ≡ y → ((x : ℕ) → s + x ≤ top → Advances (suc k) (s + x) (advance size (suc k) (s + x) m)) → Advances k s (advance size k s (suc m))
        go zero q ih = rw (q, advance) (at-missing k s (omega arith) f q)
        go (suc x) q ih = elim (dec_lt top (s + x)) [
          | yes o ↦ rw (q, lt-ltb top (s + x) o, advance) (at-over k s (omega arith) f x q o)
          | no o ↦
              let i : s + x ≤ top = omega arith in
              rw (q, le-ltb top (s + x) i, advance) (before k s (suc k) (s + x) (advance size (suc k) (s + x) m) (at_more k s (omega arith) f x q i) (ih x i))
        ]

    -- THE LAW of `advance`
    pub advances : (k s : ℕ) → s ≤ top → Advances k s (advance size k s (to - k))
    advances k s f = advances-by (to - k) k s refl f
