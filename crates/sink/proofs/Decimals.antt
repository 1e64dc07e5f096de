-- Laws of numbers in decimal. Assumes nothing.
use Prim.Native.Nat.{ℕ, zero, suc, ◌+◌, ◌-◌, ◌/◌, ◌%◌, ◌^◌, ◌<◌, ◌≤◌}
use mathlib.Core.Path.{◌≡◌, refl, ap, sym, ◌∙◌}
use mathlib.Core.Bool.{Bool, true, false}
use mathlib.Core.List.{List, [], ◌∷◌, ◌++◌}
use native.Mathlib.Nat.{pow-suc}
use native.Mathlib.Omega.{arith}
use lib.Dec.{ltb}
use lib.ListN.{length, set, length-append, length-set}
use borrow.Author.Tests.{lt-ltb, le-ltb, ltb-true, ltb-false}
use Rattle.rules.specs.Listing.{digits, decimal}
use Rattle.scan.specs.Stores.{puts}
use Rattle.scan.proofs.Stores.{puts-puts, puts_comm}

-- enough fuel is enough
digits_same : (f g n : ℕ) → n < f → n < g → digits f n ≡ digits g n
unfolding digits
digits_same zero g n p q = absurd (omega arith)
digits_same (suc f) zero n p q = absurd (omega arith)
digits_same (suc f) (suc g) n p q = go (ltb n 10) refl (λ m a b. digits_same f g m a b)
  where
    go : (t : Bool) → ltb n 10 ≡ t → ((m : ℕ) → m < f → m < g → digits f m ≡ digits g m) → digits (suc f) n ≡ digits (suc g) n
    go true e ih = rw (e, digits) refl
    go false e ih =
        let h : 10 ≤ n = ltb-false n 10 e in
        rw (e, digits) (rw (ih (n / 10) (omega arith) (omega arith)) refl)

pub decimal-small : (n : ℕ) → n < 10 → decimal n ≡ (48 + n) ∷ []
unfolding decimal digits
decimal-small n h = rw (lt-ltb n 10 h, digits) refl

pub decimal-more : (n : ℕ) → 10 ≤ n → decimal n ≡ decimal (n / 10) ++ ((48 + n % 10) ∷ [])
unfolding decimal digits
decimal-more n h = rw (le-ltb n 10 h, digits) (rw (digits_same n (suc (n / 10)) (n / 10) (omega arith) (omega arith)) refl)

pub length-small : (n : ℕ) → n < 10 → length (decimal n) ≡ 1
length-small n h = ap length (decimal-small n h)

pub length_more : (n : ℕ) → 10 ≤ n → length (decimal n) ≡ length (decimal (n / 10)) + 1
length_more n h = ap length (decimal-more n h) ∙ length-append (decimal (n / 10)) ((48 + n % 10) ∷ [])

-- a number below a power of ten has no more digits
pub decimal-short : (k n : ℕ) → n < 10 ^ suc k → length (decimal n) ≤ suc k
decimal-short zero n h = omega (arith, length-small n h)
decimal-short (suc k) n h = go (ltb n 10) refl (λ m a. decimal-short k m a)
  where
    go : (t : Bool) → ltb n 10 ≡ t → ((m : ℕ) → m < 10 ^ suc k → length (decimal m) ≤ suc k) → length (decimal n) ≤ suc (suc k)
    go true e ih = omega (arith, length-small n (ltb-true n 10 e))
    go false e ih = omega (arith, length_more n (ltb-false n 10 e), ih (n / 10) (omega (arith, pow-suc 10 (suc k))))

-- put_decimal: the digits of `rest` are left, and end before `i`
pub record Left (out₀ : List ℕ) (at n : ℕ) (out : List ℕ) (rest i : ℕ) : Type 0 where
  pub is_end : i ≡ at + length (decimal rest)
  pub room : i ≤ length out₀
  pub same : length out ≡ length out₀
  pub bytes : puts out at (decimal rest) ≡ puts out₀ at (decimal n)

module _ {out₀ : List ℕ} {at n : ℕ} {out : List ℕ} {rest i : ℕ} (l : Left out₀ at n out rest i) where
  pub left-some : at < i
  left-some = go (ltb rest 10) refl
    where
      go : (t : Bool) → ltb rest 10 ≡ t → at < i
      go true e = omega (arith, l.is_end, length-small rest (ltb-true rest 10 e))
      go false e = omega (arith, l.is_end, length_more rest (ltb-false rest 10 e))

  -- a turn: the last digit is stored, the others are left
  pub left-turn : 10 ≤ rest → Left out₀ at n (set out (i - 1) (48 + rest % 10)) (rest / 10) (i - 1)
  left-turn h =
      let more = rest / 10 in
      let e : i - 1 ≡ at + length (decimal more) = omega (arith, l.is_end, length_more rest h) in
      record {
        is_end = e;
        room = omega (arith, l.room);
        same = rw length-set l.same;
        bytes =
            ap (λ (k : ℕ). puts (set out k (48 + rest % 10)) at (decimal more)) e ∙ sym (puts_comm out at (at + length (decimal more)) (decimal more) ((48 + rest % 10) ∷ []) (omega arith))
            ∙ puts-puts out at (decimal more) ((48 + rest % 10) ∷ []) ∙ ap (puts out at) (sym (decimal-more rest h)) ∙ l.bytes;
      }

  pub left_one : rest < 10 → set out at (48 + rest) ≡ puts out₀ at (decimal n)
  left_one h = ap (puts out at) (sym (decimal-small rest h)) ∙ l.bytes
