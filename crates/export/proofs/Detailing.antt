-- Laws of the numbers of a detail. Assumes nothing.
use Prim.Native.Nat.{ℕ, suc, ◌+◌, ◌*◌, ◌<◌, ◌≤◌}
use mathlib.Core.Path.{◌≡◌, refl, ap, sym, ◌∙◌}
use mathlib.Core.List.{List, [], ◌∷◌, ◌++◌, append_assoc, append-nil}
use native.Mathlib.Omega.{arith}
use lib.ListN.{length, take, get_or, length-append}
use lib.Seq.{take-suc, take_all, length-take-le}
use Rattle.rules.specs.Bytes.{to_little, overwrite}
use Rattle.scan.specs.Stores.{puts}
use Rattle.scan.proofs.Stores.{puts-overwrite}
use Rattle.scan.proofs.Littles.{length-little}
use Rattle.export.specs.Details.{numbers_bytes}

pub length-numbers : (ns : List ℕ) → length (numbers_bytes ns) ≡ 8 * length ns
length-numbers [] = refl
length-numbers (n ∷ ns) = omega (arith, length-append (to_little 8 n) (numbers_bytes ns), length-little 8 n, length-numbers ns)

numbers-then : (ns : List ℕ) (n : ℕ) → numbers_bytes (ns ++ (n ∷ [])) ≡ numbers_bytes ns ++ to_little 8 n
numbers-then [] n = append-nil (to_little 8 n)
numbers-then (m ∷ ns) n = ap (λ (l : List ℕ). to_little 8 m ++ l) (numbers-then ns n) ∙ sym (append_assoc (to_little 8 m) (numbers_bytes ns) (to_little 8 n))

-- the i-th number is stored after those before it
pub numbers-next : (ns l : List ℕ) (i : ℕ) → i < length ns → 8 * length ns ≤ length l
    → puts (overwrite (numbers_bytes (take i ns)) l) (8 * i) (to_little 8 (get_or ns i 0)) ≡ overwrite (numbers_bytes (take (i + 1) ns)) l
numbers-next ns l i h k =
    let e : suc i ≡ i + 1 = omega arith in
    let t : length (take i ns) ≡ i = length-take-le i ns (omega arith) in
    let s : length (numbers_bytes (take i ns)) ≡ 8 * i = omega (arith, length-numbers (take i ns), t) in
    ap (λ (j : ℕ). puts (overwrite (numbers_bytes (take i ns)) l) j (to_little 8 (get_or ns i 0))) (sym s)
    ∙ puts-overwrite (numbers_bytes (take i ns)) (to_little 8 (get_or ns i 0)) l (omega (arith, s, length-little 8 (get_or ns i 0)))
    ∙ ap (λ (x : List ℕ). overwrite x l) (sym (numbers-then (take i ns) (get_or ns i 0)))
    ∙ ap (λ (x : List ℕ). overwrite (numbers_bytes x) l) (sym (take-suc ns i 0 h))
    ∙ ap (λ (k : ℕ). overwrite (numbers_bytes (take k ns)) l) e

pub numbers-all : (ns l : List ℕ) (i : ℕ) → length ns ≤ i → overwrite (numbers_bytes (take i ns)) l ≡ overwrite (numbers_bytes ns) l
numbers-all ns l i h = ap (λ (x : List ℕ). overwrite (numbers_bytes x) l) (take_all i ns h)
