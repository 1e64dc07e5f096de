-- Laws of the remembered places. Assumes nothing.
use Prim.Native.Nat.{ℕ, ◌+◌, ◌*◌, ◌/◌, ◌%◌, ◌≤◌, ◌<◌}
use mathlib.Core.Path.{◌≡◌, refl, ◌∙◌}
use mathlib.Core.List.{List, [], ◌∷◌, ◌++◌, append_assoc}
use native.Mathlib.Nat.{div-add-mod'}
use native.Mathlib.Omega.{arith}
use lib.ListN.{length, get_or, take, drop, set, replicate, length-set, get_or-replicate}
use lib.Seq.{take_at, get_or-set_same, get_or-set_other}
use Rattle.scan.specs.Stores.{puts}
use Rattle.scan.proofs.Stores.{drop-stored}
use Rattle.workspace.specs.Map.{Room}
use Rattle.writer.specs.Writing.{place_in}

-- what was stored first stands there
pub stands_here : (l : List ℕ) (at : ℕ) (v rest : List ℕ) → at + length (v ++ rest) ≤ length l → take (length v) (drop at (puts l at (v ++ rest))) ≡ v
stands_here l at v rest h = rw (drop-stored l at (v ++ rest) h, append_assoc v rest (drop (at + length (v ++ rest)) l)) (take_at v _ (length v) refl)

-- a place is read back as it was remembered, and the others stay
pub place_same : (places : List ℕ) (j x : ℕ) → 2 * j + 1 < length places → place_in (puts places (2 * j) (x % 2147483648 ∷ x / 2147483648 ∷ [])) j ≡ x
place_same places j x h =
    let a = 2 * j in
    let p : get_or (set (set places a (x % 2147483648)) (a + 1) (x / 2147483648)) a 0 ≡ x % 2147483648 =
    get_or-set_other (set places a (x % 2147483648)) (a + 1) a (x / 2147483648) 0 (omega arith) ∙ get_or-set_same places a (x % 2147483648) 0 (omega arith) in
    let q : get_or (set (set places a (x % 2147483648)) (a + 1) (x / 2147483648)) (a + 1) 0 ≡ x / 2147483648 =
    get_or-set_same (set places a (x % 2147483648)) (a + 1) (x / 2147483648) 0 (simp length-set h) in
    rw (p, q) (omega (arith, div-add-mod' x 2147483648))

pub place_other : (places : List ℕ) (j k x y : ℕ) → (k ≡ j → ⊥) → place_in (puts places (2 * j) (x ∷ y ∷ [])) k ≡ place_in places k
place_other places j k x y d =
    let a = 2 * j in
    let b = 2 * k in
    rw (
      get_or-set_other (set places a x) (a + 1) b y 0 (λ z. d (omega arith)),
      get_or-set_other places a b x 0 (λ z. d (omega arith)),
      get_or-set_other (set places a x) (a + 1) (b + 1) y 0 (λ z. d (omega arith)),
      get_or-set_other places a (b + 1) x 0 (λ z. d (omega arith)),
    )

pub forgotten : (m j : ℕ) → 2 * j + 1 < m → place_in (replicate m 0) j ≡ 0
forgotten m j h = rw (get_or-replicate {A = ℕ} m (2 * j) 0 0 (omega arith), get_or-replicate {A = ℕ} m (2 * j + 1) 0 0 h)

-- the scratch suffices: a frame for each name at once beside all places
pub scratch-fits : {n count v : ℕ} {ws : List ℕ} → Room n count v ws → 9 * n + 2 * v + 3 * v ≤ 12 * n
scratch-fits r = omega (arith, r.few, r.tokens)
