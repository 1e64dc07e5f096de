-- Laws of what is left of a list, of parts and of cells. Assumes nothing.
use Prim.Native.Nat.{ℕ, ◌+◌, ◌-◌, ◌≤◌, ◌<◌}
use mathlib.Core.Path.{◌≡◌, sym, ◌∙◌}
use mathlib.Core.List.{List, ◌∷◌}
use native.Mathlib.Omega.{arith}
use native.Mathlib.Numerals.{add-one}
use lib.ListN.{length, get_or, take, drop, length-drop, length-take, drop_of_length-le, get_or-eq_default}
use lib.Seq.{drop-cons, take_all, take-nil, drop-length, get_or-take, get_or-drop, length-take-le}

-- what is left at place i: the entry there, and what is left after it
pub rest_at : (t : List ℕ) (i : ℕ) → i < length t → drop i t ≡ get_or t i 0 ∷ drop (i + 1) t
rest_at t i h = rw (add-one, drop-cons t i 0)

-- parts: past the end, up to the end, inside
pub part_none : (s : List ℕ) (start len : ℕ) → length s ≤ start → take (length s - length s) (drop (length s) s) ≡ take len (drop start s)
part_none s start len h = rw (drop-length, drop_of_length-le s h, take-nil, take-nil)

pub part-rest : (s : List ℕ) (start len : ℕ) → start < length s → length s - start ≤ len → take (length s - start) (drop start s) ≡ take len (drop start s)
part-rest s start len h q =
    let d = length-drop start s in
    take_all (length s - start) (drop start s) (omega arith) ∙ sym (take_all len (drop start s) (omega arith))

pub part-some : (s : List ℕ) (start len : ℕ) → take (start + len - start) (drop start s) ≡ take len (drop start s)
part-some s start len = let e : start + len - start ≡ len = omega arith in rw e

pub length_part : (s : List ℕ) (start len : ℕ) → start + len ≤ length s → length (take len (drop start s)) ≡ len
length_part s start len h = length-take-le len (drop start s) (omega (arith, length-drop start s))

-- cells of a column: inside, past the column
pub cell_in : (ws : List ℕ) (base n k : ℕ) → k < n → get_or ws (base + k) 0 ≡ get_or (take n (drop base ws)) k 0
cell_in ws base n k h = sym (get_or-take n (drop base ws) k 0 h ∙ get_or-drop base ws k 0)

pub cell-past : (ws : List ℕ) (base n k : ℕ) → n ≤ k → 0 ≡ get_or (take n (drop base ws)) k 0
cell-past ws base n k h = sym (get_or-eq_default (take n (drop base ws)) 0 (omega (arith, length-take n (drop base ws))))
