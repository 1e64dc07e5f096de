-- Laws of runs that are passed a block at a time. Assumes nothing.
use Prim.Native.Nat.{ℕ, zero, suc, ◌+◌, ◌-◌, ◌≤◌, ◌<◌}
use mathlib.Core.Path.{◌≡◌, refl, ◌∙◌, ap}
use mathlib.Core.Bool.{Bool, true, false, not}
use mathlib.Core.List.{List, [], ◌∷◌}
use native.Mathlib.Nat.{add-zero}
use native.Mathlib.Omega.{arith}
use lib.Dec.{T, ltb}
use lib.ListN.{length, take, drop, get_or, length-drop}
use lib.Seq.{drop-drop}
use borrow.Author.Tests.{ltb-true, ltb-false}
use Rattle.rules.specs.Bytes.{pick, is, within, run}
use Rattle.rules.specs.Lexing.{is_identifier, is_line_end, class}
use Rattle.rules.proofs.LexingLaws.{run-le}
use Rattle.scan.specs.Classes.{class_number}
use Rattle.scan.proofs.Classes.{is-other}
use Rattle.scan.proofs.Lists.{cell_in, length_part}
use Rattle.scan.proofs.Table.{up_to, up_to-at, same, same-eq}
use Rattle.std.specs.List.{list_any}
use Rattle.std.proofs.lemmas.List.Folds.{list_any_at}
use Rattle.rules.proofs.BytesLaws.{false-true}
use Rattle.lexer.specs.Marks.{text_stop, free, OnRun}
use Rattle.lexer.specs.Pieces.{is_plain}
use Rattle.lexer.proofs.Lexemes.{on-more}

-- where no byte passes a test, none at any place does
pub none_in : (p : ℕ → Bool) (bs : List ℕ) → list_any p bs ≡ false → (k : ℕ) → k < length bs → p (get_or bs k 0) ≡ false
none_in p bs e k l = go (p (get_or bs k 0)) refl
  where
    go : (t : Bool) → p (get_or bs k 0) ≡ t → p (get_or bs k 0) ≡ false
    go true q = absurd (false-true e (list_any_at p bs k 0 l q))
    go false q = q

-- past bytes that stop nothing, and past a block of them
module _ (stop : ℕ → Bool) (t : List ℕ) (i : ℕ) where
  pub on_all : (n j : ℕ) → ((k : ℕ) → k < n → stop (get_or t (j + k) 0) ≡ false) → j + n ≤ length t → OnRun (free stop) t i j → OnRun (free stop) t i (j + n)
  on_all zero j f h o = rw add-zero o
  on_all (suc n) j f h o =
      let e : j + suc n ≡ j + n + 1 = omega arith in
      rw e (on-more (free stop) t i (j + n) (on_all n j (λ k l. f k (omega arith)) (omega arith) o) (omega arith) (ap not (f n (omega arith))))

  pub on_block : (j : ℕ) → j + 16 ≤ length t → list_any stop (take (j + 16 - j) (drop j t)) ≡ false → OnRun (free stop) t i j → OnRun (free stop) t i (j + 16)
  on_block j h f o =
      let e : j + 16 - j ≡ 16 = omega arith in
      let l : length (take 16 (drop j t)) ≡ 16 = length_part t j 16 h in
      let g : list_any stop (take 16 (drop j t)) ≡ false = rw e at f in
      on_all 16 j (λ k m. rw (cell_in t j 16 k m) (none_in stop (take 16 (drop j t)) g k (omega arith))) h o

-- a byte that stops no text: one computed test of all 256
clear : ℕ → Bool
clear b = pick (text_stop b) true (same (is_plain b) true)

all-clear : T (up_to 256 clear)
unfolding clear text_stop is_plain class class_number is_identifier is_line_end is within pick
all-clear = tt

free-text : (b : ℕ) → free text_stop b ≡ true → is_plain b ≡ true
unfolding clear pick is_plain class_number
free-text b e = go (ltb b 256) refl
  where
    off : (s : Bool) → not s ≡ true → s ≡ false
    off false q = refl
    off true q = cc

    go : (t : Bool) → ltb b 256 ≡ t → is_plain b ≡ true
    go true l = same-eq (is_plain b) true (rw (off (text_stop b) e) at (up_to-at 256 clear all-clear b (ltb-true b 256 l)))
    go false l = rw (is-other b (ltb-false b 256 l))

-- a run of bytes of which each also passes another test: the run by that test goes over it
run-over : (f g : ℕ → Bool) → ((b : ℕ) → f b ≡ true → g b ≡ true) → (bs : List ℕ) → run g bs ≡ run f bs + run g (drop (run f bs) bs)
unfolding run
run-over f g p [] = refl
run-over f g p (b ∷ bs) = go (f b) refl (run-over f g p bs)
  where
    go : (t : Bool) → f b ≡ t → run g bs ≡ run f bs + run g (drop (run f bs) bs) → run g (b ∷ bs) ≡ run f (b ∷ bs) + run g (drop (run f (b ∷ bs)) (b ∷ bs))
    go true q ih =
        let m : run f (b ∷ bs) ≡ suc (run f bs) = rw (q, run) in
        let n : run g (b ∷ bs) ≡ suc (run g bs) = rw (p b q, run) in
        rw m (omega arith)
    go false q ih = let m : run f (b ∷ bs) ≡ 0 = rw (q, run) in rw m (omega arith)

-- what is plain from place i on ends where that does which is plain from place j on, past the bytes that stop no text
module _ (text : List ℕ) (i j : ℕ) (e : j ≡ i + run (free text_stop) (drop i text)) where
  pub text-over : (r : ℕ) → r ≡ j + run is_plain (drop j text) → r ≡ i + run is_plain (drop i text)
  text-over r d =
      let a = run-over (free text_stop) is_plain free-text (drop i text) in
      let b : drop (run (free text_stop) (drop i text)) (drop i text) ≡ drop j text = drop-drop (run (free text_stop) (drop i text)) i text ∙ rw e in
      let c : run is_plain (drop i text) ≡ run (free text_stop) (drop i text) + run is_plain (drop j text) = a ∙ rw b in
      omega arith

  pub text-inside : i ≤ length text → j ≤ length text
  text-inside h = omega (arith, run-le (free text_stop) (drop i text), length-drop i text)
