-- Looking up where the columns before the ranks are the front of a workspace. Assumes nothing.
use Prim.Native.Nat.{ℕ, ◌+◌, ◌*◌, ◌-◌, ◌≤◌}
use mathlib.Core.Path.{◌≡◌, sym, ◌∙◌, ap, ap₂}
use mathlib.Core.List.{List, ◌++◌}
use native.Mathlib.Nat.{add-zero}
use native.Mathlib.Omega.{arith}
use lib.ListN.{length, take, drop, length-drop, take-append-drop}
use lib.Seq.{get_or-take, take-take}
use Rattle.rules.specs.Bytes.{overwrite}
use Rattle.rules.specs.Tokens.{Token}
use Rattle.scan.specs.Stores.{puts}
use Rattle.scan.proofs.Lists.{part-some}
use Rattle.scan.proofs.Stores.{take-puts, drop-puts-inside, puts-front}
use Rattle.tokens.specs.Entries.{decode}
use Rattle.tokens.proofs.TokenLaws.{length-decode, decode-same}
use Rattle.workspace.specs.Map.{keys_of, variables_in}
use Rattle.names.specs.Store.{ranks, Lookable}
use Rattle.names.specs.Named.{named, Searchable}
use Rattle.names.proofs.Naming.{search-names, ranks-in}
use Rattle.names.proofs.Moves.{drop-take}
use Rattle.names.proofs.Lookups.{length-ranks}

module _ (n count v : ℕ) (ws pool front : List ℕ) (ts : List Token) (e : front ≡ take (7 * n) ws) (d : ts ≡ decode count front pool) (L : Lookable n count v ws pool) where
  is_tokens : ts ≡ decode count ws pool
  is_tokens = let t = L.search.tokens in d ∙ rw e (decode-same count ws (take (7 * n) ws) pool (λ k q. get_or-take (7 * n) ws k 0 (omega arith)))

  is_keys : take (4 * n + v - 4 * n) (drop (4 * n) front) ≡ keys_of n v ws
  is_keys =
      let few = L.search.few in
      let m : 7 * n ≡ 4 * n + 3 * n = omega arith in
      part-some front (4 * n) v ∙ ap (λ (l : List ℕ). take v (drop (4 * n) l)) (e ∙ ap (λ (k : ℕ). take k ws) m)
      ∙ ap (take v) (drop-take (4 * n) (3 * n) ws (omega (arith, L.room))) ∙ take-take v (3 * n) (drop (4 * n) ws) (omega arith)

  pub front-search : Searchable ts (take (4 * n + v - 4 * n) (drop (4 * n) front))
  front-search = rw (is_tokens, is_keys) (search-names (4 * n) n count v ws pool L.search)

  pub front-room : (rest : List ℕ) → length rest + 7 * n ≡ length ws → length ts ≤ length rest
  front-room rest h = rw is_tokens (omega (arith, length-decode count ws pool, L.search.tokens, L.room))

  pub front-looked : (column column' : List ℕ) → column ≡ drop (7 * n) ws → column' ≡ overwrite (ranks (named ts (take (4 * n + v - 4 * n) (drop (4 * n) front))) ts) column
      → front ++ column' ≡ puts ws (7 * n) (ranks (variables_in n count v ws pool) (decode count ws pool))
  front-looked column column' b q =
      let us = ranks (variables_in n count v ws pool) (decode count ws pool) in
      let x : column' ≡ overwrite us (drop (7 * n) ws) = rw (is_tokens, is_keys, ranks-in (4 * n) n count v ws pool, b) at q in
      let y : drop (7 * n) (puts ws (7 * n) us) ≡ overwrite us (drop (7 * n) ws) =
      ap (λ (k : ℕ). drop (7 * n) (puts ws k us)) (sym (add-zero (7 * n))) ∙ drop-puts-inside (7 * n) ws 0 us
      ∙ puts-front (drop (7 * n) ws) us (omega (arith, length-drop (7 * n) ws, length-ranks (variables_in n count v ws pool) (decode count ws pool), length-decode count ws pool, L.search.tokens, L.room)) in
      ap₂ (λ (a b : List ℕ). a ++ b) (e ∙ sym (take-puts (7 * n) ws (7 * n) us (omega arith))) (x ∙ sym y) ∙ take-append-drop (7 * n) (puts ws (7 * n) us)
