-- What the lines before token j say is as it was after stores that leave their tokens and cells. Assumes nothing.
use Prim.Native.Nat.{ℕ, zero, suc, ◌+◌, ◌*◌, ◌≤◌, ◌<◌}
use mathlib.Core.Path.{◌≡◌, refl, sym, ◌∙◌, ap, ap₂}
use mathlib.Core.Bool.{Bool, true, false}
use mathlib.Core.List.{List, [], ◌∷◌, ◌++◌, map}
use mathlib.Core.Option.{some}
use native.Mathlib.Omega.{arith}
use lib.ListN.{get_or, take, drop}
use Rattle.rules.specs.Bytes.{pick}
use Rattle.rules.specs.Tokens.{Token, is_a, text_kind}
use Rattle.rules.specs.Lines.{Part, Assignment, Template, string, list, is_string}
use Rattle.tokens.specs.Entries.{decode, token_at}
use Rattle.tokens.proofs.TokenLaws.{kind-at}
use Rattle.workspace.specs.Map.{parts_between, starts_of, ends_of, variable_at, template_at, field_of_entry}
use Rattle.names.specs.Store.{All, Texts}
use Rattle.lines.proofs.Parts.{parts_same, arguments-same, start-same, end_same}
use Rattle.lines.proofs.Turns.{token-same, rest_from}
use Rattle.parser.specs.Parse.{VariableWithin, FieldWithin, EntryWithin, Fresh}

pub record Frame (n j next : ℕ) (ws ws' : List ℕ) : Type 0 where
  pub tokens : (k : ℕ) → k < 4 * j → get_or ws' k 0 ≡ get_or ws k 0
  pub starts : (k : ℕ) → k < j → k < n → get_or ws' (5 * n + k) 0 ≡ get_or ws (5 * n + k) 0
  pub ends : (k : ℕ) → k < j → k < n → get_or ws' (6 * n + k) 0 ≡ get_or ws (6 * n + k) 0
  pub after : (k : ℕ) → 4 * next ≤ k → k < 4 * n → get_or ws' k 0 ≡ get_or ws k 0

pub all_map : (P Q : ℕ → Type 0) → ((k : ℕ) → P k → Q k) → (ks : List ℕ) → All P ks → All Q ks
all_map P Q f [] a = tt
all_map P Q f (k ∷ ks) a = (f k a.0, all_map P Q f ks a.1)

pub all_both : (P Q R : ℕ → Type 0) → ((k : ℕ) → P k → Q k → R k) → (ks : List ℕ) → All P ks → All Q ks → All R ks
all_both P Q R f [] a b = tt
all_both P Q R f (k ∷ ks) a b = (f k a.0 b.0, all_both P Q R f ks a.1 b.1)

pub all_insert : (Q : ℕ → Type 0) (b : ℕ) → Q b → (ks : List ℕ) (p : ℕ) → All Q ks → All Q (take p ks ++ b ∷ drop p ks)
all_insert Q b q [] zero a = (q, tt)
all_insert Q b q [] (suc p) a = (q, tt)
all_insert Q b q (k ∷ ks) zero a = (q, a)
all_insert Q b q (k ∷ ks) (suc p) a = (a.0, all_insert Q b q ks p a.1)

module _ (n count j next : ℕ) (ws ws' : List ℕ) (F : Frame n j next ws ws') (t : count ≤ n) (on : j ≤ count) where
  token-before : (pool : List ℕ) (k : ℕ) → k < j → token_at (decode count ws' pool) k ≡ token_at (decode count ws pool) k
  token-before pool k h = token-same count ws ws' pool k (λ x a b. F.tokens x (omega arith))

  start_before : (k : ℕ) → k < j → get_or (starts_of n ws') k 0 ≡ get_or (starts_of n ws) k 0
  start_before k h = start-same n k ws ws' (F.starts k h)

  end_before : (k : ℕ) → k < j → get_or (ends_of n ws') k 0 ≡ get_or (ends_of n ws) k 0
  end_before k h = end_same n k ws ws' (F.ends k h)

  parts-before : (pool : List ℕ) (k : ℕ) → k < j → get_or (ends_of n ws) k 0 ≤ j
      → parts_between (decode count ws' pool) (get_or (starts_of n ws') k 0) (get_or (ends_of n ws') k 0) ≡ parts_between (decode count ws pool) (get_or (starts_of n ws) k 0) (get_or (ends_of n ws) k 0)
  parts-before pool k h b =
      ap₂ (λ (x y : ℕ). parts_between (decode count ws' pool) x y) (start_before k h) (end_before k h)
      ∙ parts_same count ws ws' pool (get_or (starts_of n ws) k 0) (get_or (ends_of n ws) k 0) (omega arith) (λ x l. F.tokens x (omega arith))

  variable-same : (pool : List ℕ) (k : ℕ) → VariableWithin n j ws k → variable_at (decode count ws' pool) (starts_of n ws') (ends_of n ws') k ≡ variable_at (decode count ws pool) (starts_of n ws) (ends_of n ws) k
  variable-same pool k w = ap₂ (λ (x : Token) (y : List Part). record { key = x; value = y }) (token-before pool k w.key) (parts-before pool k w.key w.high)

  pub variables-same : (pool ks : List ℕ) → All (VariableWithin n j ws) ks
      → map (variable_at (decode count ws' pool) (starts_of n ws') (ends_of n ws')) ks ≡ map (variable_at (decode count ws pool) (starts_of n ws) (ends_of n ws)) ks
  variables-same pool [] a = refl
  variables-same pool (k ∷ ks) a = ap₂ (λ (x : Assignment) (l : List Assignment). x ∷ l) (variable-same pool k a.0) (variables-same pool ks a.1)

  pub variable-within : (to : ℕ) → j ≤ to → (k : ℕ) → VariableWithin n j ws k → VariableWithin n to ws' k
  variable-within to h k w =
      let a = start_before k w.key in
      let b = end_before k w.key in
      record { key = omega (arith, w.key); order = omega (arith, w.order); high = omega (arith, w.high) }

  pub texts-same : (pool ks : List ℕ) → All (VariableWithin n j ws) ks → Texts (decode count ws pool) ks → Texts (decode count ws' pool) ks
  texts-same pool ks a b =
      all_both (VariableWithin n j ws) (λ (k : ℕ). is_a text_kind (token_at (decode count ws pool) k) ≡ true) (λ (k : ℕ). is_a text_kind (token_at (decode count ws' pool) k) ≡ true)
      (λ k w e. rw (token-before pool k w.key) e) ks a b

  -- a field
  module _ (f k : ℕ) (w : FieldWithin n f j ws k) where
    template-same : (pool : List ℕ) → template_at (decode count ws' pool) (starts_of n ws') (ends_of n ws') f k ≡ template_at (decode count ws pool) (starts_of n ws) (ends_of n ws) f k
    unfolding template_at pick
    template-same pool = go (is_string f) refl
      where
        go : (b : Bool) → is_string f ≡ b → template_at (decode count ws' pool) (starts_of n ws') (ends_of n ws') f k ≡ template_at (decode count ws pool) (starts_of n ws) (ends_of n ws) f k
        go true e = rw e (ap string (parts-before pool k w.key (w.string e).high))
        go false e =
            rw (e, start_before k w.key, end_before k w.key)
            (ap list
            (arguments-same (decode count ws pool) (decode count ws' pool) (starts_of n ws) (starts_of n ws') (ends_of n ws) (ends_of n ws') (get_or (starts_of n ws) k 0) (get_or (ends_of n ws) k 0)
            (λ i a b. parts-before pool i (omega (arith, w.rows e)) (w.arguments e i a b).high)))

    field-within : (to : ℕ) → j ≤ to → FieldWithin n f to ws' k
    field-within to h =
        let a = start_before k w.key in
        let b = end_before k w.key in
        record {
          key = omega (arith, w.key);
          string = λ e. variable-within to h k (w.string e);
          rows = λ e. omega (arith, w.rows e);
          arguments = λ e i p q.
              let r = w.arguments e i (omega arith) (omega arith) in
              let m = w.rows e in
              let x = start_before i (omega arith) in
              let y = end_before i (omega arith) in
              record { low = omega (arith, r.low); order = omega (arith, r.order); high = omega (arith, r.high) };
        }

  pub field-same : (pool : List ℕ) (f e : ℕ) → EntryWithin n f j ws e → field_of_entry (decode count ws' pool) (starts_of n ws') (ends_of n ws') f e ≡ field_of_entry (decode count ws pool) (starts_of n ws) (ends_of n ws) f e
  unfolding field_of_entry
  field-same pool f zero w = refl
  field-same pool f (suc k) w =
      ap₂ (λ (x : Token) (y : Template). some (record { number = f; key = x; value = y })) (token-before pool k w.key) (template-same f k w pool)

  pub entry-within : (f to e : ℕ) → j ≤ to → EntryWithin n f j ws e → EntryWithin n f to ws' e
  entry-within f to zero h w = tt
  entry-within f to (suc k) h w = field-within f k w to h

  -- the tokens from `next` on
  pub left-same : (pool : List ℕ) → drop next (decode count ws' pool) ≡ drop next (decode count ws pool)
  left-same pool = rest_from count next ws ws' pool (λ k a b. F.after k a (omega arith))

  pub fresh-same : j ≤ next → Fresh count j ws → Fresh count next ws'
  fresh-same h f k a b e =
      let x : token_at (decode count ws' []) k ≡ token_at (decode count ws []) k = token-same count ws ws' [] k (λ i p q. F.after i (omega arith) (omega arith)) in
      f k (omega arith) b (kind-at count ws [] k ∙ sym (ap (λ (u : Token). u.kind) x) ∙ sym (kind-at count ws' [] k) ∙ e)
