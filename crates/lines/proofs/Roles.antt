-- Laws of the roles of tokens in a list value. Assumes nothing.
use Prim.Native.Nat.{ℕ, ◌+◌, ◌<◌}
use mathlib.Core.Path.{◌≡◌, refl, sym, ◌∙◌, ap}
use mathlib.Core.Bool.{Bool, true, false, ◌&&◌}
use mathlib.Core.List.{List, []}
use native.Mathlib.Decide.{dec_lt}
use native.Mathlib.Omega.{arith}
use lib.Dec.{eqb}
use lib.ListN.{length, drop, get_or-eq_default}
use borrow.Author.Tests.{eq-eqb, ne_eqb}
use Rattle.rules.specs.Bytes.{pick}
use Rattle.rules.specs.Tokens.{Token, token, no_name, is_a, blank_kind, backslash_kind}
use Rattle.rules.specs.Lines.{Role, part, splits, opens, closes, escapes, is_quote, next_is, role_outside, role_inside, role}
use Rattle.rules.proofs.BytesLaws.{false-true}
use Rattle.tokens.specs.Entries.{decode, token_at}
use Rattle.tokens.proofs.TokenLaws.{kind-at, token-cons, token_end}
use Rattle.lines.specs.Quotes.{is_quote_kind}
use Rattle.lines.proofs.Starts.{in_front, none-left}

pub quote-kind : (t : Token) (kind : ℕ) → t.kind ≡ kind → is_quote t ≡ is_quote_kind kind
unfolding is_quote is_a
quote-kind t kind e = rw e

-- outside quotes
module _ (kind : ℕ) (t : Token) (e : t.kind ≡ kind) where
  pub outside-blank : kind ≡ blank_kind → splits ≡ role_outside t
  unfolding role_outside is_a pick
  outside-blank h = rw (e, eq-eqb kind blank_kind h)

  module _ (h : kind ≡ blank_kind → ⊥) (b : Bool) (q : b ≡ is_quote_kind kind) where
    pub outside-quote : b ≡ true → opens ≡ role_outside t
    unfolding role_outside is_a pick
    outside-quote y = rw (quote-kind t kind e, e, ne_eqb kind blank_kind h, sym q ∙ y)

    module _ (y : b ≡ false) where
      pub outside-backslash : kind ≡ backslash_kind → escapes ≡ role_outside t
      unfolding role_outside is_a pick
      outside-backslash k = rw (quote-kind t kind e, e, ne_eqb kind blank_kind h, sym q ∙ y, eq-eqb kind backslash_kind k)

      pub outside-part : (kind ≡ backslash_kind → ⊥) → part ≡ role_outside t
      unfolding role_outside is_a pick
      outside-part k = rw (quote-kind t kind e, e, ne_eqb kind blank_kind h, sym q ∙ y, ne_eqb kind backslash_kind k)

-- the roles outside them, for an attribute
pub ruleset outside = (outside-blank, outside-quote, outside-backslash, outside-part)

-- inside them
module _ (kind next quote : ℕ) (t : Token) (ts : List Token) (e : t.kind ≡ kind) (n : next_is quote ts ≡ eqb next quote) where
  pub inside-quote : kind ≡ quote → closes ≡ role_inside quote t ts
  unfolding role_inside is_a pick
  inside-quote h = rw (e, eq-eqb kind quote h)

  module _ (h : kind ≡ quote → ⊥) where
    pub inside-escape : kind ≡ backslash_kind → next ≡ quote → escapes ≡ role_inside quote t ts
    unfolding role_inside is_a pick
    inside-escape k m = rw (n, e, ne_eqb kind quote h, eq-eqb kind backslash_kind k, eq-eqb next quote m)

    pub inside-other : kind ≡ backslash_kind → (next ≡ quote → ⊥) → part ≡ role_inside quote t ts
    unfolding role_inside is_a pick
    inside-other k m = rw (n, e, ne_eqb kind quote h, eq-eqb kind backslash_kind k, ne_eqb next quote m)

    pub inside-part : (kind ≡ backslash_kind → ⊥) → part ≡ role_inside quote t ts
    unfolding role_inside is_a pick
    inside-part k = rw (e, ne_eqb kind quote h, ne_eqb kind backslash_kind k)

-- the roles inside them, for an attribute
pub ruleset inside = (inside-quote, inside-escape, inside-other, inside-part)

-- the kind of the next token
quote-not-zero : (quote : ℕ) → is_quote_kind quote ≡ true → quote ≡ 0 → ⊥
quote-not-zero quote h z = let e : is_quote_kind quote ≡ false = rw z in false-true e h

module _ (ts : List Token) (i quote : ℕ) (q : Token) (e : q.kind ≡ quote) (kind : ℕ) (k : kind ≡ (token_at ts i).kind) where
  next-is : is_quote_kind quote ≡ true → (next : ℕ) → next ≡ (token_at ts (i + 1)).kind → next_is quote (drop (i + 1) ts) ≡ eqb next quote
  unfolding next_is is_a no_name token
  next-is y next n = go (dec_lt (i + 1) (length ts))
    where
      go : Dec (i + 1 < length ts) → next_is quote (drop (i + 1) ts) ≡ eqb next quote
      go (yes h) = rw (in_front ts (i + 1) h) (ap (λ (k : ℕ). eqb k quote) (sym n))
      go (no h) =
          let z : next ≡ 0 = n ∙ ap (λ (t : Token). t.kind) (get_or-eq_default ts no_name (omega arith)) in
          rw (none-left ts (i + 1) (omega arith)) (sym (ne_eqb next quote (λ y'. quote-not-zero quote y (sym y' ∙ z))))

  pub role-inside : is_quote_kind quote ≡ true → (next : ℕ) → next ≡ (token_at ts (i + 1)).kind → (r : Role)
      → ((t : Token) (ts : List Token) → t.kind ≡ kind → next_is quote ts ≡ eqb next quote → r ≡ role_inside quote t ts)
      → r ≡ role q (token_at ts i) (drop (i + 1) ts)
  unfolding role pick
  role-inside y next n r f = rw (quote-kind q quote e, y, e) (f (token_at ts i) (drop (i + 1) ts) (sym k) (next-is y next n))

  pub role-outside : is_quote_kind quote ≡ false → (r : Role) → ((t : Token) → t.kind ≡ kind → r ≡ role_outside t) → r ≡ role q (token_at ts i) (drop (i + 1) ts)
  unfolding role pick
  role-outside y r f = rw (quote-kind q quote e, y) (f (token_at ts i) (sym k))

-- roles go by kinds alone, so not by the pool
role-by : (q t t' : Token) (ts ts' : List Token) → t.kind ≡ t'.kind → ((kind : ℕ) → next_is kind ts ≡ next_is kind ts') → role q t ts ≡ role q t' ts'
unfolding role role_inside role_outside is_quote is_a
role-by q t t' ts ts' e n = rw (e, n q.kind) refl

role-pool : (count : ℕ) (ws pool pool' : List ℕ) (i : ℕ) (q : Token)
    → role q (token_at (decode count ws pool) i) (drop (i + 1) (decode count ws pool)) ≡ role q (token_at (decode count ws pool') i) (drop (i + 1) (decode count ws pool'))
unfolding next_is is_a
role-pool count ws pool pool' i q =
    role-by q _ _ _ _ (sym (kind-at count ws pool i) ∙ kind-at count ws pool' i) (λ kind. next-by kind (dec_lt (i + 1) count))
  where
    next-by : (kind : ℕ) → Dec (i + 1 < count) → next_is kind (drop (i + 1) (decode count ws pool)) ≡ next_is kind (drop (i + 1) (decode count ws pool'))
    next-by kind (yes h) = rw (token-cons count ws pool (i + 1) h, token-cons count ws pool' (i + 1) h) (ap (λ (k : ℕ). eqb k kind) (sym (kind-at count ws pool (i + 1)) ∙ kind-at count ws pool' (i + 1)))
    next-by kind (no h) = rw (token_end count ws pool (i + 1) (omega arith), token_end count ws pool' (i + 1) (omega arith)) refl

pub role-any : (count : ℕ) (ws : List ℕ) (i quote : ℕ) (ts : List Token) (r : Role) → ts ≡ decode count ws [] → ((q : Token) → q.kind ≡ quote → r ≡ role q (token_at ts i) (drop (i + 1) ts))
    → (pool : List ℕ) (q : Token) → q.kind ≡ quote → r ≡ role q (token_at (decode count ws pool) i) (drop (i + 1) (decode count ws pool))
role-any count ws i quote ts r d f pool q e = f q e ∙ ap (λ (x : List Token). role q (token_at x i) (drop (i + 1) x)) d ∙ role-pool count ws [] pool i q

-- a token that opens quotes is a quote
opens-only : (inside a b blank quote escape : Bool) → opens ≡ pick inside (pick a closes (pick b escapes part)) (pick blank splits (pick quote opens (pick escape escapes part))) → quote ≡ true
unfolding pick
opens-only inside a b blank true escape e = refl
opens-only true true b blank false escape e = cc
opens-only true false true blank false escape e = cc
opens-only true false false blank false escape e = cc
opens-only false a b true false escape e = cc
opens-only false a b false false true e = cc
opens-only false a b false false false e = cc

opens-quote : (q t : Token) (ts : List Token) → opens ≡ role q t ts → is_quote t ≡ true
unfolding role role_inside role_outside
opens-quote q t ts e = opens-only (is_quote q) (is_a q.kind t) (is_a backslash_kind t && next_is q.kind ts) (is_a blank_kind t) (is_quote t) (is_a backslash_kind t) e

pub opens-kind : (ts : List Token) (i quote kind : ℕ) → kind ≡ (token_at ts i).kind → ((q : Token) → q.kind ≡ quote → opens ≡ role q (token_at ts i) (drop (i + 1) ts)) → is_quote_kind kind ≡ true
opens-kind ts i quote kind k f =
    let q : Token = record { kind = quote; text = []; place = 0; source = 0 } in
    sym (quote-kind (token_at ts i) kind (sym k)) ∙ opens-quote q (token_at ts i) (drop (i + 1) ts) (f q refl)
