-- Names: the empty name is never assigned; the names of a detail stand in the pool after the call. Assumes nothing.
use Prim.Native.Nat.{ℕ, zero, suc, ◌+◌, ◌<◌, ◌≤◌}
use mathlib.Core.Path.{◌≡◌, refl, ap, sym, ◌∙◌, subst}
use mathlib.Core.Bool.{Bool, true, false}
use mathlib.Core.List.{List, [], ◌∷◌, ◌++◌, map}
use mathlib.Core.Option.{Option, none, some}
use native.Mathlib.Omega.{arith}
use lib.ListN.{length, take, drop}
use lib.Dec.{ltb, eqb}
use borrow.Author.Tests.{eqb-true, le-leb}
use Rattle.rules.specs.Bytes.{same, overwrite, pick}
use Rattle.rules.specs.Tokens.{Token, token, no_name, is_a, pooled, shown_name, text_kind, variable_kind}
use Rattle.rules.specs.Numbers.{lex_error, Refusal, in_variable, in_field, unexpected_at_start, unexpected_after_key, ended_after_key, invalid_variable_name, duplicate_variable, unknown_field, duplicate_field, unterminated_quote, undefined_variable, content_too_large, Detail, detail, details, no_detail, field_of, refusal_detail, variable_of, Result, refused, ok, ◌>>=◌}
use Rattle.rules.specs.Lexing.{Lexeme, Gathered, nothing_yet, gather, class, lexeme, prepend, text_token, flush, lex, tokens, pool_of}
use Rattle.rules.specs.Lines.{Part, Assignment, Field, File, Template, assigned, field_at}
use Rattle.rules.specs.Variables.{limit, rank_of, Found, Expansion, found_at, bounded, expand, look_up, resolve_variables}
use Rattle.rules.specs.Fields.{Content, expanded, resolve_parts, resolve_arguments, resolve_template, fields_from, resolve_fields}
use Rattle.rules.specs.Records.{records}
use Rattle.rules.specs.Reading.{file, records_of_file, reading}
use Rattle.rules.specs.Reader.{Buffers, read_buffers, pool_after, written, untouched, read}
use Rattle.rules.specs.Demand3.{At, here, there, Assigned, Upto}
use Rattle.rules.proofs.TableLaws.{Sorted, file-sorted, bind_ok, ok-one, refused-ok}
use Rattle.rules.proofs.LexingLaws.{Fits, lexeme-fits, lex-chars, lex-reference, lex-mark, lex-bad, prepend-ok, In, name-in-pool}
use Rattle.rules.proofs.TokenLaws.{Each, InParts, InAll, InTemplate, IsKey, InVariables, InFields, InFile, Carried, Gives, file-gives}
use Rattle.rules.proofs.Demand3Laws.{lacks-exactly}
use Rattle.rules.proofs.OutcomeLaws.{OneOf, one_of, large-name}
use Rattle.rules.proofs.RefusalLaws.{stage, resolving, Only, OnLexing, OnLines, lex-only, file-only}
use Rattle.rules.proofs.CallLaws.{Checked, checked}

-- a Text token is not empty
abbrev pub NotEmpty : Token → Type 0
NotEmpty t = is_a text_kind t ≡ true → 0 < length t.text

each_append : (P : Token → Type 0) (ts us : List Token) → Each P ts → Each P us → Each P (ts ++ us)
each_append P [] us h k = k
each_append P (t ∷ ts) us h k = (h.0, each_append P ts us h.1 k)

-- what holds of every Text, every Variable and every other token that lexing can make
pub record EachKind (P : Token → Type 0) : Type 0 where
  pub texts : (b : ℕ) (bs : List ℕ) (place source : ℕ) → P (token text_kind (b ∷ bs) place source)
  pub variables : (name : List ℕ) (place source : ℕ) → P (token variable_kind name place source)
  pub marks : (kind b source : ℕ) → variable_kind < kind → P (token kind (b ∷ []) 0 source)

module _ (P : Token → Type 0) (k : EachKind P) where
  flush-each : (end : ℕ) (g : Gathered) → Each P (flush end g)
  unfolding flush text_token
  flush-each end g = go g.text
    where
      go : (s : List ℕ) → Each P (text_token end g.source s)
      go [] = tt
      go (b ∷ bs) = (k.texts b bs end g.source, tt)

  lex-each : (bs : List ℕ) (end : ℕ) (g : Gathered) (skip at : ℕ) (ts : List Token) → lex end g skip at bs ≡ ok ts → Each P ts
  unfolding lex
  lex-each [] end g skip at ts e = subst (λ (us : List Token). Each P us) (ok-one e) (flush-each end g)
  lex-each (b ∷ bs) end g (suc skip) at ts e = lex-each bs end g skip (suc at) ts e
  lex-each (b ∷ bs) end g zero at ts e = go (lexeme (class b) b bs) refl (lexeme-fits (class b) b bs) (λ end' g' n us e'. lex-each bs end' g' n (suc at) us e')
    where
      more : (t : Token) (n next : ℕ) → P t → ((end' : ℕ) (g' : Gathered) (n : ℕ) (us : List Token) → lex end' g' n (suc at) bs ≡ ok us → Each P us)
          → prepend (flush end g ++ (t ∷ [])) (lex next nothing_yet n (suc at) bs) ≡ ok ts → Each P ts
      more t n next h ih e' =
          let x = prepend-ok (flush end g ++ (t ∷ [])) (lex next nothing_yet n (suc at) bs) ts e' in
          rw x.2 (each_append P (flush end g ++ (t ∷ [])) x.0 (each_append P (flush end g) (t ∷ []) (flush-each end g) (h, tt)) (ih next nothing_yet n x.0 x.1))

      go : (x : Lexeme) → lexeme (class b) b bs ≡ x → Fits bs x → ((end' : ℕ) (g' : Gathered) (n : ℕ) (us : List Token) → lex end' g' n (suc at) bs ≡ ok us → Each P us) → Each P ts
      go (Lexeme.chars cs n) q f ih = ih end (gather g cs at) n ts (sym (lex-chars end g at b bs cs n q) ∙ e)
      go (Lexeme.reference name n) q f ih =
          more (token variable_kind name (end + length g.text) at) n (end + length g.text + length name) (k.variables name (end + length g.text) at) ih (sym (lex-reference end g at b bs name n q) ∙ e)
      go (Lexeme.mark kind n) q f ih = more (token kind (b ∷ []) 0 at) n (end + length g.text) (k.marks kind b at f.1) ih (sym (lex-mark end g at b bs kind n q) ∙ e)
      go (Lexeme.bad x) q f ih = absurd (refused-ok (sym (lex-bad end g at b bs x q) ∙ e))

  pub tokens-each : (input : List ℕ) (ts : List Token) → tokens input ≡ ok ts → Each P ts
  unfolding tokens
  tokens-each input ts e = lex-each input 0 nothing_yet 0 0 ts e

pub tokens-not-empty : (input : List ℕ) (ts : List Token) → tokens input ≡ ok ts → Each NotEmpty ts
unfolding token is_a
tokens-not-empty input ts e =
    tokens-each NotEmpty (record {
      texts = λ b bs p s q. omega arith;
      variables = λ n p s q. let z : ◌≡◌ {A = ℕ} 0 1 = cc in absurd (omega (arith, z));
      marks = λ x b s h q. omega arith;
    })
    input ts e

none-empty : (vs : List Assignment) → InVariables NotEmpty vs → assigned [] vs ≡ false
unfolding assigned same
none-empty [] h = refl
none-empty (v ∷ vs) h = go v.key.text refl (none-empty vs h.1)
  where
    go : (s : List ℕ) → v.key.text ≡ s → assigned [] vs ≡ false → assigned [] (v ∷ vs) ≡ false
    go [] q ih = absurd (omega (arith, h.0.0.0 h.0.0.1, ap length q))
    go (b ∷ bs) q ih = rw (q, assigned, same) ih

-- "zero characters are allowed, and that name is never assigned"
pub empty-never-assigned : (input : List ℕ) (x : File) → file input ≡ ok x → assigned [] x.variables ≡ false
unfolding file
empty-never-assigned input x e =
    let y = bind_ok (tokens input) _ x e in
    let z : Gives NotEmpty (InFile NotEmpty) (ok x) = rw e at (file-gives NotEmpty input y.0 y.1 (tokens-not-empty input y.0 y.1)) in
    none-empty x.variables z.0

-- the token's name stands in the pool at its own place
abbrev pub StandsIn : List ℕ → Token → Type 0
StandsIn pool t = take (length t.text) (drop t.place pool) ≡ t.text

abbrev Pooled : List ℕ → Token → Type 0
Pooled pool t = pooled t ≡ true → StandsIn pool t

each_in : (P : Token → Type 0) (ts : List Token) → ((t : Token) → In t ts → P t) → Each P ts
each_in P [] f = tt
each_in P (t ∷ ts) f = (f t In.first, each_in P ts (λ u m. f u (In.later m)))

tokens-stand : (input : List ℕ) (ts : List Token) → tokens input ≡ ok ts → Each (Pooled (pool_of ts)) ts
tokens-stand input ts e = each_in (Pooled (pool_of ts)) ts (λ t m p. name-in-pool input ts e t m p)

-- what stands in a list stands in each longer one
take-longer : (n : ℕ) (l r : List ℕ) → length (take n l) ≡ n → take n (l ++ r) ≡ take n l
take-longer zero l r h = refl
take-longer (suc n) [] r h = absurd (omega (arith, h))
take-longer (suc n) (x ∷ l) r h = ap (λ (y : List ℕ). x ∷ y) (take-longer n l r (omega (arith, h)))

stands-longer : (s : List ℕ) (p : ℕ) (l r : List ℕ) → take (length s) (drop p l) ≡ s → take (length s) (drop p (l ++ r)) ≡ s
stands-longer s zero l r h = take-longer (length s) l r (ap length h) ∙ h
stands-longer [] (suc p) [] r h = refl
stands-longer (x ∷ s) (suc p) [] r h = let z : ◌≡◌ {A = ℕ} 0 1 = cc in absurd (omega (arith, z))
stands-longer s (suc p) (y ∷ l) r h = stands-longer s p l r h

-- both names of a detail stand in the pool
abbrev pub BothStand : List ℕ → Detail → Type 0
BothStand pool d = StandsIn pool d.first × StandsIn pool d.second

module _ (pool : List ℕ) where
  abbrev P : Token → Type 0
  P t = Pooled pool t

  none-stands : StandsIn pool no_name
  unfolding no_name token
  none-stands = refl

  shown-stands : (t : Token) → P t → StandsIn pool (shown_name t)
  unfolding shown_name pick
  shown-stands t h = go (pooled t) refl
    where
      go : (b : Bool) → pooled t ≡ b → StandsIn pool (shown_name t)
      go true q = rw (q, shown_name) (h q)
      go false q = rw (q, shown_name) none-stands

  kind-pooled : (t : Token) (kind : ℕ) → is_a kind t ≡ true → kind ≤ variable_kind → pooled t ≡ true
  unfolding is_a pooled
  kind-pooled t kind e l = let z : t.kind ≡ kind = eqb-true t.kind kind e in le-leb t.kind variable_kind (omega (arith, z, l))

  key-stands : (k : Token) → IsKey P k → StandsIn pool k
  key-stands k h = h.0 (kind-pooled k text_kind h.1 (omega arith))

  reference-stands : (n : Token) → P n × (is_a variable_kind n ≡ true) → StandsIn pool n
  reference-stands n h = h.0 (kind-pooled n variable_kind h.1 (omega arith))

  -- the refusals of lexing and of lines
  abbrev OfLines : Refusal → Type 0
  OfLines (lex_error e at) = Unit {0}
  OfLines (unexpected_at_start t) = Unit {0}
  OfLines (unexpected_after_key t) = Unit {0}
  OfLines ended_after_key = Unit {0}
  OfLines (invalid_variable_name k) = Unit {0}
  OfLines (duplicate_variable k) = Unit {0}
  OfLines (unknown_field k) = Unit {0}
  OfLines (duplicate_field k) = Unit {0}
  OfLines (unterminated_quote t) = Unit {0}
  OfLines (undefined_variable n w) = ⊥
  OfLines (content_too_large w) = ⊥

  of-lines : (r : Refusal) → OnLines (stage r) → OfLines r
  unfolding stage resolving
  of-lines (lex_error e at) h = tt
  of-lines (unexpected_at_start t) h = tt
  of-lines (unexpected_after_key t) h = tt
  of-lines ended_after_key h = tt
  of-lines (invalid_variable_name k) h = tt
  of-lines (duplicate_variable k) h = tt
  of-lines (unknown_field k) h = tt
  of-lines (duplicate_field k) h = tt
  of-lines (unterminated_quote t) h = tt
  of-lines (undefined_variable n (in_variable k)) h = h
  of-lines (undefined_variable n (in_field f k)) h = h
  of-lines (content_too_large (in_variable k)) h = h
  of-lines (content_too_large (in_field f k)) h = h

  carried-stand : (r : Refusal) → OfLines r → Carried P r → BothStand pool (refusal_detail r)
  unfolding refusal_detail details no_detail
  carried-stand (lex_error e at) o h = (none-stands, none-stands)
  carried-stand (unexpected_at_start t) o h = (shown-stands t h, none-stands)
  carried-stand (unexpected_after_key t) o h = (shown-stands t h, none-stands)
  carried-stand ended_after_key o h = (none-stands, none-stands)
  carried-stand (invalid_variable_name k) o h = (key-stands k h, none-stands)
  carried-stand (duplicate_variable k) o h = (key-stands k h, none-stands)
  carried-stand (unknown_field k) o h = (key-stands k h, none-stands)
  carried-stand (duplicate_field k) o h = (key-stands k h, none-stands)
  carried-stand (unterminated_quote t) o h = (none-stands, none-stands)
  carried-stand (undefined_variable n w) o h = absurd o
  carried-stand (content_too_large w) o h = absurd o

  -- what is refused shows names that stand in the pool
  abbrev pub Stand : {A : Type 0} → Result A → Type 0
  Stand (refused r) = BothStand pool (refusal_detail r)
  Stand (ok a) = Unit {0}

  stand-then : {A B : Type 0} (r : Result A) (f : A → Result B) → Stand r → ((a : A) → Stand (f a)) → Stand (r >>= f)
  unfolding ◌>>=◌
  stand-then (refused r) f h g = h
  stand-then (ok a) f h g = g a

  -- the variables
  at_in : {vs : List Assignment} {i : ℕ} {a : Assignment} → InVariables P vs → At vs i a → IsKey P a.key × InParts P a.value
  at_in h here = h.0
  at_in h (there m) = at_in h.1 m

  upto-in : {vs : List Assignment} {ps : List Part} {v : List ℕ} {n : Token} → InParts P ps → Upto vs ps v (some n) → P n × (is_a variable_kind n ≡ true)
  upto-in h (Upto.text u) = upto-in h.1 u
  upto-in h (Upto.reference x u) = upto-in h.1 u
  upto-in h (Upto.stop f) = h.0

  variables-stand : (vs : List Assignment) → Sorted vs → InVariables P vs → Stand (resolve_variables vs)
  unfolding refusal_detail details field_of variable_of
  variables-stand vs s h = go (resolve_variables vs) refl (one_of vs s)
    where
      key-at : (a : Assignment) (k : Token) → Assigned vs a.key.text a → a.key ≡ k → StandsIn pool k
      key-at a k x e = subst (StandsIn pool) e (key-stands a.key (at_in h x.at).0)

      go : (r : Result Found) → resolve_variables vs ≡ r → OneOf r → Stand r
      go r q (OneOf.given vals e) = rw e tt
      go r q (OneOf.large k e) =
          let x = large-name vs s k (q ∙ e) in
          rw e (none-stands, key-at x.0 k x.2.assigned x.1)
      go r q (OneOf.without n k e) =
          let x = (lacks-exactly vs s n k).0 (q ∙ e) in
          let y = x.1.2 in
          rw e (reference-stands n (upto-in (at_in h y.assigned.at).1 y.first), key-at x.1.0 k y.assigned x.1.1)

  -- the fields
  expand-in : (vs : List Assignment) (vals : Found) (ps : List Part) (v : List ℕ) (n : Token) → InParts P ps → expand vals v (map (look_up vs) ps) ≡ Expansion.missing n → P n × (is_a variable_kind n ≡ true)
  unfolding expand look_up bounded
  expand-in vs vals [] v n h e = let z : ◌≡◌ {A = ℕ} 0 1 = cc in absurd (omega (arith, z))
  expand-in vs vals (Part.text s ∷ ps) v n h e = go (ltb limit (length (v ++ s))) refl (λ e'. expand-in vs vals ps (v ++ s) n h.1 e')
    where
      go : (b : Bool) → ltb limit (length (v ++ s)) ≡ b → (expand vals (v ++ s) (map (look_up vs) ps) ≡ Expansion.missing n → P n × (is_a variable_kind n ≡ true)) → P n × (is_a variable_kind n ≡ true)
      go true q ih = let y : Expansion.large ≡ Expansion.missing n = rw (q, bounded) at e in let z : ◌≡◌ {A = ℕ} 0 1 = cc in absurd (omega (arith, z))
      go false q ih = ih (rw (q, bounded) at e)
  expand-in vs vals (Part.reference m ∷ ps) v n h e = go (found_at vals (rank_of m.text vs)) refl (λ u e'. expand-in vs vals ps (v ++ u) n h.1 e')
    where
      over : (u : List ℕ) (b : Bool) → ltb limit (length (v ++ u)) ≡ b → bounded (v ++ u) (expand vals (v ++ u) (map (look_up vs) ps)) ≡ Expansion.missing n
          → (expand vals (v ++ u) (map (look_up vs) ps) ≡ Expansion.missing n → P n × (is_a variable_kind n ≡ true)) → P n × (is_a variable_kind n ≡ true)
      over u true q x ih = let y : Expansion.large ≡ Expansion.missing n = rw (q, bounded) at x in let z : ◌≡◌ {A = ℕ} 0 1 = cc in absurd (omega (arith, z))
      over u false q x ih = ih (rw (q, bounded) at x)

      go : (o : Option (List ℕ)) → found_at vals (rank_of m.text vs) ≡ o
          → ((u : List ℕ) → expand vals (v ++ u) (map (look_up vs) ps) ≡ Expansion.missing n → P n × (is_a variable_kind n ≡ true)) → P n × (is_a variable_kind n ≡ true)
      go none q ih =
          let y : Expansion.missing m ≡ Expansion.missing n = rw (q, expand) at e in
          let z : m ≡ n = cc in
          rw z at h.0
      go (some u) q ih = over u (ltb limit (length (v ++ u))) refl (rw (q, expand) at e) (ih u)

  module _ (vs : List Assignment) (vals : Found) (f : ℕ) (key : Token) where
    parts-stand : (ps : List Part) → InParts P ps → Stand (resolve_parts vs vals (in_field f key) ps)
    unfolding resolve_parts expanded refusal_detail details field_of variable_of
    parts-stand ps h = go (expand vals [] (map (look_up vs) ps)) refl
      where
        go : (e : Expansion) → expand vals [] (map (look_up vs) ps) ≡ e → Stand (resolve_parts vs vals (in_field f key) ps)
        go Expansion.large q = rw q (none-stands, none-stands)
        go (Expansion.missing n) q = rw q (reference-stands n (expand-in vs vals ps [] n h q), none-stands)
        go (Expansion.value v) q = rw q tt

    each-stand : (l : List (List Part)) → InAll P l → Stand (resolve_arguments vs vals (in_field f key) l)
    unfolding resolve_arguments
    each-stand [] h = tt
    each-stand (ps ∷ rest) h =
        stand-then (resolve_parts vs vals (in_field f key) ps) (λ v. resolve_arguments vs vals (in_field f key) rest >>= λ more. ok (v ∷ more)) (parts-stand ps h.0)
        (λ v. stand-then (resolve_arguments vs vals (in_field f key) rest) (λ more. ok (v ∷ more)) (each-stand rest h.1) (λ more. tt))

    template-stand : (v : Template) → InTemplate P v → Stand (resolve_template vs vals (in_field f key) v)
    unfolding resolve_template
    template-stand (Template.string ps) h = stand-then (resolve_parts vs vals (in_field f key) ps) (λ v. ok (Content.single v)) (parts-stand ps h) (λ v. tt)
    template-stand (Template.list l) h = stand-then (resolve_arguments vs vals (in_field f key) l) (λ more. ok (Content.many more)) (each-stand l h) (λ more. tt)

  field_in : (f : ℕ) (gs : List Field) (g : Field) → InFields P gs → field_at f gs ≡ some g → InTemplate P g.value
  unfolding field_at
  field_in f [] g h e = let z : ◌≡◌ {A = ℕ} 0 1 = cc in absurd (omega (arith, z))
  field_in f (x ∷ gs) g h e = go (eqb f x.number) refl (λ e'. field_in f gs g h.1 e')
    where
      go : (b : Bool) → eqb f x.number ≡ b → (field_at f gs ≡ some g → InTemplate P g.value) → InTemplate P g.value
      go true q ih = let y : some x ≡ some g = rw (q, field_at) at e in let z : x ≡ g = cc in subst (λ (i : Field). InTemplate P i.value) z h.0.1
      go false q ih = ih (rw (q, field_at) at e)

  from-stand : (k f : ℕ) (x : File) (vals : Found) → InFields P x.fields → Stand (fields_from k f x vals)
  unfolding fields_from
  from-stand zero f x vals h = tt
  from-stand (suc k) f x vals h = go (field_at f x.fields) refl (from-stand k (suc f) x vals h)
    where
      go : (o : Option Field) → field_at f x.fields ≡ o → Stand (fields_from k (suc f) x vals) → Stand (fields_from (suc k) f x vals)
      go none q ih = rw (q, fields_from) ih
      go (some g) q ih =
          rw (q, fields_from)
          (stand-then (resolve_template x.variables vals (in_field f g.key) g.value) (λ c. fields_from k (suc f) x vals >>= λ more. ok (record { number = f; content = c } ∷ more))
          (template-stand x.variables vals f g.key g.value (field_in f x.fields g h q))
          (λ c. stand-then (fields_from k (suc f) x vals) (λ more. ok (record { number = f; content = c } ∷ more)) ih (λ more. tt)))

  file-stand : (x : File) → Sorted x.variables → InFile P x → Stand (records_of_file x)
  unfolding records_of_file resolve_fields
  file-stand x s h =
      stand-then (resolve_variables x.variables) (λ vals. resolve_fields x vals >>= λ ps. ok (records ps)) (variables-stand x.variables s h.0)
      (λ vals. stand-then (resolve_fields x vals) (λ ps. ok (records ps)) (from-stand 10 1 x vals h.1) (λ ps. tt))

reading-stand : (input : List ℕ) (ts : List Token) → tokens input ≡ ok ts → Stand (pool_of ts) (reading input)
unfolding reading ◌>>=◌
reading-stand input ts e = go (file input) refl (file-gives (Pooled (pool_of ts)) input ts e (tokens-stand input ts e)) (file-only input)
  where
    go : (o : Result File) → file input ≡ o → Gives (Pooled (pool_of ts)) (InFile (Pooled (pool_of ts))) o → Only OnLines o → Stand (pool_of ts) (reading input)
    go (refused r) q h l = rw (q, reading, ◌>>=◌) (carried-stand (pool_of ts) r (of-lines (pool_of ts) r l) h)
    go (ok x) q h l = rw (q, reading, ◌>>=◌) (file-stand (pool_of ts) x (file-sorted input x q) h)

stand-longer : (pool rest : List ℕ) (d : Detail) → BothStand pool d → BothStand (pool ++ rest) d
stand-longer pool rest d h = (stands-longer d.first.text d.first.place pool rest h.0, stands-longer d.second.text d.second.place pool rest h.1)

lexing-names : (pool : List ℕ) (r : Refusal) → OnLexing (stage r) → BothStand pool (refusal_detail r)
unfolding stage resolving refusal_detail details
lexing-names pool (lex_error e at) h = (none-stands pool, none-stands pool)
lexing-names pool (unexpected_at_start t) h = absurd h
lexing-names pool (unexpected_after_key t) h = absurd h
lexing-names pool ended_after_key h = absurd h
lexing-names pool (invalid_variable_name k) h = absurd h
lexing-names pool (duplicate_variable k) h = absurd h
lexing-names pool (unknown_field k) h = absurd h
lexing-names pool (duplicate_field k) h = absurd h
lexing-names pool (unterminated_quote t) h = absurd h
lexing-names pool (undefined_variable n (in_variable k)) h = absurd h
lexing-names pool (undefined_variable n (in_field f k)) h = absurd h
lexing-names pool (content_too_large (in_variable k)) h = absurd h
lexing-names pool (content_too_large (in_field f k)) h = absurd h

-- what is read, and what then stands in the pool
read_names : (input : List ℕ) (b : Buffers) → Stand (pool_after (tokens input) b.pool) (reading input)
unfolding pool_after overwrite reading file ◌>>=◌ tokens
read_names input b = go (tokens input) refl (lex-only input 0 nothing_yet 0 0)
  where
    longer : (pool rest : List ℕ) (o : Result (List ℕ)) → Stand pool o → Stand (pool ++ rest) o
    longer pool rest (refused r) h = stand-longer pool rest (refusal_detail r) h
    longer pool rest (ok rs) h = tt

    go : (o : Result (List Token)) → tokens input ≡ o → Only OnLexing o → Stand (pool_after (tokens input) b.pool) (reading input)
    go (refused r) q l =
        let e : reading input ≡ refused r = rw (q, reading, file, ◌>>=◌) refl in
        rw e (lexing-names (pool_after (tokens input) b.pool) r l)
    go (ok ts) q l = subst (λ (o : Result (List Token)). Stand (pool_after o b.pool) (reading input)) (sym q) (longer (pool_of ts) (drop (length (pool_of ts)) b.pool) (reading input) (reading-stand input ts q))

written-names : (o : Result (List ℕ)) (b : Buffers) → Stand b.pool o → BothStand (written o b).after.pool (detail (written o b).answer)
unfolding written detail details
written-names (refused r) b h = h
written-names (ok rs) b h = go (ltb (length b.output) (length rs)) refl
  where
    go : (t : Bool) → ltb (length b.output) (length rs) ≡ t → BothStand (written (ok rs) b).after.pool (detail (written (ok rs) b).answer)
    go true q = rw (q, written) (none-stands b.pool, none-stands b.pool)
    go false q = rw (q, written) (none-stands b.pool, none-stands b.pool)

-- "A name is answered by its place and length in the pool": after every call, both names of the detail stand there
pub names_stand : (text : List ℕ) (b : Buffers) → BothStand (read text b).after.pool (detail (read text b).answer)
unfolding untouched detail no_detail details read_buffers
names_stand text b = go (checked text b)
  where
    go : Checked text b → BothStand (read text b).after.pool (detail (read text b).answer)
    go (Checked.answers1 h e) = rw e (none-stands b.pool, none-stands b.pool)
    go (Checked.answers2 h k e) = rw e (none-stands b.pool, none-stands b.pool)
    go (Checked.answers3 h k l e) = rw e (none-stands b.pool, none-stands b.pool)
    go (Checked.answers4 h k l u e) = rw e (none-stands b.pool, none-stands b.pool)
    go (Checked.goes_on r e) = rw e (written-names (reading text) (read_buffers text b) (read_names text b))
