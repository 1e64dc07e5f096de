-- Demand 3 of the whole call's answer, for all three outcomes. Assumes nothing.
use Prim.Native.Nat.{ℕ, ◌<◌}
use mathlib.Core.Path.{◌≡◌, refl, ap, sym, ◌∙◌, subst}
use mathlib.Core.Bool.{Bool, true, false}
use mathlib.Core.List.{List}
use native.Mathlib.Omega.{arith}
use lib.ListN.{length}
use lib.Dec.{ltb}
use Rattle.rules.specs.Tokens.{Token}
use Rattle.rules.specs.Numbers.{LexError, missing_close_variable, invalid_variable_char, lex_error, Refusal, WhileResolving, in_variable, in_field, unexpected_at_start, unexpected_after_key, ended_after_key, invalid_variable_name, duplicate_variable, unknown_field, duplicate_field, unterminated_quote, undefined_variable, content_too_large, output_short, lex_number, refusal_number, number, Detail, details, field_of, variable_of, refusal_detail, detail, Result, refused, ok, ◌>>=◌}
use Rattle.rules.specs.Lines.{Assignment, File}
use Rattle.rules.specs.Variables.{Found, Resolved, resolve, rules_of, resolve_variables}
use Rattle.rules.specs.Reading.{file, records_of_file, reading}
use Rattle.rules.specs.Reader.{Buffers, Outcome, read_buffers, written, untouched, read}
use Rattle.rules.specs.Demand3.{TooLarge, Lacks, Numbered, ForVariable, Demand3OfCall}
use Rattle.rules.proofs.TableLaws.{file-sorted}
use Rattle.rules.proofs.Demand3Laws.{too-large-exactly, lacks-exactly, resolve-exactly, reading-refused}
use Rattle.rules.proofs.OutcomeLaws.{OneOf, one_of}
use Rattle.rules.proofs.RefusalLaws.{Stage, stage, resolving, Only, OnLines, OnFields, only-map, file-only, fields-only, after_variables, reading-resolved, reading-variable}
use Rattle.rules.proofs.CallLaws.{Ready, Checked, checked, read-on}

-- what 15 and 16 were given for
lex-small : (e : LexError) → lex_number e < 15
unfolding lex_number
lex-small missing_close_variable = omega arith
lex-small (invalid_variable_char c) = omega arith

pub record While (r : Refusal) : Type 0 where
  pub while : WhileResolving
  pub at : stage r ≡ resolving while
  pub value : (refusal_detail r).value ≡ field_of while

late : (r : Refusal) → 14 < refusal_number r → While r
unfolding refusal_number stage refusal_detail details
late (lex_error e at) h = absurd (omega (arith, h, lex-small e))
late (unexpected_at_start t) h = absurd (omega (arith, h))
late (unexpected_after_key t) h = absurd (omega (arith, h))
late ended_after_key h = absurd (omega (arith, h))
late (invalid_variable_name k) h = absurd (omega (arith, h))
late (duplicate_variable k) h = absurd (omega (arith, h))
late (unknown_field k) h = absurd (omega (arith, h))
late (duplicate_field k) h = absurd (omega (arith, h))
late (unterminated_quote t) h = absurd (omega (arith, h))
late (undefined_variable n w) h = record { while = w; at = refl; value = refl }
late (content_too_large w) h = record { while = w; at = refl; value = refl }

-- no text is refused for a field of number 0
abbrev Somewhere : Stage → Type 0
Somewhere Stage.at_lexing = Unit {0}
Somewhere Stage.at_lines = Unit {0}
Somewhere Stage.at_variables = Unit {0}
Somewhere (Stage.at_field f) = 0 < f

from-lines : (s : Stage) → OnLines s → Somewhere s
from-lines Stage.at_lexing h = tt
from-lines Stage.at_lines h = tt
from-lines Stage.at_variables h = tt
from-lines (Stage.at_field f) h = absurd h

from_fields : (s : Stage) → OnFields s → Somewhere s
from_fields Stage.at_lexing h = tt
from_fields Stage.at_lines h = tt
from_fields Stage.at_variables h = tt
from_fields (Stage.at_field f) h = h

only_then : {A B : Type 0} (r : Result A) (f : A → Result B) → Only Somewhere r → ((a : A) → Only Somewhere (f a)) → Only Somewhere (r >>= f)
unfolding ◌>>=◌
only_then (refused r) f h g = h
only_then (ok a) f h g = g a

variables-somewhere : (vs : List Assignment) → Only Somewhere (resolve_variables vs)
unfolding resolve_variables stage resolving
variables-somewhere vs = go (resolve (rules_of vs vs)) refl
  where
    go : (x : Resolved) → resolve (rules_of vs vs) ≡ x → Only Somewhere (resolve_variables vs)
    go (Resolved.too_large_at i) q = rw (q, resolve_variables) tt
    go (Resolved.lacks i n) q = rw (q, resolve_variables) tt
    go (Resolved.resolved vals) q = rw (q, resolve_variables) tt

reading-somewhere : (input : List ℕ) → Only Somewhere (reading input)
unfolding reading records_of_file after_variables
reading-somewhere input =
    only_then (file input) records_of_file (only-map (file input) OnLines Somewhere from-lines (file-only input))
    (λ x. only_then (resolve_variables x.variables) (λ vals. after_variables x vals) (variables-somewhere x.variables)
    (λ vals. only-map (after_variables x vals) OnFields Somewhere from_fields (fields-only x vals)))

-- a text that is refused with 15 or 16 for a variable
for-variable : (input : List ℕ) (r : Refusal) → reading input ≡ refused r → 14 < refusal_number r → (refusal_detail r).value ≡ 0 → stage r ≡ Stage.at_variables
unfolding field_of resolving
for-variable input r e h z = go (late r h).while (late r h).at (late r h).value
  where
    go : (w : WhileResolving) → stage r ≡ resolving w → (refusal_detail r).value ≡ field_of w → stage r ≡ Stage.at_variables
    go (in_variable key) s v = s
    go (in_field f key) s v =
        let x : Somewhere (stage r) = rw e at (reading-somewhere input) in
        let y : 0 < f = rw s at x in
        absurd (omega (arith, y, v, z))

-- the answer of a call that goes on
abbrev Late : Outcome → Type 0
Late o = (14 < number o.answer) × (number o.answer < 17) × ((detail o.answer).value ≡ 0)

late-refusal : (x : Result (List ℕ)) (b : Buffers) → Late (written x b) → (r : Refusal) × (x ≡ refused r) × (14 < refusal_number r) × ((refusal_detail r).value ≡ 0)
unfolding written number detail
late-refusal (refused r) b l = (r, refl, l.0, l.2)
late-refusal (ok rs) b l = go (ltb (length b.output) (length rs)) refl
  where
    go : (t : Bool) → ltb (length b.output) (length rs) ≡ t → (r : Refusal) × (ok rs ≡ refused r) × (14 < refusal_number r) × ((refusal_detail r).value ≡ 0)
    go true q = let z : Late (record { answer = output_short (length rs); after = b }) = rw (q, written) at l in absurd (omega (arith, z.1))
    go false q = let z : 14 < 0 = rw (q, written) at l.0 in absurd (omega (arith, z))

-- a call that gives 15 or 16 for a variable passed the tests 1 to 4, and the text's lines all read
pub for-variable-ready : (text : List ℕ) (b : Buffers) → Late (read text b) → Ready text b × ((x : File) × (file text ≡ ok x))
unfolding untouched number
for-variable-ready text b l = go (checked text b)
  where
    go : Checked text b → Ready text b × ((x : File) × (file text ≡ ok x))
    go (Checked.answers1 h e) = let z : 14 < 1 = rw e at l.0 in absurd (omega (arith, z))
    go (Checked.answers2 h k e) = let z : 14 < 2 = rw e at l.0 in absurd (omega (arith, z))
    go (Checked.answers3 h k m e) = let z : 14 < 3 = rw e at l.0 in absurd (omega (arith, z))
    go (Checked.answers4 h k m u e) = let z : 14 < 4 = rw e at l.0 in absurd (omega (arith, z))
    go (Checked.goes_on r e) =
        let z : Late (written (reading text) (read_buffers text b)) = rw e at l in
        let y = late-refusal (reading text) (read_buffers text b) z in
        let x = (reading-variable text y.0 (for-variable text y.0 y.1 y.2 y.3)).0 y.1 in
        (r, (x.0, x.1))

module _ (text : List ℕ) (b : Buffers) (ready : Ready text b) (x : File) (reads : file text ≡ ok x) where
  abbrev vs : List Assignment
  vs = x.variables

  refusal : (r : Refusal) → resolve_variables vs ≡ refused r → (number (read text b).answer ≡ refusal_number r) × (detail (read text b).answer ≡ refusal_detail r)
  unfolding written number detail
  refusal r q =
      let e : read text b ≡ written (refused r) (read_buffers text b) = read-on text b ready ∙ ap (λ (y : Result (List ℕ)). written y (read_buffers text b)) (reading-refused text x r reads q) in
      (ap (λ (o : Outcome). number o.answer) e, ap (λ (o : Outcome). detail o.answer) e)

  resolved-not : (vals : Found) → resolve_variables vs ≡ ok vals → Late (read text b) → ⊥
  resolved-not vals q l =
      let e : read text b ≡ written (after_variables x vals) (read_buffers text b) = read-on text b ready ∙ ap (λ (y : Result (List ℕ)). written y (read_buffers text b)) (reading-resolved text x vals reads q) in
      let z : Late (written (after_variables x vals) (read_buffers text b)) = rw e at l in
      let y = late-refusal (after_variables x vals) (read_buffers text b) z in
      let s = for-variable text y.0 (reading-resolved text x vals reads q ∙ y.1) y.2 y.3 in
      let f : OnFields (stage y.0) = rw y.1 at (fields-only x vals) in
      rw s at f

  outcome : OneOf (resolve_variables vs)
  outcome = one_of vs (file-sorted text x reads)

  large-up : TooLarge vs → ForVariable 16 (read text b)
  unfolding refusal_number refusal_detail details field_of
  large-up t =
      let y = (too-large-exactly vs (file-sorted text x reads)).1 t in
      let z = refusal (content_too_large (in_variable y.0)) y.1 in
      (z.0, ap (λ (d : Detail). d.value) z.1)

  large-down : ForVariable 16 (read text b) → TooLarge vs
  unfolding refusal_number
  large-down e = go outcome
    where
      go : OneOf (resolve_variables vs) → TooLarge vs
      go (OneOf.given vals q) = absurd (resolved-not vals q (omega (arith, e.0), omega (arith, e.0), e.1))
      go (OneOf.large k q) = (too-large-exactly vs (file-sorted text x reads)).0 (k, q)
      go (OneOf.without n k q) = let z : number (read text b).answer ≡ 15 = (refusal (undefined_variable n (in_variable k)) q).0 in absurd (omega (arith, z, e.0))

  lacks-down : (n k : Token) → (number (read text b).answer ≡ 15) × (detail (read text b).answer ≡ details 0 n k) → (TooLarge vs → ⊥) × ((a : Assignment) × (a.key ≡ k) × Lacks vs a n)
  unfolding refusal_number refusal_detail details field_of variable_of
  lacks-down n k e = go outcome
    where
      go : OneOf (resolve_variables vs) → (TooLarge vs → ⊥) × ((a : Assignment) × (a.key ≡ k) × Lacks vs a n)
      go (OneOf.given vals q) = absurd (resolved-not vals q (omega (arith, e.0), omega (arith, e.0), ap (λ (d : Detail). d.value) e.1))
      go (OneOf.large k' q) = let z : number (read text b).answer ≡ 16 = (refusal (content_too_large (in_variable k')) q).0 in absurd (omega (arith, z, e.0))
      go (OneOf.without m j q) =
          let z : details 0 m j ≡ details 0 n k = sym (refusal (undefined_variable m (in_variable j)) q).1 ∙ e.1 in
          let p : m ≡ n = ap (λ (d : Detail). d.first) z in
          let r : j ≡ k = ap (λ (d : Detail). d.second) z in
          (lacks-exactly vs (file-sorted text x reads) n k).0
          (subst (λ (i : Token). resolve_variables vs ≡ refused (undefined_variable n (in_variable i))) r (subst (λ (i : Token). resolve_variables vs ≡ refused (undefined_variable i (in_variable j))) p q))

  lacks-up : (n k : Token) → (TooLarge vs → ⊥) × ((a : Assignment) × (a.key ≡ k) × Lacks vs a n) → (number (read text b).answer ≡ 15) × (detail (read text b).answer ≡ details 0 n k)
  unfolding refusal_number refusal_detail details field_of variable_of
  lacks-up n k t = refusal (undefined_variable n (in_variable k)) ((lacks-exactly vs (file-sorted text x reads) n k).1 t)

  resolves-down : (ForVariable 15 (read text b) → ⊥) × (ForVariable 16 (read text b) → ⊥) → (TooLarge vs → ⊥) × ((num : List ℕ → ℕ) × Numbered vs num)
  unfolding refusal_number refusal_detail details field_of
  resolves-down f = go outcome
    where
      go : OneOf (resolve_variables vs) → (TooLarge vs → ⊥) × ((num : List ℕ → ℕ) × Numbered vs num)
      go (OneOf.given vals q) = (resolve-exactly vs (file-sorted text x reads)).0 (vals, q)
      go (OneOf.large k q) = let z = refusal (content_too_large (in_variable k)) q in absurd (f.1 (z.0, ap (λ (d : Detail). d.value) z.1))
      go (OneOf.without n k q) = let z = refusal (undefined_variable n (in_variable k)) q in absurd (f.0 (z.0, ap (λ (d : Detail). d.value) z.1))

  resolves-up : (TooLarge vs → ⊥) × ((num : List ℕ → ℕ) × Numbered vs num) → (ForVariable 15 (read text b) → ⊥) × (ForVariable 16 (read text b) → ⊥)
  resolves-up t =
      let y = (resolve-exactly vs (file-sorted text x reads)).1 t in
      (λ e. resolved-not y.0 y.1 (omega (arith, e.0), omega (arith, e.0), e.1), λ e. resolved-not y.0 y.1 (omega (arith, e.0), omega (arith, e.0), e.1))

  -- demand 3 of the whole call, where the tests 1 to 4 pass and the lines all read
  pub call-demand3 : Demand3OfCall vs (read text b)
  call-demand3 = record {
    too_large = (large-down, large-up);
    lacking = λ n k. (lacks-down n k, lacks-up n k);
    resolves = (resolves-down, resolves-up);
  }
