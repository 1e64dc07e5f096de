-- Document 01, "How strong the promises are": any two outcomes are equal, and which readers the contract shuts out. Assumes nothing.
use Prim.Native.Nat.{ℕ, ◌<◌}
use mathlib.Core.Path.{◌≡◌, refl, ap, sym, ◌∙◌}
use mathlib.Core.Bool.{Bool, true, false}
use mathlib.Core.List.{List, [], ◌∷◌, ◌++◌}
use mathlib.Core.Option.{none, some}
use native.Mathlib.Omega.{arith}
use lib.ListN.{length, replicate, take}
use lib.Dec.{ltb}
use borrow.Author.Tests.{ltb-true}
use Rattle.rules.specs.Bytes.{bytes}
use Rattle.rules.specs.Numbers.{LexError, missing_close_variable, invalid_variable_char, lex_error, Refusal, unexpected_at_start, unexpected_after_key, ended_after_key, invalid_variable_name, duplicate_variable, unknown_field, duplicate_field, unterminated_quote, undefined_variable, content_too_large, in_variable, lex_number, refusal_number, number, detail, details, Result, refused, ok}
use Rattle.rules.specs.Lines.{File, Assignment}
use Rattle.rules.specs.Variables.{Found, Pass, pass, Resolved, left, rules_of, key_at, resolve_variables}
use Rattle.rules.specs.Reading.{file, reading}
use Rattle.rules.specs.Reader.{Buffers, Outcome, read_buffers, written, untouched, read}
use Rattle.rules.specs.Listing.{Listed, listing}
use Rattle.rules.specs.Export.{Exported, exported_in}
use Rattle.rules.specs.Pclist.{pclist}
use Rattle.rules.specs.Demand3.{Demand3}
use Rattle.rules.proofs.Demand3Laws.{demand3}
use Rattle.rules.proofs.CallLaws.{Checked, checked}
use Rattle.rules.proofs.Computed.{called, dirty}

-- Each call's contract is an equation: this outcome, with what the buffers then hold, and no other.
abbrev pub Allowed : List ℕ → Buffers → Outcome → Type 0
Allowed text b o = o ≡ read text b

abbrev pub AllowedListing : List ℕ → List ℕ → Listed → Type 0
AllowedListing records output l = l ≡ listing records output

abbrev pub AllowedExport : List ℕ → Buffers → List ℕ → Exported → Type 0
AllowedExport text b lent e = e ≡ exported_in text b lent

-- any two outcomes that it allows are equal
pub one-outcome : (text : List ℕ) (b : Buffers) (o p : Outcome) → Allowed text b o → Allowed text b p → o ≡ p
one-outcome text b o p x y = x ∙ sym y

pub one-listing : (records output : List ℕ) (l m : Listed) → AllowedListing records output l → AllowedListing records output m → l ≡ m
one-listing records output l m x y = x ∙ sym y

pub one-export : (text : List ℕ) (b : Buffers) (lent : List ℕ) (e f : Exported) → AllowedExport text b lent e → AllowedExport text b lent f → e ≡ f
one-export text b lent e f x y = x ∙ sym y

-- a reader that meets the contract on every call
abbrev pub Meets : (List ℕ → Buffers → Outcome) → Type 0
Meets r = (text : List ℕ) (b : Buffers) → Allowed text b (r text b)

-- the document's own sample
abbrev pub sample : List ℕ
sample = bytes "lib=segue\nunit=-D${lib}_MS\nName: Segue timer\nLibs: -L/opt/${lib} '-l a'  ${lib}\nCflags: ${unit} \"\"\n"

abbrev lent : Buffers
lent = dirty 2000 200 100

-- what the document says that `pclist` prints for it
pub sample-printed : pclist sample
    ≡ bytes "pc 0 92\n1 11 Segue timer\n8 4 1\n11 10 -Dsegue_MS\n9 4 3\n11 12 -L/opt/segue\n11 4 -l a\n11 5 segue\n"
unfolding called
sample-printed = refl

sample-number : number (read sample lent).answer ≡ 0
unfolding called
sample-number = refl

sample-listing : (listing (take 92 (read sample lent).after.output) (replicate 120 0)).output
    ≡ bytes "1 11 Segue timer\n8 4 1\n11 10 -Dsegue_MS\n9 4 3\n11 12 -L/opt/segue\n11 4 -l a\n11 5 segue\n" ++ replicate 34 0
unfolding called
sample-listing = refl

name-number : number (read (bytes "Name") lent).answer ≡ 9
unfolding called
name-number = refl

numbered : (r : List ℕ → Buffers → Outcome) → Meets r → (text : List ℕ) (b : Buffers) → number (r text b).answer ≡ number (read text b).answer
numbered r m text b = ap (λ (o : Outcome). number o.answer) (m text b)

-- shut out: a reader that only refuses
pub not-only-refusals : (r : List ℕ → Buffers → Outcome) → Meets r → ((text : List ℕ) (b : Buffers) → number (r text b).answer ≡ 0 → ⊥) → ⊥
not-only-refusals r m f = f sample lent (numbered r m sample lent ∙ sample-number)

-- one with a fixed answer
pub not-fixed : (r : List ℕ → Buffers → Outcome) → Meets r → (n : ℕ) → ((text : List ℕ) (b : Buffers) → number (r text b).answer ≡ n) → ⊥
not-fixed r m n f =
    let x : n ≡ 0 = sym (f sample lent) ∙ numbered r m sample lent ∙ sample-number in
    let y : n ≡ 9 = sym (f (bytes "Name") lent) ∙ numbered r m (bytes "Name") lent ∙ name-number in
    omega (arith, x, y)

head : List ℕ → ℕ
head [] = 0
head (x ∷ xs) = x

sample-head : head (read sample lent).after.output ≡ 11
unfolding called head
sample-head = refl

lent-head : head lent.output ≡ 252
unfolding head dirty
lent-head = refl

-- one that writes nothing
pub not-silent : (r : List ℕ → Buffers → Outcome) → Meets r → ((text : List ℕ) (b : Buffers) → (r text b).after.output ≡ b.output) → ⊥
not-silent r m f =
    let x : head lent.output ≡ 11 = ap head (sym (f sample lent)) ∙ ap (λ (o : Outcome). head o.after.output) (m sample lent) ∙ sample-head in
    omega (arith, sym lent-head ∙ x)

lex-not-17 : (e : LexError) → lex_number e ≡ 17 → ⊥
unfolding lex_number
lex-not-17 missing_close_variable e = omega (arith, e)
lex-not-17 (invalid_variable_char c) e = omega (arith, e)

never-17 : (r : Refusal) → refusal_number r ≡ 17 → ⊥
unfolding refusal_number
never-17 (lex_error x at) e = lex-not-17 x e
never-17 (unexpected_at_start t) e = omega (arith, e)
never-17 (unexpected_after_key t) e = omega (arith, e)
never-17 ended_after_key e = omega (arith, e)
never-17 (invalid_variable_name k) e = omega (arith, e)
never-17 (duplicate_variable k) e = omega (arith, e)
never-17 (unknown_field k) e = omega (arith, e)
never-17 (duplicate_field k) e = omega (arith, e)
never-17 (unterminated_quote t) e = omega (arith, e)
never-17 (undefined_variable n w) e = omega (arith, e)
never-17 (content_too_large w) e = omega (arith, e)

-- what 17 says: the need is the length of the very records that an output with room gets, and the output is shorter
pub record Needs (text : List ℕ) (b : Buffers) : Type 0 where
  pub records : List ℕ
  pub are : reading text ≡ ok records
  pub need : (detail (read text b).answer).value ≡ length records
  pub short : length b.output < length records

written-17 : (x : Result (List ℕ)) (b : Buffers) → number (written x b).answer ≡ 17
    → (rs : List ℕ) × (x ≡ ok rs) × ((detail (written x b).answer).value ≡ length rs) × (length b.output < length rs)
unfolding written number detail details
written-17 (refused r) b e = absurd (never-17 r e)
written-17 (ok rs) b e = go (ltb (length b.output) (length rs)) refl
  where
    go : (t : Bool) → ltb (length b.output) (length rs) ≡ t → (x : List ℕ) × (ok rs ≡ ok x) × ((detail (written (ok rs) b).answer).value ≡ length x) × (length b.output < length x)
    go true q = (rs, refl, rw (q, written) refl, ltb-true (length b.output) (length rs) q)
    go false q = let z : ◌≡◌ {A = ℕ} 0 17 = rw (q, written) at e in absurd (omega (arith, z))

-- shut out: one with an invented need
pub need-is : (text : List ℕ) (b : Buffers) → number (read text b).answer ≡ 17 → Needs text b
unfolding untouched number read_buffers
need-is text b e = go (checked text b)
  where
    go : Checked text b → Needs text b
    go (Checked.answers1 h q) = let z : ◌≡◌ {A = ℕ} 1 17 = rw q at e in absurd (omega (arith, z))
    go (Checked.answers2 h k q) = let z : ◌≡◌ {A = ℕ} 2 17 = rw q at e in absurd (omega (arith, z))
    go (Checked.answers3 h k l q) = let z : ◌≡◌ {A = ℕ} 3 17 = rw q at e in absurd (omega (arith, z))
    go (Checked.answers4 h k l u q) = let z : ◌≡◌ {A = ℕ} 4 17 = rw q at e in absurd (omega (arith, z))
    go (Checked.goes_on r q) =
        let x = written-17 (reading text) (read_buffers text b) (rw q at e) in
        record { records = x.0; are = x.1; need = ap (λ (o : Outcome). (detail o.answer).value) q ∙ x.2; short = x.3 }

-- shut out by demand 3: one that makes only the first pass and calls the rest idle, by `a=${b}|b=1`
unfoldable pub first_pass_only : List Assignment → Result Found
first_pass_only vs = elim (pass 0 (rules_of vs vs) false (replicate (length vs) none)) [
  | Pass.stopped i ↦ refused (content_too_large (in_variable (key_at vs i)))
  | Pass.passed found after ↦ elim (left 0 (rules_of vs vs) after) [
    | Resolved.too_large_at i ↦ refused (content_too_large (in_variable (key_at vs i)))
    | Resolved.lacks i n ↦ refused (undefined_variable n (in_variable (key_at vs i)))
    | Resolved.resolved vals ↦ ok vals
  ]
]

abbrev forward : List ℕ
forward = bytes "a=${b}\nb=1"

-- the file that a text reads as; one without lines where it is refused
unfoldable pub file_of : Result File → File
file_of (refused r) = record { variables = []; fields = [] }
file_of (ok x) = x

is_refused : Result Found → Bool
is_refused (refused r) = true
is_refused (ok vals) = false

forward-reads : file forward ≡ ok (file_of (file forward))
unfolding called file_of
forward-reads = refl

abbrev forwards : List Assignment
forwards = (file_of (file forward)).variables

forward-resolves : resolve_variables forwards ≡ ok (some (bytes "1") ∷ some (bytes "1") ∷ [])
unfolding called file_of
forward-resolves = refl

first-pass-refuses : is_refused (first_pass_only forwards) ≡ true
unfolding called file_of first_pass_only is_refused
first-pass-refuses = refl

pub not-first-pass-only : Demand3 forwards (first_pass_only forwards) → ⊥
unfolding is_refused
not-first-pass-only d =
    let x = (demand3 forward (file_of (file forward)) forward-reads).resolves.0 (some (bytes "1") ∷ some (bytes "1") ∷ [], forward-resolves) in
    let y = d.resolves.1 x in
    let z : is_refused (ok y.0) ≡ true = ap is_refused (sym y.1) ∙ first-pass-refuses in
    let w : ◌≡◌ {A = ℕ} 0 1 = cc in
    omega (arith, w)
