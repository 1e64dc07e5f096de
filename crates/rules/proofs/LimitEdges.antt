-- Document 01, "Both sides of each edge": the cases at the limit, of the whole call. They are decided on lengths, so that no list of 67,108,864 bytes is built.
-- Assumes nothing.
use Prim.Native.Nat.{ℕ, zero, suc, ◌≤◌}
use Prim.Native.String.{String}
use mathlib.Core.Path.{◌≡◌, refl, ap, ◌∙◌}
use mathlib.Core.Bool.{true}
use mathlib.Core.List.{List, [], ◌++◌}
use mathlib.Core.Option.{none}
use native.Mathlib.Omega.{arith}
use lib.ListN.{length}
use Rattle.rules.specs.Bytes.{bytes}
use Rattle.rules.specs.Numbers.{in_variable, undefined_variable, content_too_large, refusal_number, number, Result, refused, ok, ◌>>=◌}
use Rattle.rules.specs.Utf8.{well_formed}
use Rattle.rules.specs.Lines.{File, field_at}
use Rattle.rules.specs.Variables.{Found, Resolved, resolve, rules_of, key_at, resolve_variables}
use Rattle.rules.specs.Fields.{fields_from, resolve_fields}
use Rattle.rules.specs.Records.{records}
use Rattle.rules.specs.Reading.{file, reading}
use Rattle.rules.specs.Reader.{Buffers, longest, room, read_buffers, written, read}
use Rattle.rules.proofs.Lengths.{bounded_sum, add, pass_lens, lacking_lens, left_lens, passes_lens, resolve_lens, Settles, settles_of, resolve-lens}
use Rattle.rules.proofs.Demand3Laws.{reading-refused}
use Rattle.rules.proofs.RefusalLaws.{after_variables, reading-resolved}
use Rattle.rules.proofs.CallLaws.{Ready, read-on, written_all}
use Rattle.rules.proofs.Promises.{file_of}
use Rattle.rules.proofs.Computed.{called}

-- the number that a text without fields gets
unfoldable pub verdict : Settles → ℕ
verdict (Settles.too_large_at i) = 16
verdict (Settles.lacks i n) = 15
verdict (Settles.settled lens) = 0

none_from : (k f : ℕ) (x : File) (vals : Found) → x.fields ≡ [] → fields_from k f x vals ≡ ok []
unfolding fields_from field_at
none_from zero f x vals e = refl
none_from (suc k) f x vals e =
    let q : field_at f x.fields ≡ none = ap (field_at f) e in
    rw (q, fields_from) (none_from k (suc f) x vals e)

no_fields : (x : File) (vals : Found) → x.fields ≡ [] → after_variables x vals ≡ ok []
unfolding after_variables resolve_fields ◌>>=◌ records
no_fields x vals e = rw (none_from 10 1 x vals e) refl

-- a call on a text without fields, by the lengths of its variables
pub number-by-lengths : (text : List ℕ) (x : File) → file text ≡ ok x → x.fields ≡ [] → (b : Buffers) → Ready text b
    → number (read text b).answer ≡ verdict (resolve_lens (rules_of x.variables x.variables))
unfolding verdict settles_of resolve_variables written number refusal_number
number-by-lengths text x reads none-given b ready = rw (resolve-lens (rules_of x.variables x.variables)) (go (resolve (rules_of x.variables x.variables)) refl)
  where
    on : (r : Result (List ℕ)) → reading text ≡ r → read text b ≡ written r (read_buffers text b)
    on r e = read-on text b ready ∙ ap (λ (y : Result (List ℕ)). written y (read_buffers text b)) e

    go : (r : Resolved) → resolve (rules_of x.variables x.variables) ≡ r → number (read text b).answer ≡ verdict (settles_of (resolve (rules_of x.variables x.variables)))
    go (Resolved.too_large_at i) q =
        let e = reading-refused text x (content_too_large (in_variable (key_at x.variables i))) reads (rw (q, resolve_variables) refl) in
        rw (q, on (refused (content_too_large (in_variable (key_at x.variables i)))) e) refl
    go (Resolved.lacks i n) q =
        let e = reading-refused text x (undefined_variable n (in_variable (key_at x.variables i))) reads (rw (q, resolve_variables) refl) in
        rw (q, on (refused (undefined_variable n (in_variable (key_at x.variables i)))) e) refl
    go (Resolved.resolved vals) q =
        let e : reading text ≡ ok [] = reading-resolved text x vals reads (rw (q, resolve_variables) refl) ∙ no_fields x vals none-given in
        rw (q, on (ok []) e ∙ written_all [] (read_buffers text b) (omega arith)) refl

-- a 64-byte value doubled twenty times: `u` has 67,108,864 bytes
abbrev pub doubling : String
doubling = "a=aaaaaaaaaaaaaaaaaaaaaaaaaaaaaaaaaaaaaaaaaaaaaaaaaaaaaaaaaaaaaaaa\nb=${a}${a}\nc=${b}${b}\nd=${c}${c}\ne=${d}${d}\nf=${e}${e}\ng=${f}${f}\nh=${g}${g}\ni=${h}${h}\nj=${i}${i}\nk=${j}${j}\nl=${k}${k}\nm=${l}${l}\nn=${m}${m}\no=${n}${n}\np=${o}${o}\nq=${p}${p}\nr=${q}${q}\ns=${r}${r}\nt=${s}${s}\nu=${t}${t}\n"

abbrev pub after : String → List ℕ
after last = bytes doubling ++ bytes last

-- on every call with room, the text gets this number
abbrev pub Gets : List ℕ → ℕ → Type 0
Gets text n = (b : Buffers) → room (length text) ≤ length b.workspace → length text ≤ length b.pool → number (read text b).answer ≡ n

gets : (text : List ℕ) (n : ℕ) → well_formed text ≡ true → length text ≤ longest → file text ≡ ok (file_of (file text)) → (file_of (file text)).fields ≡ []
    → verdict (resolve_lens (rules_of (file_of (file text)).variables (file_of (file text)).variables)) ≡ n → Gets text n
gets text n u s reads none-given v b w p =
    number-by-lengths text (file_of (file text)) reads none-given b (record { short = s; space = w; pools = p; utf8 = u }) ∙ v

-- it passes
pub at-the-limit : Gets (after "v=${u}") 0
unfolding called file_of verdict resolve_lens passes_lens left_lens lacking_lens pass_lens add bounded_sum
at-the-limit = gets (after "v=${u}") 0 refl (omega arith) refl refl refl

-- with one byte more, 16
pub one-byte-more : Gets (after "v=${u}x") 16
unfolding called file_of verdict resolve_lens passes_lens left_lens lacking_lens pass_lens add bounded_sum
one-byte-more = gets (after "v=${u}x") 16 refl (omega arith) refl refl refl

-- that value, `x`, then an unassigned reference: 16
pub large-then-missing : Gets (after "v=${u}x${none}") 16
unfolding called file_of verdict resolve_lens passes_lens left_lens lacking_lens pass_lens add bounded_sum
large-then-missing = gets (after "v=${u}x${none}") 16 refl (omega arith) refl refl refl

-- the reference first: 15
pub missing-then-large : Gets (after "v=${none}${u}x") 15
unfolding called file_of verdict resolve_lens passes_lens left_lens lacking_lens pass_lens add bounded_sum
missing-then-large = gets (after "v=${none}${u}x") 15 refl (omega arith) refl refl refl
