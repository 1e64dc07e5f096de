-- Cases of document 01 beside those marked P, of the whole call on buffers that are not clean: each clause of the definitions is met by one.
-- What each call says was written from the document's words. Assumes nothing.
use Prim.Native.Nat.{ℕ, ◌+◌, ◌-◌}
use mathlib.Core.Path.{◌≡◌, refl}
use mathlib.Core.Bool.{Bool, true, false}
use mathlib.Core.List.{List, [], ◌∷◌, ◌++◌, map}
use mathlib.Core.Option.{none}
use lib.ListN.{length, replicate}
use Rattle.rules.specs.Bytes.{bytes, overwrite, pick, before}
use Rattle.rules.specs.Tokens.{token, no_name}
use Rattle.rules.specs.Numbers.{missing_close_variable, invalid_variable_char, in_variable, lex_error, unexpected_at_start, unexpected_after_key, ended_after_key, invalid_variable_name, duplicate_variable, unknown_field, duplicate_field, unterminated_quote, undefined_variable, content_too_large, accepted, too_long, workspace_short, pool_short, not_utf8, refusal, output_short, not_records, detail_short, number}
use Rattle.rules.specs.Variables.{ref, lacks, passes}
use Rattle.rules.specs.Reader.{room, read}
use Rattle.rules.specs.Demand3.{ForVariable}
use Rattle.rules.proofs.Computed.{called, dirty}

-- a call: the text and the sizes of the three buffers; the number with its detail, whether the workspace is zeroed, what stands at the front of pool and output
pub record Call : Type 0 where
  pub text : List ℕ
  pub sizes : List ℕ
  pub answer : List ℕ
  pub zeroed : Bool
  pub pool : List ℕ
  pub output : List ℕ

-- the sizes of buffers with entries and bytes to spare
abbrev enough : List ℕ → List ℕ
enough text = (room (length text) + 3) ∷ (length text + 2) ∷ 200 ∷ []

abbrev accepts : List ℕ → List ℕ → List ℕ → Call
accepts text pool output = record { text = text; sizes = enough text; answer = 0 ∷ length output ∷ 0 ∷ 0 ∷ 0 ∷ 0 ∷ []; zeroed = true; pool = pool; output = output }

abbrev refuses : List ℕ → List ℕ → List ℕ → Call
refuses text answer pool = record { text = text; sizes = enough text; answer = answer; zeroed = true; pool = pool; output = [] }

abbrev not_utf8_call : List ℕ → Call
not_utf8_call text = record { text = text; sizes = enough text; answer = 4 ∷ 0 ∷ 0 ∷ 0 ∷ 0 ∷ 0 ∷ []; zeroed = false; pool = []; output = [] }

-- buffers of these sizes, all of them as found
abbrev leaves : List ℕ → ℕ → ℕ → ℕ → ℕ → Call
leaves text w p o n = record { text = text; sizes = w ∷ p ∷ o ∷ []; answer = n ∷ 0 ∷ 0 ∷ 0 ∷ 0 ∷ 0 ∷ []; zeroed = false; pool = []; output = [] }

unfoldable pub three : {A : Type 0} → A → (ℕ → ℕ → ℕ → A) → List ℕ → A
three a f [] = a
three a f (w ∷ []) = a
three a f (w ∷ p ∷ []) = a
three a f (w ∷ p ∷ o ∷ l) = f w p o

unfoldable pub seen_of : Call → List (List ℕ)
seen_of c = three [] (λ w p o. called c.text w p o) c.sizes

unfoldable pub says : Call → List (List ℕ)
says c = three [] (λ w p o.
    c.answer
    ∷ pick c.zeroed (replicate (room (length c.text)) 0 ++ replicate (w - room (length c.text)) 7) (replicate w 7)
    ∷ overwrite c.pool (replicate p 251)
    ∷ overwrite c.output (replicate o 252)
    ∷ []) c.sizes

-- 1 to 4 in their order, and 17: both sides of each size
abbrev pub sizes : List Call
sizes =
    leaves (replicate 65536 97) 0 0 0 1
    ∷ leaves (replicate 65535 97) 0 0 0 2
    ∷ leaves (bytes "a") 75 0 0 2
    ∷ leaves (bytes "a") 76 0 0 3
    ∷ leaves (0xFF ∷ []) 76 0 0 3
    ∷ leaves (0xFF ∷ []) 76 1 0 4
    ∷ leaves [] 63 0 0 2
    ∷ record { text = []; sizes = 64 ∷ 0 ∷ 0 ∷ []; answer = 0 ∷ 0 ∷ 0 ∷ 0 ∷ 0 ∷ 0 ∷ []; zeroed = true; pool = []; output = [] }
    ∷ record { text = bytes "a"; sizes = 76 ∷ 1 ∷ 0 ∷ []; answer = 9 ∷ 0 ∷ 0 ∷ 0 ∷ 0 ∷ 0 ∷ []; zeroed = true; pool = bytes "a"; output = [] }
    ∷ record { text = bytes "Name: a"; sizes = 148 ∷ 7 ∷ 6 ∷ []; answer = 17 ∷ 7 ∷ 0 ∷ 0 ∷ 0 ∷ 0 ∷ []; zeroed = true; pool = bytes "Namea"; output = [] }
    ∷ record { text = bytes "Name: a"; sizes = 148 ∷ 7 ∷ 7 ∷ []; answer = 0 ∷ 7 ∷ 0 ∷ 0 ∷ 0 ∷ 0 ∷ []; zeroed = true; pool = bytes "Namea"; output = 1 ∷ 0 ∷ 0 ∷ 0 ∷ 1 ∷ 0 ∷ 97 ∷ [] }
    ∷ []

-- UTF-8: both sides of each row of the table
abbrev pub utf8 : List Call
utf8 =
    refuses (0x00 ∷ []) (9 ∷ 0 ∷ 0 ∷ 0 ∷ 0 ∷ 0 ∷ []) (0x00 ∷ [])
    ∷ refuses (0x7F ∷ []) (9 ∷ 0 ∷ 0 ∷ 0 ∷ 0 ∷ 0 ∷ []) (0x7F ∷ [])
    ∷ refuses (0xC2 ∷ 0x80 ∷ []) (9 ∷ 0 ∷ 0 ∷ 0 ∷ 0 ∷ 0 ∷ []) (0xC2 ∷ 0x80 ∷ [])
    ∷ refuses (0xDF ∷ 0xBF ∷ []) (9 ∷ 0 ∷ 0 ∷ 0 ∷ 0 ∷ 0 ∷ []) (0xDF ∷ 0xBF ∷ [])
    ∷ refuses (0xE0 ∷ 0xA0 ∷ 0x80 ∷ []) (9 ∷ 0 ∷ 0 ∷ 0 ∷ 0 ∷ 0 ∷ []) (0xE0 ∷ 0xA0 ∷ 0x80 ∷ [])
    ∷ refuses (0xE1 ∷ 0x80 ∷ 0x80 ∷ []) (9 ∷ 0 ∷ 0 ∷ 0 ∷ 0 ∷ 0 ∷ []) (0xE1 ∷ 0x80 ∷ 0x80 ∷ [])
    ∷ refuses (0xEC ∷ 0xBF ∷ 0xBF ∷ []) (9 ∷ 0 ∷ 0 ∷ 0 ∷ 0 ∷ 0 ∷ []) (0xEC ∷ 0xBF ∷ 0xBF ∷ [])
    ∷ refuses (0xED ∷ 0x80 ∷ 0x80 ∷ []) (9 ∷ 0 ∷ 0 ∷ 0 ∷ 0 ∷ 0 ∷ []) (0xED ∷ 0x80 ∷ 0x80 ∷ [])
    ∷ refuses (0xED ∷ 0x9F ∷ 0xBF ∷ []) (9 ∷ 0 ∷ 0 ∷ 0 ∷ 0 ∷ 0 ∷ []) (0xED ∷ 0x9F ∷ 0xBF ∷ [])
    ∷ refuses (0xEE ∷ 0x80 ∷ 0x80 ∷ []) (9 ∷ 0 ∷ 0 ∷ 0 ∷ 0 ∷ 0 ∷ []) (0xEE ∷ 0x80 ∷ 0x80 ∷ [])
    ∷ refuses (0xEE ∷ 0xBF ∷ 0xBF ∷ []) (9 ∷ 0 ∷ 0 ∷ 0 ∷ 0 ∷ 0 ∷ []) (0xEE ∷ 0xBF ∷ 0xBF ∷ [])
    ∷ refuses (0xEF ∷ 0xBF ∷ 0xBF ∷ []) (9 ∷ 0 ∷ 0 ∷ 0 ∷ 0 ∷ 0 ∷ []) (0xEF ∷ 0xBF ∷ 0xBF ∷ [])
    ∷ refuses (0xF0 ∷ 0x90 ∷ 0x80 ∷ 0x80 ∷ []) (9 ∷ 0 ∷ 0 ∷ 0 ∷ 0 ∷ 0 ∷ []) (0xF0 ∷ 0x90 ∷ 0x80 ∷ 0x80 ∷ [])
    ∷ refuses (0xF1 ∷ 0x80 ∷ 0x80 ∷ 0x80 ∷ []) (9 ∷ 0 ∷ 0 ∷ 0 ∷ 0 ∷ 0 ∷ []) (0xF1 ∷ 0x80 ∷ 0x80 ∷ 0x80 ∷ [])
    ∷ refuses (0xF3 ∷ 0xBF ∷ 0xBF ∷ 0xBF ∷ []) (9 ∷ 0 ∷ 0 ∷ 0 ∷ 0 ∷ 0 ∷ []) (0xF3 ∷ 0xBF ∷ 0xBF ∷ 0xBF ∷ [])
    ∷ refuses (0xF4 ∷ 0x80 ∷ 0x80 ∷ 0x80 ∷ []) (9 ∷ 0 ∷ 0 ∷ 0 ∷ 0 ∷ 0 ∷ []) (0xF4 ∷ 0x80 ∷ 0x80 ∷ 0x80 ∷ [])
    ∷ refuses (0xF4 ∷ 0x8F ∷ 0xBF ∷ 0xBF ∷ []) (9 ∷ 0 ∷ 0 ∷ 0 ∷ 0 ∷ 0 ∷ []) (0xF4 ∷ 0x8F ∷ 0xBF ∷ 0xBF ∷ [])
    ∷ not_utf8_call (0x80 ∷ [])
    ∷ not_utf8_call (0xBF ∷ [])
    ∷ not_utf8_call (0xC0 ∷ 0x80 ∷ [])
    ∷ not_utf8_call (0xC1 ∷ 0xBF ∷ [])
    ∷ not_utf8_call (0xC2 ∷ [])
    ∷ not_utf8_call (0xC2 ∷ 0x7F ∷ [])
    ∷ not_utf8_call (0xC2 ∷ 0xC0 ∷ [])
    ∷ not_utf8_call (0xDF ∷ 0xC0 ∷ [])
    ∷ not_utf8_call (0xE0 ∷ 0x9F ∷ 0xBF ∷ [])
    ∷ not_utf8_call (0xE0 ∷ 0xA0 ∷ [])
    ∷ not_utf8_call (0xE0 ∷ 0xA0 ∷ 0x7F ∷ [])
    ∷ not_utf8_call (0xE0 ∷ 0xC0 ∷ 0x80 ∷ [])
    ∷ not_utf8_call (0xE0 ∷ 0xA0 ∷ 0xC0 ∷ [])
    ∷ not_utf8_call (0xE1 ∷ 0x7F ∷ 0x80 ∷ [])
    ∷ not_utf8_call (0xE1 ∷ 0x80 ∷ 0x7F ∷ [])
    ∷ not_utf8_call (0xEC ∷ 0xC0 ∷ 0x80 ∷ [])
    ∷ not_utf8_call (0xEC ∷ 0x80 ∷ 0xC0 ∷ [])
    ∷ not_utf8_call (0xED ∷ 0xA0 ∷ 0x80 ∷ [])
    ∷ not_utf8_call (0xED ∷ 0x80 ∷ 0x7F ∷ [])
    ∷ not_utf8_call (0xED ∷ 0x7F ∷ 0x80 ∷ [])
    ∷ not_utf8_call (0xED ∷ 0x80 ∷ 0xC0 ∷ [])
    ∷ not_utf8_call (0xEE ∷ 0x7F ∷ 0x80 ∷ [])
    ∷ not_utf8_call (0xEE ∷ 0x80 ∷ 0x7F ∷ [])
    ∷ not_utf8_call (0xEF ∷ 0xC0 ∷ 0x80 ∷ [])
    ∷ not_utf8_call (0xEF ∷ 0xBF ∷ 0xC0 ∷ [])
    ∷ not_utf8_call (0xF0 ∷ 0x8F ∷ 0xBF ∷ 0xBF ∷ [])
    ∷ not_utf8_call (0xF0 ∷ 0x90 ∷ 0x80 ∷ [])
    ∷ not_utf8_call (0xF0 ∷ 0x90 ∷ 0x7F ∷ 0x80 ∷ [])
    ∷ not_utf8_call (0xF0 ∷ 0x90 ∷ 0x80 ∷ 0x7F ∷ [])
    ∷ not_utf8_call (0xF0 ∷ 0xC0 ∷ 0x80 ∷ 0x80 ∷ [])
    ∷ not_utf8_call (0xF0 ∷ 0x90 ∷ 0xC0 ∷ 0x80 ∷ [])
    ∷ not_utf8_call (0xF0 ∷ 0x90 ∷ 0x80 ∷ 0xC0 ∷ [])
    ∷ not_utf8_call (0xF1 ∷ 0x7F ∷ 0x80 ∷ 0x80 ∷ [])
    ∷ not_utf8_call (0xF1 ∷ 0x80 ∷ 0x7F ∷ 0x80 ∷ [])
    ∷ not_utf8_call (0xF1 ∷ 0x80 ∷ 0x80 ∷ 0x7F ∷ [])
    ∷ not_utf8_call (0xF3 ∷ 0xC0 ∷ 0x80 ∷ 0x80 ∷ [])
    ∷ not_utf8_call (0xF3 ∷ 0x80 ∷ 0xC0 ∷ 0x80 ∷ [])
    ∷ not_utf8_call (0xF3 ∷ 0x80 ∷ 0x80 ∷ 0xC0 ∷ [])
    ∷ not_utf8_call (0xF4 ∷ 0x90 ∷ 0x80 ∷ 0x80 ∷ [])
    ∷ not_utf8_call (0xF4 ∷ 0x80 ∷ 0xC0 ∷ 0x80 ∷ [])
    ∷ not_utf8_call (0xF4 ∷ 0x7F ∷ 0x80 ∷ 0x80 ∷ [])
    ∷ not_utf8_call (0xF4 ∷ 0x80 ∷ 0x7F ∷ 0x80 ∷ [])
    ∷ not_utf8_call (0xF4 ∷ 0x80 ∷ 0x80 ∷ 0x7F ∷ [])
    ∷ not_utf8_call (0xF4 ∷ 0x80 ∷ 0x80 ∷ 0xC0 ∷ [])
    ∷ not_utf8_call (0xF5 ∷ 0x80 ∷ 0x80 ∷ 0x80 ∷ [])
    ∷ not_utf8_call (0xFF ∷ [])
    ∷ []

-- 5 and 6, with the code point
abbrev pub references : List Call
references =
    refuses (bytes "${") (5 ∷ 0 ∷ 0 ∷ 0 ∷ 0 ∷ 0 ∷ []) []
    ∷ refuses (bytes "${a") (5 ∷ 0 ∷ 0 ∷ 0 ∷ 0 ∷ 0 ∷ []) []
    ∷ refuses (0x24 ∷ 0x7B ∷ 0xC3 ∷ 0xA9 ∷ 0x7D ∷ []) (6 ∷ 233 ∷ 0 ∷ 0 ∷ 0 ∷ 0 ∷ []) []
    ∷ refuses (0x24 ∷ 0x7B ∷ 0xDF ∷ 0xBF ∷ []) (6 ∷ 2047 ∷ 0 ∷ 0 ∷ 0 ∷ 0 ∷ []) []
    ∷ refuses (0x24 ∷ 0x7B ∷ 0xE0 ∷ 0xA0 ∷ 0x80 ∷ []) (6 ∷ 2048 ∷ 0 ∷ 0 ∷ 0 ∷ 0 ∷ []) []
    ∷ refuses (0x24 ∷ 0x7B ∷ 0x61 ∷ 0xE2 ∷ 0x82 ∷ 0xAC ∷ 0x7D ∷ []) (6 ∷ 8364 ∷ 0 ∷ 0 ∷ 0 ∷ 0 ∷ []) []
    ∷ refuses (0x24 ∷ 0x7B ∷ 0xEF ∷ 0xBF ∷ 0xBF ∷ 0x7D ∷ []) (6 ∷ 65535 ∷ 0 ∷ 0 ∷ 0 ∷ 0 ∷ []) []
    ∷ refuses (0x24 ∷ 0x7B ∷ 0xF0 ∷ 0x9F ∷ 0x98 ∷ 0x80 ∷ 0x7D ∷ []) (6 ∷ 128512 ∷ 0 ∷ 0 ∷ 0 ∷ 0 ∷ []) []
    ∷ refuses (0x24 ∷ 0x7B ∷ 0xF4 ∷ 0x8F ∷ 0xBF ∷ 0xBF ∷ []) (6 ∷ 1114111 ∷ 0 ∷ 0 ∷ 0 ∷ 0 ∷ []) []
    ∷ refuses (bytes "${a\n}") (6 ∷ 10 ∷ 0 ∷ 0 ∷ 0 ∷ 0 ∷ []) []
    ∷ refuses (bytes "${a-}") (6 ∷ 45 ∷ 0 ∷ 0 ∷ 0 ∷ 0 ∷ []) []
    ∷ refuses (bytes "${a/}") (6 ∷ 47 ∷ 0 ∷ 0 ∷ 0 ∷ 0 ∷ []) []
    ∷ refuses (bytes "${:}") (6 ∷ 58 ∷ 0 ∷ 0 ∷ 0 ∷ 0 ∷ []) []
    ∷ refuses (bytes "${@}") (6 ∷ 64 ∷ 0 ∷ 0 ∷ 0 ∷ 0 ∷ []) []
    ∷ refuses (bytes "${[}") (6 ∷ 91 ∷ 0 ∷ 0 ∷ 0 ∷ 0 ∷ []) []
    ∷ refuses (bytes "${`}") (6 ∷ 96 ∷ 0 ∷ 0 ∷ 0 ∷ 0 ∷ []) []
    ∷ refuses (bytes "${{}") (6 ∷ 123 ∷ 0 ∷ 0 ∷ 0 ∷ 0 ∷ []) []
    ∷ refuses (bytes "${ }") (6 ∷ 32 ∷ 0 ∷ 0 ∷ 0 ∷ 0 ∷ []) []
    ∷ refuses (bytes "${^}") (6 ∷ 94 ∷ 0 ∷ 0 ∷ 0 ∷ 0 ∷ []) []
    ∷ refuses (bytes "${09.AZ_az}") (7 ∷ 2 ∷ 0 ∷ 8 ∷ 0 ∷ 0 ∷ []) (bytes "09.AZ_az")
    ∷ []

-- 7 and 8: kind and text, where the token is Text or Variable
abbrev pub unexpected : List Call
unexpected =
    refuses (bytes "=") (7 ∷ 4 ∷ 0 ∷ 0 ∷ 0 ∷ 0 ∷ []) (bytes "")
    ∷ refuses (bytes ":") (7 ∷ 5 ∷ 0 ∷ 0 ∷ 0 ∷ 0 ∷ []) (bytes "")
    ∷ refuses (bytes "'") (7 ∷ 6 ∷ 0 ∷ 0 ∷ 0 ∷ 0 ∷ []) (bytes "")
    ∷ refuses (bytes "\"") (7 ∷ 7 ∷ 0 ∷ 0 ∷ 0 ∷ 0 ∷ []) (bytes "")
    ∷ refuses (bytes "\\") (7 ∷ 8 ∷ 0 ∷ 0 ∷ 0 ∷ 0 ∷ []) (bytes "")
    ∷ refuses (bytes "${ab}") (7 ∷ 2 ∷ 0 ∷ 2 ∷ 0 ∷ 0 ∷ []) (bytes "ab")
    ∷ refuses (bytes " \t=") (7 ∷ 4 ∷ 0 ∷ 0 ∷ 0 ∷ 0 ∷ []) (bytes "")
    ∷ refuses (bytes "x=1\n\n ${a}") (7 ∷ 2 ∷ 2 ∷ 1 ∷ 0 ∷ 0 ∷ []) (bytes "x1a")
    ∷ refuses (bytes "\\\\#") (7 ∷ 8 ∷ 0 ∷ 0 ∷ 0 ∷ 0 ∷ []) (bytes "#")
    ∷ refuses (bytes "a b: c") (8 ∷ 1 ∷ 1 ∷ 1 ∷ 0 ∷ 0 ∷ []) (bytes "abc")
    ∷ refuses (bytes "a ${bc}") (8 ∷ 2 ∷ 1 ∷ 2 ∷ 0 ∷ 0 ∷ []) (bytes "abc")
    ∷ refuses (bytes "a'") (8 ∷ 6 ∷ 0 ∷ 0 ∷ 0 ∷ 0 ∷ []) (bytes "a")
    ∷ refuses (bytes "a\"") (8 ∷ 7 ∷ 0 ∷ 0 ∷ 0 ∷ 0 ∷ []) (bytes "a")
    ∷ refuses (bytes "a\\") (8 ∷ 8 ∷ 0 ∷ 0 ∷ 0 ∷ 0 ∷ []) (bytes "a")
    ∷ refuses (bytes "a\r") (8 ∷ 9 ∷ 0 ∷ 0 ∷ 0 ∷ 0 ∷ []) (bytes "a")
    ∷ refuses (bytes "a \n") (8 ∷ 9 ∷ 0 ∷ 0 ∷ 0 ∷ 0 ∷ []) (bytes "a")
    ∷ []

-- 9 to 14
abbrev pub line_refusals : List Call
line_refusals =
    refuses (bytes "a") (9 ∷ 0 ∷ 0 ∷ 0 ∷ 0 ∷ 0 ∷ []) (bytes "a")
    ∷ refuses (bytes "a \t") (9 ∷ 0 ∷ 0 ∷ 0 ∷ 0 ∷ 0 ∷ []) (bytes "a")
    ∷ refuses (bytes "a$=b") (9 ∷ 0 ∷ 0 ∷ 0 ∷ 0 ∷ 0 ∷ []) (bytes "a$=b")
    ∷ refuses (bytes "a-b=1") (10 ∷ 0 ∷ 0 ∷ 3 ∷ 0 ∷ 0 ∷ []) (bytes "a-b1")
    ∷ refuses (bytes "a-b='") (10 ∷ 0 ∷ 0 ∷ 3 ∷ 0 ∷ 0 ∷ []) (bytes "a-b")
    ∷ refuses (bytes "a=1\na-=") (10 ∷ 0 ∷ 2 ∷ 2 ∷ 0 ∷ 0 ∷ []) (bytes "a1a-")
    ∷ refuses (0xC3 ∷ 0xA9 ∷ 0x3D ∷ 0x31 ∷ []) (10 ∷ 0 ∷ 0 ∷ 2 ∷ 0 ∷ 0 ∷ []) (0xC3 ∷ 0xA9 ∷ 0x31 ∷ [])
    ∷ refuses (bytes "a=1\na=2") (11 ∷ 0 ∷ 2 ∷ 1 ∷ 0 ∷ 0 ∷ []) (bytes "a1a2")
    ∷ refuses (bytes "ab=1\na=2\nab=3") (11 ∷ 0 ∷ 5 ∷ 2 ∷ 0 ∷ 0 ∷ []) (bytes "ab1a2ab3")
    ∷ refuses (bytes "Foo: x") (12 ∷ 0 ∷ 0 ∷ 3 ∷ 0 ∷ 0 ∷ []) (bytes "Foox")
    ∷ refuses (bytes "Foo: 'x") (12 ∷ 0 ∷ 0 ∷ 3 ∷ 0 ∷ 0 ∷ []) (bytes "Foox")
    ∷ refuses (bytes "name: x") (12 ∷ 0 ∷ 0 ∷ 4 ∷ 0 ∷ 0 ∷ []) (bytes "namex")
    ∷ refuses (bytes "Libs.: x") (12 ∷ 0 ∷ 0 ∷ 5 ∷ 0 ∷ 0 ∷ []) (bytes "Libs.x")
    ∷ refuses (bytes "Name: a\nName: b") (13 ∷ 0 ∷ 5 ∷ 4 ∷ 0 ∷ 0 ∷ []) (bytes "NameaNameb")
    ∷ refuses (bytes "Cflags: a\nCflags: 'b'") (13 ∷ 0 ∷ 7 ∷ 6 ∷ 0 ∷ 0 ∷ []) (bytes "CflagsaCflagsb")
    ∷ refuses (bytes "Libs: 'a") (14 ∷ 0 ∷ 0 ∷ 0 ∷ 0 ∷ 0 ∷ []) (bytes "Libsa")
    ∷ refuses (bytes "Libs: \"a'") (14 ∷ 0 ∷ 0 ∷ 0 ∷ 0 ∷ 0 ∷ []) (bytes "Libsa")
    ∷ refuses (bytes "Libs: 'a\\'") (14 ∷ 0 ∷ 0 ∷ 0 ∷ 0 ∷ 0 ∷ []) (bytes "Libsa")
    ∷ []

-- 15: in fields and in variables
abbrev pub undefined : List Call
undefined =
    refuses (bytes "Name: ${x}") (15 ∷ 1 ∷ 4 ∷ 1 ∷ 0 ∷ 0 ∷ []) (bytes "Namex")
    ∷ refuses (bytes "URL: a\nName: b${x}") (15 ∷ 1 ∷ 9 ∷ 1 ∷ 0 ∷ 0 ∷ []) (bytes "URLaNamebx")
    ∷ refuses (bytes "Libs.private: a ${x} ${y}") (15 ∷ 10 ∷ 13 ∷ 1 ∷ 0 ∷ 0 ∷ []) (bytes "Libs.privateaxy")
    ∷ refuses (bytes "Libs: ${y}\nCflags: ${x}") (15 ∷ 8 ∷ 11 ∷ 1 ∷ 0 ∷ 0 ∷ []) (bytes "LibsyCflagsx")
    ∷ refuses (bytes "b=${d}\na=1${c}${d}\nName: ${e}") (15 ∷ 0 ∷ 4 ∷ 1 ∷ 2 ∷ 1 ∷ []) (bytes "bda1cdNamee")
    -- the smallest name in byte order: one that begins another is before it, else the first byte that differs decides
    ∷ refuses (bytes "ab=${x}\na=${y}") (15 ∷ 0 ∷ 4 ∷ 1 ∷ 3 ∷ 1 ∷ []) (bytes "abxay")
    ∷ refuses (bytes "a=${y}\nab=${x}") (15 ∷ 0 ∷ 1 ∷ 1 ∷ 0 ∷ 1 ∷ []) (bytes "ayabx")
    ∷ refuses (bytes "ab=${x}\naa=${y}") (15 ∷ 0 ∷ 5 ∷ 1 ∷ 3 ∷ 2 ∷ []) (bytes "abxaay")
    ∷ refuses (bytes "ab=${x}\nba=${y}") (15 ∷ 0 ∷ 2 ∷ 1 ∷ 0 ∷ 2 ∷ []) (bytes "abxbay")
    ∷ []

-- lexing
abbrev pub lexing : List Call
lexing =
    accepts (bytes "Name:\ta\t\n") (bytes "Namea") (1 ∷ 0 ∷ 0 ∷ 0 ∷ 1 ∷ 0 ∷ 97 ∷ [])
    ∷ accepts (bytes "Name: a\tb") (bytes "Nameab") (3 ∷ 0 ∷ 0 ∷ 0 ∷ 1 ∷ 0 ∷ 97 ∷ 9 ∷ 98 ∷ [])
    ∷ accepts (bytes "Name: $$x") (bytes "Name$x") (2 ∷ 0 ∷ 0 ∷ 0 ∷ 1 ∷ 0 ∷ 36 ∷ 120 ∷ [])
    ∷ accepts (bytes "Name: a$") (bytes "Namea$") (2 ∷ 0 ∷ 0 ∷ 0 ∷ 1 ∷ 0 ∷ 97 ∷ 36 ∷ [])
    ∷ accepts (bytes "Name: a$b") (bytes "Namea$b") (3 ∷ 0 ∷ 0 ∷ 0 ∷ 1 ∷ 0 ∷ 97 ∷ 36 ∷ 98 ∷ [])
    ∷ accepts (bytes "Name: a$#b") (bytes "Namea$#b") (4 ∷ 0 ∷ 0 ∷ 0 ∷ 1 ∷ 0 ∷ 97 ∷ 36 ∷ 35 ∷ 98 ∷ [])
    ∷ accepts (bytes "Name: a$ \n") (bytes "Namea$ ") (3 ∷ 0 ∷ 0 ∷ 0 ∷ 1 ∷ 0 ∷ 97 ∷ 36 ∷ 32 ∷ [])
    ∷ accepts (bytes "Name: a\\#b#c") (bytes "Namea#b") (3 ∷ 0 ∷ 0 ∷ 0 ∷ 1 ∷ 0 ∷ 97 ∷ 35 ∷ 98 ∷ [])
    ∷ accepts (bytes "Name: a\\\nb") (bytes "Nameab") (2 ∷ 0 ∷ 0 ∷ 0 ∷ 1 ∷ 0 ∷ 97 ∷ 98 ∷ [])
    ∷ accepts (bytes "Name: a\\\r\nb") (bytes "Nameab") (2 ∷ 0 ∷ 0 ∷ 0 ∷ 1 ∷ 0 ∷ 97 ∷ 98 ∷ [])
    ∷ accepts (bytes "Name: a\\\n\rb") (bytes "Nameab") (2 ∷ 0 ∷ 0 ∷ 0 ∷ 1 ∷ 0 ∷ 97 ∷ 98 ∷ [])
    ∷ accepts (bytes "Name: a\\\n\nURL: b") (bytes "NameaURLb") (1 ∷ 0 ∷ 0 ∷ 0 ∷ 1 ∷ 0 ∷ 97 ∷ 1 ∷ 0 ∷ 0 ∷ 0 ∷ 3 ∷ 0 ∷ 98 ∷ [])
    ∷ accepts (bytes "Name: a\\b") (bytes "Nameab") (3 ∷ 0 ∷ 0 ∷ 0 ∷ 1 ∷ 0 ∷ 97 ∷ 92 ∷ 98 ∷ [])
    ∷ accepts (bytes "Name: a=b:c'd\"") (bytes "Nameabcd") (8 ∷ 0 ∷ 0 ∷ 0 ∷ 1 ∷ 0 ∷ 97 ∷ 61 ∷ 98 ∷ 58 ∷ 99 ∷ 39 ∷ 100 ∷ 34 ∷ [])
    ∷ accepts (bytes "Name: a\r\nURL: b") (bytes "NameaURLb") (1 ∷ 0 ∷ 0 ∷ 0 ∷ 1 ∷ 0 ∷ 97 ∷ 1 ∷ 0 ∷ 0 ∷ 0 ∷ 3 ∷ 0 ∷ 98 ∷ [])
    ∷ accepts (bytes "Name: a\n\rURL: b") (bytes "NameaURLb") (1 ∷ 0 ∷ 0 ∷ 0 ∷ 1 ∷ 0 ∷ 97 ∷ 1 ∷ 0 ∷ 0 ∷ 0 ∷ 3 ∷ 0 ∷ 98 ∷ [])
    ∷ accepts (bytes "Name: a\r\rURL: b") (bytes "NameaURLb") (1 ∷ 0 ∷ 0 ∷ 0 ∷ 1 ∷ 0 ∷ 97 ∷ 1 ∷ 0 ∷ 0 ∷ 0 ∷ 3 ∷ 0 ∷ 98 ∷ [])
    ∷ accepts (bytes "Name:$\n\r\nURL: x") (bytes "Name$\nURLx") (2 ∷ 0 ∷ 0 ∷ 0 ∷ 1 ∷ 0 ∷ 36 ∷ 10 ∷ 1 ∷ 0 ∷ 0 ∷ 0 ∷ 3 ∷ 0 ∷ 120 ∷ [])
    ∷ accepts (bytes "# Name: ${") (bytes "") ([])
    ∷ accepts (bytes "Name: a#b\\\nURL: c") (bytes "NameaURLc") (1 ∷ 0 ∷ 0 ∷ 0 ∷ 1 ∷ 0 ∷ 97 ∷ 1 ∷ 0 ∷ 0 ∷ 0 ∷ 3 ∷ 0 ∷ 99 ∷ [])
    ∷ accepts (bytes "Name: a #c\n") (bytes "Namea") (1 ∷ 0 ∷ 0 ∷ 0 ∷ 1 ∷ 0 ∷ 97 ∷ [])
    ∷ accepts (bytes "Name: a #c") (bytes "Namea") (2 ∷ 0 ∷ 0 ∷ 0 ∷ 1 ∷ 0 ∷ 97 ∷ 32 ∷ [])
    ∷ accepts (bytes "Name: a{b}") (bytes "Namea{b}") (4 ∷ 0 ∷ 0 ∷ 0 ∷ 1 ∷ 0 ∷ 97 ∷ 123 ∷ 98 ∷ 125 ∷ [])
    ∷ accepts (bytes "Name: a}b") (bytes "Namea}b") (3 ∷ 0 ∷ 0 ∷ 0 ∷ 1 ∷ 0 ∷ 97 ∷ 125 ∷ 98 ∷ [])
    ∷ accepts (0x4E ∷ 0x61 ∷ 0x6D ∷ 0x65 ∷ 0x3A ∷ 0x20 ∷ 0xC3 ∷ 0xA9 ∷ []) (0x4E ∷ 0x61 ∷ 0x6D ∷ 0x65 ∷ 0xC3 ∷ 0xA9 ∷ []) (0x02 ∷ 0x00 ∷ 0x00 ∷ 0x00 ∷ 0x01 ∷ 0x00 ∷ 0xC3 ∷ 0xA9 ∷ [])
    ∷ accepts (bytes "Name: a#b\rURL: c") (bytes "NameaURLc") (1 ∷ 0 ∷ 0 ∷ 0 ∷ 1 ∷ 0 ∷ 97 ∷ 1 ∷ 0 ∷ 0 ∷ 0 ∷ 3 ∷ 0 ∷ 99 ∷ [])
    ∷ accepts (bytes "Na\\\nme: x") (bytes "Namex") (1 ∷ 0 ∷ 0 ∷ 0 ∷ 1 ∷ 0 ∷ 120 ∷ [])
    ∷ []

-- lines and string values
abbrev pub strings : List Call
strings =
    accepts (bytes "  Name  :  a") (bytes "Namea") (1 ∷ 0 ∷ 0 ∷ 0 ∷ 1 ∷ 0 ∷ 97 ∷ [])
    ∷ accepts (bytes "Name:   ") (bytes "Name") (0 ∷ 0 ∷ 0 ∷ 0 ∷ 1 ∷ 0 ∷ [])
    ∷ accepts (bytes "Name:  \n") (bytes "Name") (0 ∷ 0 ∷ 0 ∷ 0 ∷ 1 ∷ 0 ∷ [])
    ∷ accepts (bytes " a = b c \nName: ${a}") (bytes "abcNamea") (3 ∷ 0 ∷ 0 ∷ 0 ∷ 1 ∷ 0 ∷ 98 ∷ 32 ∷ 99 ∷ [])
    ∷ accepts (bytes "Name=1\nName: ${Name}") (bytes "Name1NameName") (1 ∷ 0 ∷ 0 ∷ 0 ∷ 1 ∷ 0 ∷ 49 ∷ [])
    ∷ accepts (bytes "a=x\nb=${a}${a}\nc=${b}-${a}\nName: ${c}") (bytes "axbaacb-aNamec") (4 ∷ 0 ∷ 0 ∷ 0 ∷ 1 ∷ 0 ∷ 120 ∷ 120 ∷ 45 ∷ 120 ∷ [])
    ∷ accepts (bytes "Libs.private: l\nLibs: m\nCflags: c\nConflicts: x\nRequires.private: p\nRequires: r\nVersion: v\nURL: u\nDescription: d\nName: n") (bytes "Libs.privatelLibsmCflagscConflictsxRequires.privatepRequiresrVersionvURLuDescriptiondNamen") (1 ∷ 0 ∷ 0 ∷ 0 ∷ 1 ∷ 0 ∷ 110 ∷ 1 ∷ 0 ∷ 0 ∷ 0 ∷ 2 ∷ 0 ∷ 100 ∷ 1 ∷ 0 ∷ 0 ∷ 0 ∷ 3 ∷ 0 ∷ 117 ∷ 1 ∷ 0 ∷ 0 ∷ 0 ∷ 4 ∷ 0 ∷ 118 ∷ 1 ∷ 0 ∷ 0 ∷ 0 ∷ 5 ∷ 0 ∷ 114 ∷ 1 ∷ 0 ∷ 0 ∷ 0 ∷ 6 ∷ 0 ∷ 112 ∷ 1 ∷ 0 ∷ 0 ∷ 0 ∷ 7 ∷ 0 ∷ 120 ∷ 4 ∷ 0 ∷ 0 ∷ 0 ∷ 8 ∷ 0 ∷ 1 ∷ 0 ∷ 0 ∷ 0 ∷ 1 ∷ 0 ∷ 0 ∷ 0 ∷ 11 ∷ 0 ∷ 99 ∷ 4 ∷ 0 ∷ 0 ∷ 0 ∷ 9 ∷ 0 ∷ 1 ∷ 0 ∷ 0 ∷ 0 ∷ 1 ∷ 0 ∷ 0 ∷ 0 ∷ 11 ∷ 0 ∷ 109 ∷ 4 ∷ 0 ∷ 0 ∷ 0 ∷ 10 ∷ 0 ∷ 1 ∷ 0 ∷ 0 ∷ 0 ∷ 1 ∷ 0 ∷ 0 ∷ 0 ∷ 11 ∷ 0 ∷ 108 ∷ [])
    ∷ []

-- list values
abbrev pub lists : List Call
lists =
    accepts (bytes "Libs: a b  c") (bytes "Libsabc") (4 ∷ 0 ∷ 0 ∷ 0 ∷ 9 ∷ 0 ∷ 3 ∷ 0 ∷ 0 ∷ 0 ∷ 1 ∷ 0 ∷ 0 ∷ 0 ∷ 11 ∷ 0 ∷ 97 ∷ 1 ∷ 0 ∷ 0 ∷ 0 ∷ 11 ∷ 0 ∷ 98 ∷ 1 ∷ 0 ∷ 0 ∷ 0 ∷ 11 ∷ 0 ∷ 99 ∷ [])
    ∷ accepts (bytes "Libs: \\${e}\ne=") (bytes "Libsee") (4 ∷ 0 ∷ 0 ∷ 0 ∷ 9 ∷ 0 ∷ 1 ∷ 0 ∷ 0 ∷ 0 ∷ 0 ∷ 0 ∷ 0 ∷ 0 ∷ 11 ∷ 0 ∷ [])
    ∷ accepts (bytes "Libs: \\") (bytes "Libs") (4 ∷ 0 ∷ 0 ∷ 0 ∷ 9 ∷ 0 ∷ 0 ∷ 0 ∷ 0 ∷ 0 ∷ [])
    ∷ accepts (bytes "Libs: a\\\\\n\n") (bytes "Libsa") (4 ∷ 0 ∷ 0 ∷ 0 ∷ 9 ∷ 0 ∷ 1 ∷ 0 ∷ 0 ∷ 0 ∷ 1 ∷ 0 ∷ 0 ∷ 0 ∷ 11 ∷ 0 ∷ 97 ∷ [])
    ∷ accepts (bytes "Libs: a$ b") (bytes "Libsa$ b") (4 ∷ 0 ∷ 0 ∷ 0 ∷ 9 ∷ 0 ∷ 1 ∷ 0 ∷ 0 ∷ 0 ∷ 4 ∷ 0 ∷ 0 ∷ 0 ∷ 11 ∷ 0 ∷ 97 ∷ 36 ∷ 32 ∷ 98 ∷ [])
    ∷ accepts (bytes "Libs: 'a \"b' \"c 'd\"") (bytes "Libsabcd") (4 ∷ 0 ∷ 0 ∷ 0 ∷ 9 ∷ 0 ∷ 2 ∷ 0 ∷ 0 ∷ 0 ∷ 4 ∷ 0 ∷ 0 ∷ 0 ∷ 11 ∷ 0 ∷ 97 ∷ 32 ∷ 34 ∷ 98 ∷ 4 ∷ 0 ∷ 0 ∷ 0 ∷ 11 ∷ 0 ∷ 99 ∷ 32 ∷ 39 ∷ 100 ∷ [])
    ∷ accepts (bytes "Libs: \"a\\\"b\"") (bytes "Libsab") (4 ∷ 0 ∷ 0 ∷ 0 ∷ 9 ∷ 0 ∷ 1 ∷ 0 ∷ 0 ∷ 0 ∷ 3 ∷ 0 ∷ 0 ∷ 0 ∷ 11 ∷ 0 ∷ 97 ∷ 34 ∷ 98 ∷ [])
    ∷ accepts (bytes "Libs: 'a\\'b'") (bytes "Libsab") (4 ∷ 0 ∷ 0 ∷ 0 ∷ 9 ∷ 0 ∷ 1 ∷ 0 ∷ 0 ∷ 0 ∷ 3 ∷ 0 ∷ 0 ∷ 0 ∷ 11 ∷ 0 ∷ 97 ∷ 39 ∷ 98 ∷ [])
    ∷ accepts (bytes "Libs: \"a\\b\"") (bytes "Libsab") (4 ∷ 0 ∷ 0 ∷ 0 ∷ 9 ∷ 0 ∷ 1 ∷ 0 ∷ 0 ∷ 0 ∷ 3 ∷ 0 ∷ 0 ∷ 0 ∷ 11 ∷ 0 ∷ 97 ∷ 92 ∷ 98 ∷ [])
    ∷ accepts (bytes "Libs: \"a\\'b\"") (bytes "Libsab") (4 ∷ 0 ∷ 0 ∷ 0 ∷ 9 ∷ 0 ∷ 1 ∷ 0 ∷ 0 ∷ 0 ∷ 4 ∷ 0 ∷ 0 ∷ 0 ∷ 11 ∷ 0 ∷ 97 ∷ 92 ∷ 39 ∷ 98 ∷ [])
    ∷ accepts (bytes "Libs: a\\ b") (bytes "Libsab") (4 ∷ 0 ∷ 0 ∷ 0 ∷ 9 ∷ 0 ∷ 1 ∷ 0 ∷ 0 ∷ 0 ∷ 3 ∷ 0 ∷ 0 ∷ 0 ∷ 11 ∷ 0 ∷ 97 ∷ 32 ∷ 98 ∷ [])
    ∷ accepts (bytes "Libs: a\\\\b") (bytes "Libsab") (4 ∷ 0 ∷ 0 ∷ 0 ∷ 9 ∷ 0 ∷ 1 ∷ 0 ∷ 0 ∷ 0 ∷ 3 ∷ 0 ∷ 0 ∷ 0 ∷ 11 ∷ 0 ∷ 97 ∷ 92 ∷ 98 ∷ [])
    ∷ accepts (bytes "Libs: \\'a") (bytes "Libsa") (4 ∷ 0 ∷ 0 ∷ 0 ∷ 9 ∷ 0 ∷ 1 ∷ 0 ∷ 0 ∷ 0 ∷ 2 ∷ 0 ∷ 0 ∷ 0 ∷ 11 ∷ 0 ∷ 39 ∷ 97 ∷ [])
    ∷ accepts (bytes "Libs: \\a b") (bytes "Libsab") (4 ∷ 0 ∷ 0 ∷ 0 ∷ 9 ∷ 0 ∷ 2 ∷ 0 ∷ 0 ∷ 0 ∷ 1 ∷ 0 ∷ 0 ∷ 0 ∷ 11 ∷ 0 ∷ 97 ∷ 1 ∷ 0 ∷ 0 ∷ 0 ∷ 11 ∷ 0 ∷ 98 ∷ [])
    ∷ accepts (bytes "Libs: a''b") (bytes "Libsab") (4 ∷ 0 ∷ 0 ∷ 0 ∷ 9 ∷ 0 ∷ 1 ∷ 0 ∷ 0 ∷ 0 ∷ 2 ∷ 0 ∷ 0 ∷ 0 ∷ 11 ∷ 0 ∷ 97 ∷ 98 ∷ [])
    ∷ accepts (bytes "Libs: '' a ''") (bytes "Libsa") (4 ∷ 0 ∷ 0 ∷ 0 ∷ 9 ∷ 0 ∷ 1 ∷ 0 ∷ 0 ∷ 0 ∷ 1 ∷ 0 ∷ 0 ∷ 0 ∷ 11 ∷ 0 ∷ 97 ∷ [])
    ∷ accepts (bytes "s=a \"b\nLibs: ${s} c ") (bytes "sabLibssc") (4 ∷ 0 ∷ 0 ∷ 0 ∷ 9 ∷ 0 ∷ 2 ∷ 0 ∷ 0 ∷ 0 ∷ 4 ∷ 0 ∷ 0 ∷ 0 ∷ 11 ∷ 0 ∷ 97 ∷ 32 ∷ 34 ∷ 98 ∷ 1 ∷ 0 ∷ 0 ∷ 0 ∷ 11 ∷ 0 ∷ 99 ∷ [])
    ∷ accepts (bytes "Libs: a:b=c") (bytes "Libsabc") (4 ∷ 0 ∷ 0 ∷ 0 ∷ 9 ∷ 0 ∷ 1 ∷ 0 ∷ 0 ∷ 0 ∷ 5 ∷ 0 ∷ 0 ∷ 0 ∷ 11 ∷ 0 ∷ 97 ∷ 58 ∷ 98 ∷ 61 ∷ 99 ∷ [])
    ∷ accepts (bytes "Libs: a \n") (bytes "Libsa") (4 ∷ 0 ∷ 0 ∷ 0 ∷ 9 ∷ 0 ∷ 1 ∷ 0 ∷ 0 ∷ 0 ∷ 1 ∷ 0 ∷ 0 ∷ 0 ∷ 11 ∷ 0 ∷ 97 ∷ [])
    ∷ accepts (bytes "Libs: \"${e}\"\ne=") (bytes "Libsee") (4 ∷ 0 ∷ 0 ∷ 0 ∷ 9 ∷ 0 ∷ 1 ∷ 0 ∷ 0 ∷ 0 ∷ 0 ∷ 0 ∷ 0 ∷ 0 ∷ 11 ∷ 0 ∷ [])
    ∷ accepts (bytes "Libs: ") (bytes "Libs") (4 ∷ 0 ∷ 0 ∷ 0 ∷ 9 ∷ 0 ∷ 0 ∷ 0 ∷ 0 ∷ 0 ∷ [])
    ∷ accepts (bytes "Libs: \"a b\"c") (bytes "Libsabc") (4 ∷ 0 ∷ 0 ∷ 0 ∷ 9 ∷ 0 ∷ 1 ∷ 0 ∷ 0 ∷ 0 ∷ 4 ∷ 0 ∷ 0 ∷ 0 ∷ 11 ∷ 0 ∷ 97 ∷ 32 ∷ 98 ∷ 99 ∷ [])
    ∷ []

pub sizes-say : map seen_of sizes ≡ map says sizes
unfolding seen_of says three called
sizes-say = refl

pub utf8-say : map seen_of utf8 ≡ map says utf8
unfolding seen_of says three called
utf8-say = refl

pub references-say : map seen_of references ≡ map says references
unfolding seen_of says three called
references-say = refl

pub unexpected-say : map seen_of unexpected ≡ map says unexpected
unfolding seen_of says three called
unexpected-say = refl

pub line_refusals-say : map seen_of line_refusals ≡ map says line_refusals
unfolding seen_of says three called
line_refusals-say = refl

pub undefined-say : map seen_of undefined ≡ map says undefined
unfolding seen_of says three called
undefined-say = refl

pub lexing-say : map seen_of lexing ≡ map says lexing
unfolding seen_of says three called
lexing-say = refl

pub strings-say : map seen_of strings ≡ map says strings
unfolding seen_of says three called
strings-say = refl

pub lists-say : map seen_of lists ≡ map says lists
unfolding seen_of says three called
lists-say = refl

-- the table of numbers, 0 to 19 in their order: also for answers that no call in these tables gives
pub numbers-say : map number (accepted 7 ∷ too_long ∷ workspace_short ∷ pool_short ∷ not_utf8 ∷ map refusal (
    lex_error missing_close_variable 7 ∷ lex_error (invalid_variable_char 7) 7 ∷ unexpected_at_start no_name ∷ unexpected_after_key no_name ∷ ended_after_key ∷ invalid_variable_name no_name
    ∷ duplicate_variable no_name ∷ unknown_field no_name ∷ duplicate_field no_name ∷ unterminated_quote no_name ∷ undefined_variable no_name (in_variable no_name)
    ∷ content_too_large (in_variable no_name) ∷ []
    ) ++ (output_short 7 ∷ not_records ∷ detail_short ∷ []))
    ≡ 0 ∷ 1 ∷ 2 ∷ 3 ∷ 4 ∷ 5 ∷ 6 ∷ 7 ∷ 8 ∷ 9 ∷ 10 ∷ 11 ∷ 12 ∷ 13 ∷ 14 ∷ 15 ∷ 16 ∷ 17 ∷ 18 ∷ 19 ∷ []
unfolding called
numbers-say = refl

-- byte order is strict: no name is before itself
pub not-before-itself : before (bytes "ab") (bytes "ab") ≡ false
unfolding called
not-before-itself = refl

-- demand 3's 15 for a variable has the number 0 in its detail
pub for-variable : ForVariable 15 (read (bytes "a=${a}") (dirty 136 6 0))
unfolding called
for-variable = (refl, refl)

-- with no pass more, the smallest name left is the one that lacks a value
pub no-pass-more : passes 0 ((ref (token 2 (bytes "c") 1 2) 2 ∷ []) ∷ (ref (token 2 (bytes "d") 3 7) 2 ∷ []) ∷ []) (none ∷ none ∷ []) ≡ lacks 0 (token 2 (bytes "c") 1 2)
unfolding called
no-pass-more = refl
