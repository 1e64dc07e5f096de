-- Sums of tokens, on lengths: document 01, "Variables, then fields". Assumes nothing.
use Rattle.std.specs.Prelude.{ℕ, zero, suc, ◌+◌, ◌≡◌, List, ltb, length, get_or, Option, None, Some, Result, Ok, Err}
use Rattle.rules.specs.Bytes.{pick}
use Rattle.rules.specs.Tokens.{Token, is_a, variable_kind}
use Rattle.rules.specs.Variables.{Piece}
use Rattle.rules.proofs.Lengths.{add}
use Rattle.tokens.specs.Entries.{decode, token_at}
use Rattle.workspace.specs.Map.{dropped_kind, ranks_of, lengths_of}
use Rattle.passes.specs.declared.sums.Stop.{Stop}
use Rattle.passes.specs.declared.sums.Stop.TheVariants.{Over, Missing}

-- the most bytes that a value may have: `limit` of the rules, as a numeral
abbrev pub top : ℕ
top = 67108864

-- one more than what token t adds, where it refers to the variable of this rank; 0 where that has no value. What was dropped adds nothing.
unfoldable pub size_of : List ℕ → ℕ → Token → ℕ
size_of lens rank t = pick (is_a dropped_kind t) 1 (pick (is_a variable_kind t) (get_or lens rank 0) (suc (length t.text)))

-- of token j of ts, with their ranks
abbrev pub size_in : List Token → List ℕ → List ℕ → ℕ → ℕ
size_in ts ranks lens j = size_of lens (get_or ranks j 0) (token_at ts j)

abbrev pub size_at : ℕ → ℕ → ℕ → List ℕ → List ℕ → ℕ → ℕ
size_at n count v ws pool j = size_in (decode count ws pool) (ranks_of n ws) (lengths_of n v ws) j

-- what a token of this size adds
abbrev pub added : ℕ → Option ℕ
added zero = None
added (suc x) = Some x

-- what a sum comes to, or why it stops
abbrev pub Advance : Type 0
Advance = Result ℕ Stop

-- the sum s goes on at token k, over m tokens of these sizes
unfoldable pub advance : (ℕ → ℕ) → ℕ → ℕ → ℕ → Advance
advance size k s zero = Ok s
advance size k s (suc m) = elim (size k) [ zero ↦ Err (Missing k s) | suc x ↦ pick (ltb top (s + x)) (Err Over) (advance size (suc k) (s + x) m) ]

-- what has a value has the same in m
abbrev pub Extends : List ℕ → List ℕ → Type 0
Extends lens m = (j k : ℕ) → get_or lens j 0 ≡ suc k → get_or m j 0 ≡ suc k

-- with these values, and with any more, the sum a and the pieces ps come to what the sum b and the pieces qs come to
abbrev pub Reaches : List ℕ → ℕ → List Piece → ℕ → List Piece → Type 0
Reaches lens a ps b qs = (m : List ℕ) → Extends lens m → add m a ps ≡ add m b qs
