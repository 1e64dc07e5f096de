-- How a workspace and a pool hold tokens: four entries a token. Assumes nothing.
use Rattle.std.specs.Prelude.{ℕ, zero, suc, ◌+◌, ◌*◌, ◌%◌, List, [], ◌∷◌, ◌++◌, length, take, drop, get_or, ltb, leb}
use Rattle.rules.specs.Bytes.{pick}
use Rattle.rules.specs.Tokens.{Token, token, variable_kind, pooled, no_name}

-- A token's entries: its kind; its place in the pool, or its byte where it has no text there; its length; its place in the source
unfoldable pub entry : Token → List ℕ
entry t = t.kind ∷ pick (pooled t) t.place (get_or t.text 0 0) ∷ length t.text ∷ t.source ∷ []

unfoldable pub entries : List Token → List ℕ
entries [] = []
entries (t ∷ ts) = entry t ++ entries ts

-- the token that four entries are. Text and Variable have as text a part of the pool, as much of it as there is; the others one byte.
unfoldable pub from_entry : ℕ → ℕ → ℕ → ℕ → List ℕ → Token
from_entry kind at len source pool =
    token kind (pick (leb kind variable_kind) (take len (drop at pool)) (at % 256 ∷ [])) (pick (leb kind variable_kind) at 0) source

-- the first `count` tokens that a workspace and a pool hold
unfoldable pub decode : ℕ → List ℕ → List ℕ → List Token
decode zero ws pool = []
decode (suc n) ws pool = from_entry (get_or ws 0 0) (get_or ws 1 0) (get_or ws 2 0) (get_or ws 3 0) pool ∷ decode n (drop 4 ws) pool

-- the j-th token; no token past the last
abbrev pub token_at : List Token → ℕ → Token
token_at ts j = get_or ts j no_name

-- the text that a token has in the pool
abbrev pub pool_text : Token → List ℕ
pool_text t = pick (pooled t) t.text []

-- the byte of a token that has no text in the pool, else 0
abbrev pub byte_of : Token → ℕ
byte_of t = pick (pooled t) 0 (get_or t.text 0 0)

-- Kinds, places, sources and bytes don't depend on the pool
unfoldable pub kinds : ℕ → List ℕ → List ℕ
kinds zero ws = []
kinds (suc n) ws = get_or ws 0 0 ∷ kinds n (drop 4 ws)

-- 0 past the last
abbrev pub kind_at : ℕ → List ℕ → ℕ → ℕ
kind_at count ws j = get_or (kinds count ws) j 0

abbrev pub place_at : ℕ → List ℕ → ℕ → ℕ
place_at count ws j = (token_at (decode count ws []) j).place

abbrev pub source_at : ℕ → List ℕ → ℕ → ℕ
source_at count ws j = (token_at (decode count ws []) j).source

abbrev pub byte_at : ℕ → List ℕ → ℕ → ℕ
byte_at count ws j = byte_of (token_at (decode count ws []) j)

-- the entry f of token j; 0 past the last
abbrev pub entry_at : ℕ → List ℕ → ℕ → ℕ → ℕ
entry_at count ws j f = pick (ltb j count) (get_or ws (4 * j + f) 0) 0
