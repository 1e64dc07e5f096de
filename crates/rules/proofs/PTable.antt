-- Document 01, "Both sides of each edge": the cases marked P, in one table, of the whole call on buffers that are not clean. Assumes nothing.
use Prim.Native.Nat.{ℕ, ◌+◌}
use Prim.Native.String.{String}
use mathlib.Core.Path.{◌≡◌, refl}
use mathlib.Core.List.{List, [], ◌∷◌, ◌++◌, map}
use lib.ListN.{length, replicate}
use Rattle.rules.specs.Bytes.{bytes, overwrite}
use Rattle.rules.specs.Reader.{room}
use Rattle.rules.proofs.Computed.{called}

-- what the document says of a text: the number with its detail, what stands at the front of the pool, and what at the front of the output
pub record Case : Type 0 where
  pub text : String
  pub answer : List ℕ
  pub pool : String
  pub output : List ℕ

-- 0 with the bytes written
abbrev accepted : ℕ → List ℕ
accepted n = 0 ∷ n ∷ 0 ∷ 0 ∷ 0 ∷ 0 ∷ []

-- a number with nothing else
abbrev bare : ℕ → List ℕ
bare n = n ∷ 0 ∷ 0 ∷ 0 ∷ 0 ∷ 0 ∷ []

abbrev pub cases : List Case
cases =
    record { text = ""; answer = accepted 0; pool = ""; output = [] }
    ∷ record { text = "Name: a "; answer = accepted 8; pool = "Namea"; output = 2 ∷ 0 ∷ 0 ∷ 0 ∷ 1 ∷ 0 ∷ 97 ∷ 32 ∷ [] }
    ∷ record { text = "Name: a \n"; answer = accepted 7; pool = "Namea"; output = 1 ∷ 0 ∷ 0 ∷ 0 ∷ 1 ∷ 0 ∷ 97 ∷ [] }
    ∷ record { text = "Name: a  \n"; answer = accepted 8; pool = "Namea"; output = 2 ∷ 0 ∷ 0 ∷ 0 ∷ 1 ∷ 0 ∷ 97 ∷ 32 ∷ [] }
    ∷ record { text = "Libs: ''"; answer = accepted 10; pool = "Libs"; output = 4 ∷ 0 ∷ 0 ∷ 0 ∷ 9 ∷ 0 ∷ 0 ∷ 0 ∷ 0 ∷ 0 ∷ [] }
    ∷ record { text = "e=\nLibs: ${e}"; answer = accepted 16; pool = "eLibse"; output = 4 ∷ 0 ∷ 0 ∷ 0 ∷ 9 ∷ 0 ∷ 1 ∷ 0 ∷ 0 ∷ 0 ∷ 0 ∷ 0 ∷ 0 ∷ 0 ∷ 11 ∷ 0 ∷ [] }
    ∷ record { text = "a=${b}\nb=1\nName: ${a}"; answer = accepted 7; pool = "abb1Namea"; output = 1 ∷ 0 ∷ 0 ∷ 0 ∷ 1 ∷ 0 ∷ 49 ∷ [] }
    ∷ record { text = "a=${a}"; answer = 15 ∷ 0 ∷ 1 ∷ 1 ∷ 0 ∷ 1 ∷ []; pool = "aa"; output = [] }
    ∷ record { text = "b=${c}\nc=${b}\na=${b}"; answer = 15 ∷ 0 ∷ 5 ∷ 1 ∷ 4 ∷ 1 ∷ []; pool = "bccbab"; output = [] }
    ∷ record { text = "Name: ${}"; answer = 15 ∷ 1 ∷ 4 ∷ 0 ∷ 0 ∷ 0 ∷ []; pool = "Name"; output = [] }
    ∷ record { text = "Name: $\nx"; answer = accepted 9; pool = "Name$\nx"; output = 3 ∷ 0 ∷ 0 ∷ 0 ∷ 1 ∷ 0 ∷ 36 ∷ 10 ∷ 120 ∷ [] }
    ∷ record { text = "Name"; answer = bare 9; pool = "Name"; output = [] }
    ∷ record { text = "Name\n"; answer = 8 ∷ 9 ∷ 0 ∷ 0 ∷ 0 ∷ 0 ∷ []; pool = "Name"; output = [] }
    ∷ record { text = "Foo: ${x"; answer = bare 5; pool = ""; output = [] }
    ∷ record { text = "Libs: b\nLibs: 'a"; answer = bare 14; pool = "LibsbLibsa"; output = [] }
    ∷ record { text = "Cflags: \"a\\\\\""; answer = bare 14; pool = "Cflagsa"; output = [] }
    ∷ []

-- Entries and bytes to spare in each buffer; the output has 40 bytes.
unfoldable pub call : Case → List (List ℕ)
unfolding called
call c = let n = length (bytes c.text) in called (bytes c.text) (room n + 3) (n + 2) 40

-- the workspace is zero as far as the text needs it; what is past the room, the pool's text and the records is unchanged
unfoldable pub says : Case → List (List ℕ)
unfolding called
says c =
    let n = length (bytes c.text) in
    c.answer
    ∷ (replicate (room n) 0 ++ replicate 3 7)
    ∷ overwrite (bytes c.pool) (replicate (n + 2) 251)
    ∷ overwrite c.output (replicate 40 252)
    ∷ []

pub each-says : map call cases ≡ map says cases
unfolding call says called
each-says = refl
