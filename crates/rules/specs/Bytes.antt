-- Bytes, byte order and little-endian numbers. Assumes nothing.
use Rattle.std.specs.Prelude.{ℕ, zero, suc, ◌+◌, ◌*◌, ◌/◌, ◌%◌, Bool, true, false, ◌&&◌, ◌||◌, List, [], ◌∷◌, ◌++◌, length, drop, eqb, ltb, leb}
use Prim.Native.Char.{Char, code}
use Prim.Native.String as S

-- the first where the test holds, else the second
unfoldable pub pick : {A : Type 0} → Bool → A → A → A
pick true a b = a
pick false a b = b

-- a text of ASCII characters, as bytes
unfoldable pub bytes : S.String → List ℕ
bytes S.[] = []
bytes (S.◌∷◌ c s) = code c ∷ bytes s

-- the byte b is the character c
unfoldable pub is : Char → ℕ → Bool
is c b = eqb b (code c)

unfoldable pub within : ℕ → ℕ → ℕ → Bool
within low high b = leb low b && leb b high

unfoldable pub same : List ℕ → List ℕ → Bool
same [] [] = true
same [] (b ∷ bs) = false
same (a ∷ r) [] = false
same (a ∷ r) (b ∷ bs) = eqb a b && same r bs

-- byte order
unfoldable pub before : List ℕ → List ℕ → Bool
before [] [] = false
before [] (b ∷ bs) = true
before (a ∷ r) [] = false
before (a ∷ r) (b ∷ bs) = ltb a b || (eqb a b && before r bs)

-- the test holds at each
unfoldable pub all : (ℕ → Bool) → List ℕ → Bool
all f [] = true
all f (b ∷ bs) = f b && all f bs

-- how many bytes from the front on pass the test
unfoldable pub run : (ℕ → Bool) → List ℕ → ℕ
run f [] = 0
run f (b ∷ bs) = elim (f b) [ true ↦ suc (run f bs) | false ↦ 0 ]

-- l, with its front overwritten by xs
unfoldable pub overwrite : List ℕ → List ℕ → List ℕ
overwrite xs l = xs ++ drop (length xs) l

-- a number in so many bytes, little-endian
unfoldable pub to_little : ℕ → ℕ → List ℕ
to_little zero n = []
to_little (suc k) n = n % 256 ∷ to_little k (n / 256)

-- the number that such bytes are
unfoldable pub from_little : List ℕ → ℕ
from_little [] = 0
from_little (b ∷ bs) = b + 256 * from_little bs
