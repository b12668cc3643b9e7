-- Little-endian numbers in a list of bytes. Assumes nothing.
use Rattle.std.specs.Prelude.{ℕ, zero, suc, ◌+◌, ◌*◌, ◌/◌, ◌%◌, ◌<◌, List, [], ◌∷◌, ◌++◌, get_or, take, drop, ℤ}
use Rattle.std.specs.Int.{w32, cast_unsigned}

-- n in k bytes, the lowest first
unfoldable pub little_endian : ℕ → ℕ → List ℕ
little_endian zero n = []
little_endian (suc k) n = (n % 256) ∷ little_endian k (n / 256)

abbrev pub le16 : ℕ → List ℕ
le16 n = little_endian 2 n

abbrev pub le32 : ℕ → List ℕ
le32 n = little_endian 4 n

-- the number that some bytes are, the lowest first
unfoldable pub from_little_endian : List ℕ → ℕ
from_little_endian [] = 0
from_little_endian (b ∷ bs) = b + 256 * from_little_endian bs

-- the k bytes from a place on
unfoldable pub part : List ℕ → ℕ → ℕ → List ℕ
part s at k = take k (drop at s)

-- the number that the k bytes from a place on are
unfoldable pub number_at : ℕ → List ℕ → ℕ → ℕ
number_at k s at = from_little_endian (part s at k)

abbrev pub at16 : List ℕ → ℕ → ℕ
at16 s at = number_at 2 s at

abbrev pub at32 : List ℕ → ℕ → ℕ
at32 s at = number_at 4 s at

-- n numbers of 2 bytes from a place on, with a fixed step from one to the next
unfoldable pub words : List ℕ → ℕ → ℕ → ℕ → List ℕ
words s at step zero = []
words s at step (suc n) = at16 s at ∷ words s (at + step) step n

-- each number in 2 bytes
unfoldable pub bytes_of : List ℕ → List ℕ
bytes_of [] = []
bytes_of (x ∷ xs) = le16 x ++ bytes_of xs

-- a signed number's 32 bits, as a number: two's complement
abbrev pub twos : ℤ → ℕ
twos z = cast_unsigned w32 z

-- every number of a list is below m
abbrev pub AllBelow : ℕ → List ℕ → Type 0
AllBelow m xs = (i : ℕ) → get_or xs i 0 < m
