-- How the code finds the next shade and holds a search: the difference of L and the number of a shade as one number. Assumes nothing.
use Rattle.std.specs.Prelude.{Bool, false, if◌then◌else◌, ◌&&◌, ◌||◌, cond, List, map, slice_get, Option, None, MatchOption, ℕ, ◌+◌, ◌-◌, ◌*◌, ◌/◌, ◌%◌, ◌^◌, ◌≤◌, ◌<◌, ltb, eqb, length, get_or}
use Rattle.std.specs.Option.{option_map, option_map_or, option_and_then}
use Rattle.nearest.specs.declared.Search.{Search}
use Rattle.nearest.specs.Rule.{Shade}

-- numbers have 16 bits
abbrev pub number_range : ℕ
number_range = 65536

-- shades are tried by rising keys
abbrev pub key_of : ℕ → ℕ → ℕ
key_of difference number = difference * number_range + number

abbrev pub difference_in : ℕ → ℕ
difference_in key = key / number_range

abbrev pub number_in : ℕ → ℕ
number_in key = key % number_range

abbrev pub shade_key : Shade → ℕ
shade_key s = key_of s.difference s.number

abbrev pub keys_of : List Shade → List ℕ
keys_of shades = map shade_key shades

-- above every key
abbrev pub key_range : ℕ
key_range = 2 ^ 48

pub record SmallKeys (keys : List ℕ) : Type 0 where
  pub below : (i : ℕ) → i < length keys → get_or keys i 0 < key_range

-- the place of the least key from a number on
pub record IsNext (keys : List ℕ) (from i : ℕ) : Type 0 where
  pub inside : i < length keys
  pub high : from ≤ get_or keys i 0
  pub least : (j : ℕ) → j < length keys → from ≤ get_or keys j 0 → get_or keys i 0 ≤ get_or keys j 0

-- that place; none where no key is so high
abbrev pub NextIs : List ℕ → ℕ → Option ℕ → Type 0
NextIs keys from r = MatchOption r ((j : ℕ) → j < length keys → get_or keys j 0 < from) (IsNext keys from)

-- a search after its first full comparison, of a key; the next shade is at a place, if one remains
abbrev pub begun : ℕ → ℕ → Option ℕ → Search
begun key e next = record { count = 1; best = key; e = e; next = next }

-- the difference of L of the next shade, where one remains
unfoldable pub next_difference : Search → List ℕ → Option ℕ
next_difference s keys = option_map difference_in (option_and_then (slice_get keys) s.next)

-- whether the next shade is tried: there is one, the budget is not used, and its difference of L is below the best E
unfoldable pub goes_on : Search → ℕ → List ℕ → Bool
goes_on s budget keys = option_map_or (λ difference. ltb s.count budget && ltb difference s.e) (next_difference s keys) false

-- the place of the shade that is tried next, where the search goes on
unfoldable pub turn : Search → ℕ → List ℕ → Option ℕ
turn s budget keys = if goes_on s budget keys then s.next else None

-- whether a full comparison takes the place of the best one so far
abbrev pub is_closer : Search → ℕ → ℕ → Bool
is_closer s key e = ltb e s.e || (eqb e s.e && ltb (number_in key) (number_in s.best))

-- a search after one full comparison more
unfoldable pub compared : Search → ℕ → ℕ → Option ℕ → Search
compared s key e next =
    cond (is_closer s key e)
    (record { count = s.count + 1; best = key; e = e; next = next })
    (record { count = s.count + 1; best = s.best; e = s.e; next = next })

-- the best E less the next difference of L, where a shade remains
unfoldable pub gap_of : Search → List ℕ → ℕ
gap_of s keys = option_map_or (λ difference. s.e - difference) (next_difference s keys) 0
