-- Document 02, "Nearest shade in the time there is": the rule, over shades of which the difference of L, the number and E are known.
-- Assumes nothing.
use Rattle.std.specs.Prelude.{Bool, ◌&&◌, ◌||◌, cond, List, [], ◌∷◌, ℕ, ◌+◌, ◌-◌, leb, ltb, eqb}

-- a shade to a search: the "difference of L (its size, without sign, from the swatch's L)", its number, and E
pub record Shade : Type 0 where
  pub difference : ℕ
  pub number : ℕ
  pub e : ℕ

-- "Shades are tried by rising difference of L .., then by number"
unfoldable pub sooner : Shade → Shade → Bool
sooner s t = ltb s.difference t.difference || (eqb s.difference t.difference && ltb s.number t.number)

unfoldable pub insert : Shade → List Shade → List Shade
insert s [] = s ∷ []
insert s (t ∷ ts) = cond (sooner s t) (s ∷ (t ∷ ts)) (t ∷ insert s ts)

unfoldable pub in_order : List Shade → List Shade
in_order [] = []
in_order (s ∷ ss) = insert s (in_order ss)

-- "the best shade (lowest number among equals tried)": the best after one more full comparison
unfoldable pub closer : Shade → Shade → Bool
closer s t = ltb s.e t.e || (eqb s.e t.e && ltb s.number t.number)

unfoldable pub better : Shade → Shade → Shade
better best next = cond (closer next best) next best

-- "The answer carries the number of full comparisons made, the best shade .. and a gap"
pub record Searched : Type 0 where
  pub count : ℕ
  pub best : Shade
  pub gap : ℕ

abbrev pub searched : ℕ → Shade → ℕ → Searched
searched count best gap = record { count = count; best = best; gap = gap }

-- after so many full comparisons, with shades that remain: "The search ends when the budget is used, when no shade remains, or when the next
-- difference of L is no smaller than the best E."; "a gap: best E less the next difference of L, 0 if that is negative or no shade remains"
-- (a number less a larger one is 0)
unfoldable pub tries : ℕ → ℕ → Shade → List Shade → Searched
tries budget count best [] = searched count best 0
tries budget count best (next ∷ rest) =
    cond (leb budget count || leb best.e next.difference)
    (searched count best (best.e - next.difference))
    (tries budget (count + 1) (better best next) rest)

-- the first shade is always compared: a budget of 0 and a book without shades are refused before
unfoldable pub tries_all : ℕ → List Shade → Searched
tries_all budget [] = searched 0 (record { difference = 0; number = 0; e = 0 }) 0
tries_all budget (first ∷ rest) = tries budget 1 first rest

unfoldable pub nearest : ℕ → List Shade → Searched
nearest budget shades = tries_all budget (in_order shades)

-- what is answered of it: "the number of full comparisons made, the best shade .. and a gap", and the best E
pub record NearestOutcome : Type 0 where
  pub count : ℕ
  pub shade : ℕ
  pub gap : ℕ
  pub e : ℕ

abbrev pub answered : Searched → NearestOutcome
answered a = record { count = a.count; shade = a.best.number; gap = a.gap; e = a.best.e }
