-- The rule worked by evaluation: count, shade, gap and E. Assumes nothing.
use mathlib.Core.Path.{◌≡◌, refl}
use mathlib.Core.List.{List, [], ◌∷◌}
use Prim.Native.Nat.{ℕ}
use Rattle.nearest.specs.Rule.{Shade, Searched, sooner, insert, in_order, closer, better, tries, tries_all, nearest}

abbrev told : Searched → List ℕ
told a = a.count ∷ a.best.number ∷ a.gap ∷ a.best.e ∷ []

abbrev shade : ℕ → ℕ → ℕ → Shade
shade difference number e = record { difference = difference; number = number; e = e }

-- 2 and 3 are tried first, and of equals 2 is kept; then 1, which is farther; then 4, which is nearer; 5 lies beyond it
abbrev five : List Shade
five = shade 5 1 9 ∷ shade 2 2 8 ∷ shade 2 3 8 ∷ shade 7 4 7 ∷ shade 8 5 8 ∷ []

-- of equals the lower number is kept, though it is tried later
abbrev equals : List Shade
equals = shade 3 1 9 ∷ shade 2 2 9 ∷ []

-- the next difference is this one, beside a best E of 6
abbrev next_at : ℕ → List Shade
next_at difference = shade 1 1 6 ∷ shade difference 2 6 ∷ []

abbrev results : List (List ℕ)
results =
    told (nearest 1 five)
    ∷ told (nearest 2 five)
    ∷ told (nearest 3 five)
    ∷ told (nearest 4 five)
    ∷ told (nearest 10 five)
    ∷ told (nearest 10 equals)
    ∷ told (nearest 10 (next_at 5))
    ∷ told (nearest 10 (next_at 6))
    ∷ told (nearest 1 (next_at 7))
    ∷ []

pub worked : results
    ≡ (1 ∷ 2 ∷ 6 ∷ 8 ∷ [])
    ∷ (2 ∷ 2 ∷ 3 ∷ 8 ∷ [])
    ∷ (3 ∷ 2 ∷ 1 ∷ 8 ∷ [])
    ∷ (4 ∷ 4 ∷ 0 ∷ 7 ∷ [])
    ∷ (4 ∷ 4 ∷ 0 ∷ 7 ∷ [])
    ∷ (2 ∷ 1 ∷ 0 ∷ 9 ∷ [])
    ∷ (2 ∷ 1 ∷ 0 ∷ 6 ∷ [])
    ∷ (1 ∷ 1 ∷ 0 ∷ 6 ∷ [])
    ∷ (1 ∷ 1 ∷ 0 ∷ 6 ∷ [])
    ∷ []
unfolding sooner insert in_order closer better tries tries_all nearest
worked = refl
