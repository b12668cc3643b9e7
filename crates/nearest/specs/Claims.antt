-- Document 02, "Nearest shade in the time there is": what is claimed of the rule; proofs/Theorems.antt proves it. Assumes nothing.
use Rattle.std.specs.Prelude.{◌≡◌, ℕ, ◌+◌, ◌≤◌, length, take}
use mathlib.Core.List.{List, Memᴰ}
use Rattle.nearest.specs.Rule.{Shade, Searched, in_order, nearest}

abbrev pub In : Shade → List Shade → Type 0
In s ss = Memᴰ s ss

-- no larger E than another's, and of equals no larger number
pub record AtLeastAsGood (s t : Shade) : Type 0 where
  pub close : s.e ≤ t.e
  pub low : s.e ≡ t.e → s.number ≤ t.number

-- the shades tried: as many as were counted, in the order of tries
abbrev pub tried : List Shade → Searched → List Shade
tried shades a = take a.count (in_order shades)

pub record Promised (budget : ℕ) (shades : List Shade) (a : Searched) : Type 0 where
  -- "No shade in the book has an E below the best by more than the gap."
  pub near : (s : Shade) → In s shades → a.best.e ≤ s.e + a.gap
  -- with a gap of 0 the best is the nearest of all
  pub nearest_of_all : a.gap ≡ 0 → (s : Shade) → In s shades → a.best.e ≤ s.e
  -- "The count .. never exceeds the budget."
  pub within : a.count ≤ budget
  pub some : 1 ≤ a.count
  -- "the best shade (lowest number among equals tried)"
  pub among : In a.best (tried shades a)
  pub lowest : (s : Shade) → In s (tried shades a) → AtLeastAsGood a.best s
  -- the best is one of the shades
  pub own : In a.best shades

-- E is never below the difference of L: it is the root, down, of a sum in which the square of that difference stands
abbrev pub NearestPromised : Type 0
NearestPromised =
    (budget : ℕ) (shades : List Shade) → 1 ≤ budget → 1 ≤ length shades → ((s : Shade) → In s shades → s.difference ≤ s.e)
    → Promised budget shades (nearest budget shades)
