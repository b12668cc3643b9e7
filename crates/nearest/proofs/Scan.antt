-- The scan for the least key from a number on: of the keys scanned so far, the least is known. Assumes nothing.
use mathlib.Core.Path.{◌≡◌}
use mathlib.Core.List.{List}
use Prim.Native.Nat.{ℕ, ◌≤◌, ◌<◌}
use lib.ListN.{length, get_or}

-- a key and its place: the least of the first n keys from a number on
pub record Best (keys : List ℕ) (from n : ℕ) (best : ℕ × ℕ) : Type 0 where
  pub inside : best.1 < length keys
  pub is : best.0 ≡ get_or keys best.1 0
  pub high : from ≤ best.0
  pub least : (j : ℕ) → j < n → from ≤ get_or keys j 0 → best.0 ≤ get_or keys j 0
