-- How far two numbers are apart: `distance m n` of natural numbers, `apart x y` of numbers with a sign. Assumes nothing.
use Rattle.std.specs.Prelude.{ℕ, ℤ, unsigned_abs, ◌-ℤ◌}
pub use Rattle.std.specs.Int.{abs_diff as distance}

-- the size of x − y
abbrev pub apart : ℤ → ℤ → ℕ
apart x y = unsigned_abs (x -ℤ y)
