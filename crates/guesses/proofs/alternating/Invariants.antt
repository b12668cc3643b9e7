-- `guesses::alternating` is safe: what is taken off a coefficient is at most the one before it.
use Rattle.std.proofs.Common.{ℕ, ◌^◌, ◌<◌, ◌≤◌, length, get_or}
use Rattle.guesses.proofs.alternating.Given as goal

abbrev pub invariant-loop-c : goal.invariant-loop-c
invariant-loop-c l = (l.r < 2 ^ 31) × ((k : ℕ) → l.c-index ≤ k → k < length l.coefficients → l.r ≤ get_or l.coefficients k 0)
