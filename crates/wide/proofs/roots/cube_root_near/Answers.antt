-- `wide::roots::cube_root_near` meets its contract: what two comparisons show to be the root is the root, and so is what the search finds,
-- whatever the guess.
use Rattle.std.proofs.Common.{◌≡◌, inl, inr, true, arith, rules}
use Rattle.wide.specs.Words.{value}
use Rattle.wide.specs.Roots.{Last, is_last, cube_below}
use Rattle.wide.proofs.Search.{last_shown, last_cube}
use Rattle.wide.proofs.roots.cube_root_near.Goals as goal

pub returns : goal.returns
returns c =
    let a = c.args in
    let below = cube_below a.d (value c.product-target.result) in
    let p = c.guessed.result in
    let last : Last below p =
    elim c.guessed.ensures [
      | inl h ↦ let shown : is_last below p ≡ true = search rules in last_shown below p shown
      | inr h ↦ search rules
    ]
    in last_cube a.k a.n a.d p (omega arith) (rw c.product-target.ensures at last)
