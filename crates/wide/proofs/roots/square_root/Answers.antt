-- `wide::roots::square_root` meets its contract: what two comparisons show to be the root is the root, and so is what the search finds,
-- whatever the guess.
use Rattle.std.proofs.Common.{◌≡◌, inl, inr, true, rules}
use Rattle.wide.specs.Roots.{is_last, square_below}
use Rattle.wide.proofs.Search.{last_shown, last_square}
use Rattle.wide.proofs.roots.square_root.Goals as goal

pub returns : goal.returns
returns c =
    let n = c.args.n in
    let p = c.guessed.result in
    elim c.guessed.ensures [
      | inl h ↦ let shown : is_last (square_below n) p ≡ true = search rules in last_square n p (last_shown (square_below n) p shown)
      | inr h ↦ search rules
    ]
