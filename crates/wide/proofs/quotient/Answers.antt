-- `wide::quotient` meets its contract: what two comparisons show to be the quotient is the quotient, and so is what the search finds, whatever
-- the guess.
use Rattle.std.proofs.Common.{◌≡◌, inl, inr, ◌/◌, true, rules}
use Rattle.wide.specs.Roots.{is_last, quotient_below}
use Rattle.wide.specs.Words.{value}
use Rattle.wide.proofs.Search.{last_shown, last_quotient, quotient_small}
use Rattle.wide.proofs.quotient.Goals as goal

pub returns : goal.returns
returns c =
    let n = value c.args.n in
    let d = value c.args.d in
    let q = c.guessed.result in
    let e : q ≡ n / d =
    elim c.guessed.ensures [
      | inl h ↦ let shown : is_last (quotient_below n d) q ≡ true = search rules in last_quotient n d q (last_shown (quotient_below n d) q shown)
      | inr h ↦ search rules
    ]
    in (e, quotient_small n d e c.requires.1)
