-- Some entry is above the limit, as the definition goes through them. Assumes nothing.
use Rattle.std.proofs.Common.{◌≡◌, ℕ, List, [], ◌∷◌, refl, ap, ◌∙◌, ltb, ◌||◌, Bool, rules}
use borrow.Author.Tests.{tests}
use Rattle.std.specs.List.{list_any}
use Rattle.std.proofs.lemmas.Iterator.{YieldsList-from_slice}
use Rattle.std.proofs.lemmas.Iterator.Search.{any_from_yields_List}
use Rattle.cie.specs.Scales.{any_above}
use Rattle.conditions.proofs.checks.any_above.Goals as goal

any_listed : (limit : ℕ) (xs : List ℕ) → list_any (ltb limit) xs ≡ any_above limit xs
unfolding any_above
any_listed limit [] = refl
any_listed limit (x ∷ xs) = ap (λ (b : Bool). ltb limit x || b) (any_listed limit xs)

pub returns : goal.returns
returns c =
    any_from_yields_List (ltb c.args.limit) _ _ _ c.any.ensures.ran (YieldsList-from_slice c.args.table.now (cc)) (λ x b q k. search (rules, tests))
    ∙ any_listed c.args.limit c.args.table.now
