-- What a look shows of what was found, by the case that it is. Assumes nothing.
use mathlib.Core.Path.{◌≡◌, sym, ap, ◌∙◌}
use Rattle.causes.specs.Causes.{Numbered, mapped}
use Rattle.looks.specs.Look.{Sight}

pub shown : {R A : Type 0} (answer : R → Numbered A) (sight : A → Sight) {found case : R} {a : Numbered A} →
    found ≡ case → answer found ≡ a → mapped sight (answer case) ≡ mapped sight a
shown {R} answer sight told e = ap (λ (r : R). mapped sight (answer r)) (sym told) ∙ ap (mapped sight) e
