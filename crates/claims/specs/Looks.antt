-- Document 02, "See the verdict first": what is claimed of the calls that only look, beside the claim about every list. Assumes nothing.
use Rattle.std.specs.Prelude.{◌≡◌, List, ◌∷◌, ◌++◌, ℕ, suc, length, take, drop}
use Rattle.causes.specs.Causes as causes
use Rattle.looks.specs.Look.{Look, preview, previewed}
use Rattle.session.specs.declared.Session.{Session}
use Rattle.session.specs.Call.{Call, trial, look}
use Rattle.session.specs.Outcome.{Outcome, accepted, coloured, tried, counted, seen, refused}
use Rattle.session.specs.Served.{served}
use Rattle.claims.specs.Claim.{outcomes_from}

-- a trial's outcome as a preview gives it: the same answer, or the same cause
abbrev pub as_preview : Outcome → Outcome
as_preview accepted = accepted
as_preview (coloured colour) = coloured colour
as_preview (tried t) = seen (causes.accepted (previewed t))
as_preview (counted r) = counted r
as_preview (seen answer) = seen answer
as_preview (refused cause) = seen (causes.refused cause)

-- "Its colour, E, verdict or cause equal those of the trial done on a copy of the session, and the session itself doesn't move."
pub record PreviewIsTrial : Type 0 where
  pub answer : (s : Session) (table : ℕ) (readings : List ℕ) →
      (served s (look (preview table readings))).outcome ≡ as_preview (served s (trial table readings)).outcome
  pub unmoved : (s : Session) (k : Look) → (served s (look k)).session ≡ s

-- a list without what stands at a place
abbrev pub without : {A : Type 0} → ℕ → List A → List A
without n xs = take n xs ++ drop (suc n) xs

-- "Previews may stand anywhere among the calls": leaving a look out of a list changes no other call's outcome
pub record LookLeftOut : Type 0 where
  pub others : (s : Session) (before after : List Call) (k : Look) →
      outcomes_from s (before ++ after) ≡ without (length before) (outcomes_from s (before ++ (look k ∷ after)))
