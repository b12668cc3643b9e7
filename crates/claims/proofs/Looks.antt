-- A preview is worked out by the definition that a trial is worked out by, and the call after a look gets the session that the look got.
-- Assumes nothing.
use mathlib.Core.Path.{◌≡◌, refl, ap}
use mathlib.Core.List.{List, [], ◌∷◌, ◌++◌}
use Prim.Native.Nat.{ℕ}
use lib.ListN.{length}
use Rattle.causes.specs.Causes.{Numbered, accepted, refused, mapped}
use Rattle.trials.specs.Outcome.{TrialOutcome}
use Rattle.trials.specs.Tried.{tried_by}
use Rattle.looks.specs.Look.{Look, previewed}
use Rattle.session.specs.declared.Session.{Session}
use Rattle.session.specs.Call.{Call, look}
use Rattle.session.specs.Outcome.{Outcome, seen}
use Rattle.session.specs.Served.{served, standing_of, counted_by}
use Rattle.claims.specs.Claim.{outcomes_from}
use Rattle.claims.specs.Looks.{as_preview, PreviewIsTrial, without, LookLeftOut}

-- whatever the working out found
shown_alike : (s : Session) (table : ℕ) (a : Numbered TrialOutcome) → seen (mapped previewed a) ≡ as_preview (counted_by s table a).outcome
shown_alike s table (accepted t) = refl
shown_alike s table (refused cause) = refl

pub preview_is_trial : PreviewIsTrial
preview_is_trial =
    record {
      answer = λ s table readings. shown_alike s table (tried_by s.conditions (standing_of s) table readings);
      unmoved = λ s k. refl;
    }

left_out : (s : Session) (before after : List Call) (k : Look) →
    outcomes_from s (before ++ after) ≡ without (length before) (outcomes_from s (before ++ (look k ∷ after)))
left_out s [] after k = refl
left_out s (c ∷ before) after k = ap (λ (os : List Outcome). (served s c).outcome ∷ os) (left_out (served s c).session before after k)

pub look_left_out : LookLeftOut
look_left_out = record { others = left_out }
