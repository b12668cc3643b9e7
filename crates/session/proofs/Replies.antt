-- What an opening and a standard reply, by what preparing and measuring answer, and a trial and a look, by what they are told. Assumes nothing.
use mathlib.Core.Path.{◌≡◌, refl, sym, ◌∙◌, ap, subst}
use mathlib.Core.Bool.{false, not}
use mathlib.Core.List.{List}
use Prim.Native.Nat.{ℕ}
use Rattle.std.specs.Prelude.{Result, Ok, Err, MatchResult, IsOkAnd}
use Rattle.causes.specs.declared.Cause.{Cause}
use Rattle.causes.specs.Causes.{Numbered, answer_of}
use Rattle.causes.specs.Checks.{Checked, unless, numbered}
use Rattle.causes.proofs.Checks.{passes}
use Rattle.cie.specs.declared.Colour.{Colour}
use Rattle.cie.specs.declared.Sums.{Sums}
use Rattle.cie.specs.Scales.{frame_limit}
use Rattle.cie.specs.Colour.{colour_of}
use Rattle.conditions.specs.declared.Conditions.{Conditions}
use Rattle.conditions.specs.Measure.{measured_by}
use Rattle.tallies.specs.declared.TableTallies.{TableTallies}
use Rattle.trials.specs.declared.Standing.{Standing}
use Rattle.trials.specs.Outcome.{TrialOutcome}
use Rattle.trials.specs.declared.TrialAnswer.{TrialAnswer}
use Rattle.trials.specs.Tried.{tried_answer, tried_by, tallies_after, ValidStanding}
use Rattle.looks.specs.Look.{Look, Sight}
use Rattle.looks.specs.Looked.{looked_by}
use Rattle.session.specs.declared.Answer.{Answer}
use Rattle.session.specs.declared.Answer.TheVariants.{Tried}
use Rattle.session.specs.declared.Session.{Session}
use Rattle.session.specs.Call.{set_standard, trial, look}
use Rattle.session.specs.Outcome.{Outcome}
use Rattle.session.specs.Served.{outcome_of, Reply, served, refused_by, opened_by, standard_by, replied, standing_of, with_tallies, found_outcome, seen_by, Valid}

-- an answer behind some checks is replied to as the checks are
replied_numbered : {A : Type 0} (s : Session) (follow : A → Reply) (found : Checked) (a : A) →
    replied s follow (numbered found a) ≡ unless found (refused_by s) (follow a)
unfolding unless
replied_numbered s follow (Ok tt) a = refl
replied_numbered s follow (Err cause) a = refl

-- an opening, by what its preparation answers
pub opening : (s : Session) (found : Checked) (k : Conditions) {n : Numbered Conditions} → n ≡ numbered found k →
    replied s (opened_by s) n ≡ unless found (refused_by s) (opened_by s k)
opening s found k e = ap (replied s (opened_by s)) e ∙ replied_numbered s (opened_by s) found k

-- a standard, by what measuring under the session's conditions answers
module _ (s : Session) (readings : List ℕ) (opened : not s.opened ≡ false) where
  abbrev from_sums : Sums → Reply
  from_sums sums = standard_by s (colour_of s.conditions.white.sums sums)

  -- k are the conditions, as they are lent
  module _ {k : Conditions} (lent : k ≡ s.conditions) (m : Result Sums Cause)
      (e : answer_of m ≡ measured_by frame_limit k.rows k.x k.y k.z readings) where
    measured : served s (set_standard readings) ≡ replied s from_sums (answer_of m)
    unfolding measured_by
    measured =
        let answered : Conditions → Numbered Sums = λ q. measured_by frame_limit q.rows q.x q.y q.z readings in
        passes _ _ _ _ _ opened ∙ sym (ap (replied s from_sums) (e ∙ ap answered lent) ∙ replied_numbered s from_sums _ _)

    pub standard_refused : {cause : Cause} → m ≡ Err cause → served s (set_standard readings) ≡ refused_by s cause
    standard_refused told = measured ∙ ap (λ (x : Result Sums Cause). replied s from_sums (answer_of x)) told

    pub standard_whole : {sums : Sums} {colour : Colour} → m ≡ Ok sums → colour ≡ colour_of k.white.sums sums →
        served s (set_standard readings) ≡ standard_by s colour
    standard_whole {sums} told j =
        measured
        ∙ ap (λ (x : Result Sums Cause). replied s from_sums (answer_of x)) told
        ∙ ap (standard_by s) (sym (j ∙ ap (λ (q : Conditions). colour_of q.white.sums sums) lent))

-- what a trial finds is its call's outcome, by what is made of a trial's answer
pub trial_answered : (P : TrialAnswer → Answer → Type 0) (found : Result TrialAnswer Cause) (r : Result Answer Cause) →
    MatchResult found (λ t. IsOkAnd r (P t)) (λ cause. r ≡ Err cause) → ((t : TrialAnswer) (a : Answer) → P t a → a ≡ Tried t) →
    outcome_of r ≡ found_outcome (tried_answer found)
trial_answered P (Ok t) (Ok a) h k = ap (λ (x : Answer). outcome_of (Ok x)) (k t a h)
trial_answered P (Ok t) (Err cause) h k = absurd h
trial_answered P (Err cause) r h k = ap outcome_of h

-- what stands, as a trial and a look are told it
module _ (s : Session) {q : Standing} (stands : q ≡ standing_of s) where
  pub valid_told : Valid s → ValidStanding s.conditions q
  valid_told v = subst (ValidStanding s.conditions) (sym stands) v.standing

  -- a trial leaves the tallies after what it found, which is its outcome
  pub trial_left : (table : ℕ) (readings : List ℕ) {found : Numbered TrialOutcome} {tallies : TableTallies} {outcome : Outcome} →
      let tried = tried_by s.conditions q table readings in
      found ≡ tried → tallies ≡ tallies_after q.tallies table tried → outcome ≡ found_outcome found →
      record { session = with_tallies s tallies; outcome = outcome } ≡ served s (trial table readings)
  trial_left table readings e t o =
      let told : Standing → Numbered TrialOutcome = λ x. tried_by s.conditions x table readings in
      (λ i. record { session = with_tallies s (t i); outcome = (o ∙ ap found_outcome e) i })
      ∙ ap (λ (x : Standing). record { session = with_tallies s (tallies_after x.tallies table (told x)); outcome = found_outcome (told x) }) stands

  pub look_seen : (k : Look) {a : Numbered Sight} → a ≡ looked_by s.conditions q k → seen_by s a ≡ served s (look k)
  look_seen k e = ap (seen_by s) (e ∙ ap (λ (x : Standing). looked_by s.conditions x k) stands)
