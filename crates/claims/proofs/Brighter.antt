-- Brighter is never darker, of the colours that a session answers: each is the colour of its spectrum under the ledger's tables, which passed an
-- opening's checks. Assumes nothing.
use mathlib.Core.Path.{◌≡◌, refl, sym, ◌∙◌, ap, subst}
use mathlib.Core.List.{List, [], ◌∷◌}
use Prim.Native.Nat.{ℕ}
use Rattle.causes.specs.Causes.{Numbered, accepted, refused, mapped}
use Rattle.causes.proofs.Checks.{passes, accepts, either}
use Rattle.cie.specs.declared.Colour.{Colour}
use Rattle.cie.specs.Sums.{Tables}
use Rattle.cie.specs.Colour.{colour_at}
use Rattle.cie.specs.Brighter.{NoBrighter}
use Rattle.cie.proofs.Whites.{white_y}
use Rattle.cie.proofs.Ordered.{colours_rise}
use Rattle.trials.specs.Outcome.{Amount, TrialOutcome}
use Rattle.looks.specs.Look.{previewed}
use Rattle.session.specs.Call.{Call, open_tables, set_standard}
use Rattle.session.specs.Outcome.{Outcome, coloured, tried, seen}
use Rattle.session.specs.Ledger.{Held, none, held, Ledger, empty_ledger, Entry, standard_at, worked_out, tried_at, counted_at, entered, ledger_after}
use Rattle.session.specs.Served.{Reply, served}
use Rattle.session.specs.Stands.{session_of}
use Rattle.session.proofs.Trying.{colour_same}
use Rattle.session.proofs.Simulation.{simulated}
use Rattle.claims.specs.Claim.{session_after}
use Rattle.claims.specs.Brighter.{ColourAnswered, by_standard, by_trial, by_preview, AcceptedSpectrum, BrighterNeverDarker}
use Rattle.claims.proofs.Kept.{Proper, Kept, kept_empty, kept_next, white_kept}

-- ── after a list of calls ──

session_after_lem : (l : Ledger) (cs : List Call) → session_after (session_of l) cs ≡ session_of (ledger_after l cs)
session_after_lem l [] = refl
session_after_lem l (c ∷ cs) = ap (λ (r : Reply). session_after r.session cs) (simulated l c) ∙ session_after_lem (entered l c).ledger cs

kept_after : (l : Ledger) (cs : List Call) → Kept l → Kept (ledger_after l cs)
kept_after l [] k = k
kept_after l (c ∷ cs) k = kept_after (entered l c).ledger cs (kept_next l c k)

-- ── the colour that the ledger answers ──

held_same : {A : Type 0} {x y : A} → held x ≡ held y → x ≡ y
held_same e = cc

-- what a trial finds has this colour, or is a refusal
abbrev Shows : Colour → Numbered TrialOutcome → Type 0
Shows colour (accepted t) = t.colour ≡ colour
Shows colour (refused cause) = Unit

trial_shows : {colour : Colour} (l : Ledger) (table : ℕ) (a : Numbered TrialOutcome) {t : TrialOutcome} →
    Shows colour a → tried t ≡ (counted_at l table a).outcome → t.colour ≡ colour
trial_shows l table (accepted u) {t} h e = let z : t ≡ u = cc in ap (λ (x : TrialOutcome). x.colour) z ∙ h
trial_shows l table (refused cause) h e = cc

preview_shows : {colour : Colour} (a : Numbered TrialOutcome) {t : TrialOutcome} →
    Shows colour a → seen (accepted (previewed t)) ≡ seen (mapped previewed a) → t.colour ≡ colour
preview_shows (accepted u) {t} h e = let z : t ≡ u = cc in ap (λ (x : TrialOutcome). x.colour) z ∙ h
preview_shows (refused cause) h e = cc

module _ (t : Tables) (l : Ledger) (in_force : l.conditions ≡ held t) (readings : List ℕ) where
  worked_out_lem : (h : Held Tables) (s : Held (List ℕ)) (o : Held Amount) → h ≡ held t → Shows (colour_at t readings) (worked_out h s o readings)
  worked_out_lem none s o e = tt
  worked_out_lem (held u) none o e = tt
  worked_out_lem (held u) (held s) none e = tt
  worked_out_lem (held u) (held s) (held a) e = ap (λ (x : Tables). colour_at x readings) (held_same e)

  tried_shows : (table : ℕ) → Shows (colour_at t readings) (tried_at l table readings)
  tried_shows table = either _ (Shows (colour_at t readings)) _ _ (λ c. tt) (λ e. worked_out_lem l.conditions l.standard l.tolerance in_force)

  entering : {p : Colour} (h : Held Tables) → h ≡ held t → coloured p ≡ (standard_at l h readings).outcome → p ≡ colour_at t readings
  entering none e k = cc
  entering {p} (held u) e k = let z : p ≡ colour_at u readings = cc in z ∙ ap (λ (x : Tables). colour_at x readings) (held_same e)

  coloured_right : {p : Colour} {c : Call} {o : Outcome} → ColourAnswered readings p c o → o ≡ (entered l c).outcome → p ≡ colour_at t readings
  coloured_right {p} by_standard =
      either _ (λ (q : Entry). coloured p ≡ q.outcome → p ≡ colour_at t readings) _ _ (λ c e. cc) (λ e. entering l.conditions in_force)
  coloured_right (by_trial {table}) = trial_shows l table (tried_at l table readings) (tried_shows table)
  coloured_right (by_preview {table}) = preview_shows (tried_at l table readings) (tried_shows table)

-- ── the claim ──

module _ {t : Tables} {readings : List ℕ} {p : Colour} (a : AcceptedSpectrum t readings p) where
  abbrev last : Ledger
  last = ledger_after empty_ledger a.before

  accepted_colour : p ≡ colour_at t readings
  accepted_colour =
      coloured_right t last a.in_force readings a.answered
      (ap (λ s. (served s a.call).outcome) (session_after_lem empty_ledger a.before) ∙ ap (λ (r : Reply). r.outcome) (simulated last a.call))

  accepted_tables : Proper (held t)
  accepted_tables = subst Proper a.in_force (kept_after empty_ledger a.before kept_empty).tables

pub brighter_never_darker : BrighterNeverDarker
brighter_never_darker =
    record {
      told = λ t {first} {second} {p} {q} a b h.
          subst (λ (x : Colour). NoBrighter x q) (sym (accepted_colour a))
          (subst (NoBrighter (colour_at t first)) (sym (accepted_colour b)) (colours_rise t first second (white_y (white_kept t (accepted_tables a))) h));
      of_every = λ t readings e k.
          record {
            before = open_tables t ∷ [];
            in_force = ap (λ (q : Entry). q.ledger.conditions) (accepts _ _ _ e);
            call = set_standard readings;
            answered =
                subst (ColourAnswered readings (colour_at t readings) (set_standard readings))
                (sym
                (ap (λ (q : Reply). (served q.session (set_standard readings)).outcome) (accepts _ _ _ e)
                ∙ ap (λ (q : Reply). q.outcome) (passes _ _ _ _ _ refl ∙ accepts _ _ _ k)
                ∙ ap coloured (colour_same t readings)))
                by_standard;
          };
    }
