-- What a preparation answers: how a program's parts make the answer, and what the answer says of the checks behind it. Assumes nothing.
use mathlib.Core.Path.{◌≡◌, sym, ◌∙◌, ap, subst}
use Rattle.causes.specs.declared.Cause.{Cause}
use Rattle.causes.specs.Checks.{Checked}
use Rattle.std.specs.Prelude.{Result, Ok, Err}
use Rattle.causes.specs.Causes.{cause_number, Numbered, accepted, refusal, answer_of}
use Rattle.causes.specs.Checks.{numbered}
use Rattle.causes.proofs.Checks.{accepts, numbered_refused, numbered_accepted}
use Rattle.cie.specs.Sums.{Tables}
use Rattle.conditions.specs.declared.Conditions.{Conditions}
use Rattle.conditions.specs.Conditions.{conditions_of, prepared_of, Sound, Prepares}
use Rattle.conditions.proofs.Sound.{sound_tables}

-- a preparation that promises an answer promises whatever equals it
pub prepares_as : {a b : Numbered Conditions} {r : Result Conditions Cause} → b ≡ a → Prepares a r → Prepares b r
prepares_as {r = r} e = subst (λ (n : Numbered Conditions). Prepares n r) (sym e)

-- a cause, where the answer is its refusal
pub refused_as : {n : Numbered Conditions} (c : Cause) → n ≡ refusal c → Prepares n (Err c)
refused_as c e = record { answer = sym e; sound = tt }

-- conditions are sound where the checks found nothing
pub accepted_as : (t : Tables) {k : Conditions} → k ≡ conditions_of t → prepared_of t ≡ accepted (conditions_of t) →
    Prepares (prepared_of t) (Ok k)
accepted_as t e a =
    record {
      answer = ap accepted e ∙ sym a;
      sound = subst Sound (sym e) (sound_tables t (numbered_accepted _ _ _ a).0);
    }

-- an accepted answer is an `Ok`
accepted_ok : (r : Result Conditions Cause) {k : Conditions} → answer_of r ≡ accepted k → r ≡ Ok k
accepted_ok (Ok c) h = cc
accepted_ok (Err c) h = cc

-- what an answer says of the checks behind it
module _ (found : Checked) (k : Conditions) {r : Result Conditions Cause} (e : Prepares (numbered found k) r) where
  pub prepared_because : {c : Cause} → r ≡ Err c → (d : Cause) × (found ≡ Err d) × (cause_number d ≡ cause_number c)
  prepared_because h = numbered_refused found k _ (sym e.answer ∙ ap answer_of h)

  pub prepared_clear : {c : Conditions} → r ≡ Ok c → (found ≡ Ok tt) × (c ≡ k)
  prepared_clear h = numbered_accepted found k _ (sym e.answer ∙ ap answer_of h)

  -- where the checks find nothing, the conditions are there
  pub prepared_ok : found ≡ Ok tt → r ≡ Ok k
  prepared_ok h = accepted_ok r (e.answer ∙ accepts found _ _ h)
