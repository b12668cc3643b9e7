-- The session that a call leaves, and the session after trials, turn by turn. Assumes nothing.
use mathlib.Core.Path.{◌≡◌, refl, ap, ◌∙◌}
use mathlib.Core.List.{List}
use Prim.Native.Nat.{ℕ, zero, suc, ◌-◌, ◌<◌}
use native.Mathlib.Omega.{arith}
use Rattle.cie.specs.declared.Space.TheVariants.{Cielab}
use Rattle.cie.specs.Spacing.{fine_spacing}
use Rattle.session.specs.declared.Session.{Session}
use Rattle.session.specs.declared.Served.{Served}
use Rattle.session.specs.Call.{Call, open_light, set_standard, set_tolerance, trial, report}
use Rattle.session.specs.Outcome.{Outcome}
use Rattle.session.specs.Served.{Reply, served, fresh_session}
use Rattle.session.specs.Meets.{Meets}
use Rattle.probe.specs.Probe.{after, session_for, only_table, after_trials, passed_in, pass_count}

pub left : {s : Session} {c : Call} {r : Served} → Meets s c r → r.session ≡ after s c
unfolding after
left m = ap (λ (x : Reply). x.session) m.reply

-- three calls, one after the other
pub ready : (light : ℕ) (standard : List ℕ) (amount : ℕ) {s s₁ s₂ s₃ : Session} → s ≡ fresh_session → s₁ ≡ after s (open_light light fine_spacing)
    → s₂ ≡ after s₁ (set_standard standard) → s₃ ≡ after s₂ (set_tolerance Cielab amount) → s₃ ≡ session_for light standard amount
unfolding session_for
ready light standard amount e e₁ e₂ e₃ =
    e₃ ∙ ap (λ (s : Session). after s (set_tolerance Cielab amount))
    (e₂ ∙ ap (λ (s : Session). after s (set_standard standard)) (e₁ ∙ ap (λ (s : Session). after s (open_light light fine_spacing)) e))

-- one trial, and then the others
pub turn : (s : Session) (readings : List ℕ) (n : ℕ) {t : Session} → 0 < n → t ≡ after s (trial only_table readings)
    → after_trials t readings (n - 1) ≡ after_trials s readings n
unfolding after_trials
turn s readings zero h e = let z : ◌≡◌ {A = ℕ} 0 1 = omega arith in cc
turn s readings (suc n) {t} h e =
    let k : suc n - 1 ≡ n = omega arith in
    ap (after_trials t readings) k ∙ ap (λ (x : Session). after_trials x readings n) e

pub none : (s : Session) (readings : List ℕ) (n : ℕ) → n ≡ 0 → after_trials s readings n ≡ s
unfolding after_trials
none s readings n e = rw e refl

-- the report after the trials
pub counted : (light : ℕ) (standard readings : List ℕ) (amount count : ℕ) {s t : Session} {o : Outcome} → s ≡ session_for light standard amount
    → t ≡ after_trials s readings count → o ≡ (served t report).outcome → passed_in o ≡ pass_count light standard readings amount count
unfolding pass_count
counted light standard readings amount count e e₁ e₂ =
    ap passed_in (e₂ ∙ ap (λ (x : Session). (served x report).outcome) (e₁ ∙ ap (λ (x : Session). after_trials x readings count) e))
