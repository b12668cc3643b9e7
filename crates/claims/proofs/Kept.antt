-- Every ledger that calls lead to has tables that pass an opening's checks and a standard that is not over-bright: each was entered behind
-- its checks, and the built-in lights pass them. Assumes nothing.
use mathlib.Core.Path.{◌≡◌}
use mathlib.Core.Bool.{false}
use mathlib.Core.List.{List}
use Prim.Native.Nat.{ℕ}
use native.Mathlib.Omega.{arith}
use Rattle.std.specs.Prelude.{Ok}
use Rattle.causes.specs.Causes.{Numbered, accepted, refused}
use Rattle.causes.specs.Checks.{first_of}
use Rattle.causes.proofs.Checks.{clear_head, clear_at, either}
use Rattle.cie.specs.Scales.{any_above, reader_limit, frame_limit}
use Rattle.cie.specs.Sums.{Tables, sums_of, white_of, White, AtMostTwice}
use Rattle.cie.proofs.Scales.{above_wider}
use Rattle.conditions.specs.Checks.{table_checks}
use Rattle.conditions.proofs.Dots.{at_most_twice}
use Rattle.conditions.proofs.Sound.{light_clear, sound_tables}
use Rattle.trials.specs.Outcome.{TrialOutcome}
use Rattle.session.specs.Call.{Call, open_tables, open_light, set_standard, set_tolerance, trial, report, look}
use Rattle.session.specs.Ledger.{Held, none, held, Ledger, empty_ledger, Entry, standard_at, tried_at, counted_at, entered}

abbrev pub Proper : Held Tables → Type 0
Proper none = Unit
Proper (held t) = first_of (table_checks t) ≡ Ok tt

abbrev pub Readable : Held (List ℕ) → Type 0
Readable none = Unit
Readable (held readings) = any_above frame_limit readings ≡ false

pub record Kept (l : Ledger) : Type 0 where
  pub tables : Proper l.conditions
  pub standard : Readable l.standard

pub kept_empty : Kept empty_ledger
kept_empty = record { tables = tt; standard = tt }

with_standard : (l : Ledger) (t : Held Tables) (readings : List ℕ) → Kept l → Readable (held readings) → Kept (standard_at l t readings).ledger
with_standard l none readings k e = k
with_standard l (held t) readings k e = record { tables = k.tables; standard = e }

with_counted : (l : Ledger) (table : ℕ) (a : Numbered TrialOutcome) → Kept l → Kept (counted_at l table a).ledger
with_counted l table (accepted t) k = record { tables = k.tables; standard = k.standard }
with_counted l table (refused cause) k = k

abbrev KeptAfter : Entry → Type 0
KeptAfter q = Kept q.ledger

-- each call keeps it
pub kept_next : (l : Ledger) (c : Call) → Kept l → Kept (entered l c).ledger
kept_next l (open_tables t) k = either _ KeptAfter _ _ (λ c. k) (λ e. record { tables = e; standard = tt })
kept_next l (open_light light spacing) k =
    either _ KeptAfter _ _ (λ c. k) (λ e. record { tables = light_clear light spacing (clear_head _ _ _ e); standard = tt })
kept_next l (set_standard readings) k =
    either _ KeptAfter _ _ (λ c. k) (λ e. with_standard l l.conditions readings k (clear_at _ e 2))
kept_next l (set_tolerance space amount) k = either _ KeptAfter _ _ (λ c. k) (λ e. record { tables = k.tables; standard = k.standard })
kept_next l (trial table readings) k = with_counted l table (tried_at l table readings) k
kept_next l report k = k
kept_next l (look i) k = record { tables = k.tables; standard = k.standard }

-- what the checks leave: an accepted white, and sums that do not exceed twice its own
pub white_kept : (t : Tables) → Proper (held t) → White (white_of t)
white_kept t e = (sound_tables t e).white

pub twice_kept : (t : Tables) (readings : List ℕ) → Readable (held readings) → AtMostTwice (white_of t) (sums_of t readings)
twice_kept t readings e = at_most_twice t readings (above_wider frame_limit reader_limit readings (omega arith) e)
