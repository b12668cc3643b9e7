-- A look shows of the session what the ledger shows: a preview since a trial does, a search since readings have the same colour under the prepared
-- conditions as under the tables. Assumes nothing.
use mathlib.Core.Path.{◌≡◌, ap}
use mathlib.Core.List.{List}
use Prim.Native.Nat.{ℕ}
use Rattle.causes.specs.Causes.{accepted, refusal, mapped}
use Rattle.causes.specs.Checks.{first_of, unless}
use Rattle.causes.proofs.Checks.{fires_both}
use Rattle.cie.specs.declared.Colour.{Colour}
use Rattle.cie.specs.Spacing.{rows_at}
use Rattle.cie.specs.Sums.{Tables}
use Rattle.book_search.specs.Shades.{nearest_by}
use Rattle.book_search.specs.Searching.{search_checks, searched_under}
use Rattle.looks.specs.Look.{Look, preview, nearest, previewed, found}
use Rattle.looks.specs.Looked.{looked_by}
use Rattle.session.specs.Ledger.{Held, none, held, is_held, Ledger, rows_in_force, nearest_at, looked_at}
use Rattle.session.specs.Served.{standing_of}
use Rattle.session.specs.Stands.{held_conditions, session_of}
use Rattle.session.proofs.Trying.{colour_same, tried_same}

searching : (t : Held Tables) (budget : ℕ) (swatch book : List ℕ) →
    searched_under (held_conditions t) (is_held t) budget swatch book
    ≡ unless (first_of (search_checks (is_held t) (rows_in_force t) budget swatch book)) refusal (nearest_at t budget swatch book)
unfolding searched_under
searching none budget swatch book = fires_both _ _ _ _ _ _
searching (held t) budget swatch book =
    let checks = first_of (search_checks (is_held (held t)) (rows_at t.spacing) budget swatch book) in
    ap (λ (colour : List ℕ → Colour). unless checks refusal (accepted (nearest_by colour (rows_at t.spacing) budget swatch book)))
    (λ i readings. colour_same t readings i)

pub looking : (l : Ledger) (k : Look) → looked_by (session_of l).conditions (standing_of (session_of l)) k ≡ looked_at l k
looking l (preview table readings) = ap (mapped previewed) (tried_same l table readings)
looking l (nearest budget swatch book) = ap (mapped found) (searching l.conditions budget swatch book)
