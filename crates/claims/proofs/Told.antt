-- What the working out of a trial tells of the exact difference, and a preview with it: the verdict's rule is right, and all that the ledger has
-- passed its checks. What a search tells of a book's shades. Assumes nothing.
use mathlib.Core.Path.{◌≡◌}
use mathlib.Core.Bool.{true, false}
use mathlib.Core.List.{List}
use Prim.Native.Nat.{ℕ}
use borrow.Author.Tests.{not-false}
use Rattle.causes.specs.Causes.{Numbered, accepted, refused, mapped}
use Rattle.causes.proofs.Checks.{clear_at, either}
use Rattle.cie.specs.Spacing.{rows_at}
use Rattle.cie.specs.Sums.{Tables, sums_of, white_of}
use Rattle.cie.specs.Colour.{colour_at}
use Rattle.cie.proofs.Verdicts.{verdicts_right}
use Rattle.trials.specs.Outcome.{Amount, TrialOutcome}
use Rattle.book.specs.Book.{is_book}
use Rattle.nearest.specs.Rule.{NearestOutcome}
use Rattle.book_search.specs.Searching.{empty_look}
use Rattle.book_search.proofs.Theorems.{nearest_in_book}
use Rattle.looks.specs.Look.{Look, preview, nearest, previewed, found}
use Rattle.session.specs.Outcome.{VerdictCounts, seen}
use Rattle.session.specs.Ledger.{Held, none, held, Ledger, rows_in_force, worked_out, tried_at, nearest_at, searched_at, looked_at}
use Rattle.session.proofs.Trying.{ledger_of}
use Rattle.claims.specs.Claim.{VerdictAt, NearestAt, LookTold}
use Rattle.claims.proofs.Kept.{Proper, Readable, Kept, white_kept, twice_kept}

-- what the working out of a trial is owed
abbrev pub Owed : Ledger → List ℕ → Numbered TrialOutcome → Type 0
Owed l readings (accepted t) = VerdictAt l readings t.verdict
Owed l readings (refused cause) = Unit

-- past its checks, the verdict's rule gives it
worked_out_lem : (t : Held Tables) (s : Held (List ℕ)) (o : Held Amount) (n : List VerdictCounts) (readings : List ℕ) →
    Proper t → Readable s → Readable (held readings) → Owed (ledger_of t s o n) readings (worked_out t s o readings)
worked_out_lem none s o n readings p r e = tt
worked_out_lem (held t) none o n readings p r e = tt
worked_out_lem (held t) (held s) none n readings p r e = tt
worked_out_lem (held t) (held s) (held a) n readings p r e =
    verdicts_right.right a.space (white_of t) (sums_of t s) (sums_of t readings) a.units
    (white_kept t p) (twice_kept t s r) (twice_kept t readings e)

pub tried_told : (l : Ledger) (table : ℕ) (readings : List ℕ) → Kept l → Owed l readings (tried_at l table readings)
tried_told l table readings k =
    either _ (Owed l readings) _ _ (λ c. tt)
    (λ e. worked_out_lem l.conditions l.standard l.tolerance l.counts readings k.tables k.standard (clear_at _ e 6))

-- a preview tells what a trial would
preview_told : (l : Ledger) (table : ℕ) (readings : List ℕ) (a : Numbered TrialOutcome) → Owed l readings a →
    LookTold l (preview table readings) (seen (mapped previewed a))
preview_told l table readings (accepted t) h = h
preview_told l table readings (refused cause) h = tt

-- a search is owed what the rule promises of the book's shades
abbrev SearchOwed : Held Tables → ℕ → List ℕ → List ℕ → Numbered NearestOutcome → Type 0
SearchOwed t budget swatch book (accepted a) = NearestAt t budget swatch book a
SearchOwed t budget swatch book (refused cause) = Unit

nearest_told : (t : Held Tables) (budget : ℕ) (swatch book : List ℕ) → is_book (rows_in_force t) book ≡ true → empty_look budget book ≡ false →
    SearchOwed t budget swatch book (nearest_at t budget swatch book)
nearest_told none budget swatch book b e = tt
nearest_told (held t) budget swatch book b e = nearest_in_book.told (colour_at t) (rows_at t.spacing) budget swatch book b e

searched_told : (l : Ledger) (budget : ℕ) (swatch book : List ℕ) → SearchOwed l.conditions budget swatch book (searched_at l budget swatch book)
searched_told l budget swatch book =
    either _ (SearchOwed l.conditions budget swatch book) _ _ (λ c. tt)
    (λ e. nearest_told l.conditions budget swatch book (not-false _ (clear_at _ e 3)) (clear_at _ e 4))

search_told : (l : Ledger) (budget : ℕ) (swatch book : List ℕ) (a : Numbered NearestOutcome) →
    SearchOwed l.conditions budget swatch book a →
    LookTold l (nearest budget swatch book) (seen (mapped found a))
search_told l budget swatch book (accepted a) h = h
search_told l budget swatch book (refused cause) h = tt

pub look_told : (l : Ledger) (k : Look) → Kept l → LookTold l k (seen (looked_at l k))
look_told l (preview table readings) k = preview_told l table readings (tried_at l table readings) (tried_told l table readings k)
look_told l (nearest budget swatch book) k = search_told l budget swatch book (searched_at l budget swatch book) (searched_told l budget swatch book)
