-- The program's tallies: three for each table. The ledger has none of it. Assumes nothing.
use Rattle.std.specs.Prelude.{◌≡◌, List, ℕ, ◌+◌, ◌≤◌, length, replicate}
use Rattle.cie.specs.declared.Verdict.{Verdict}
use Rattle.cie.specs.declared.Verdict.TheVariants.{Pass, Fail, OnTheLine}
use Rattle.tallies.specs.declared.Tallies.{Tallies}
use Rattle.tallies.specs.ByTable.{table_count, table_limit, at_table, changed_at}

abbrev pub no_tallies : Tallies
no_tallies = record { passed = 0; failed = 0; line = 0 }

abbrev pub tally_sum : Tallies → ℕ
tally_sum t = t.passed + t.failed + t.line

-- "Its tally rises by 1."
abbrev pub tallied_by : Verdict → Tallies → Tallies
tallied_by Pass t = record { passed = t.passed + 1; failed = t.failed; line = t.line }
tallied_by Fail t = record { passed = t.passed; failed = t.failed + 1; line = t.line }
tallied_by OnTheLine t = record { passed = t.passed; failed = t.failed; line = t.line + 1 }

-- "The session .. keeps three tallies for each"
abbrev pub no_sets : List Tallies
no_sets = replicate table_count no_tallies

abbrev pub set_of : List Tallies → ℕ → Tallies
set_of sets table = at_table no_tallies sets table

abbrev pub tallied_for : List Tallies → ℕ → Verdict → List Tallies
tallied_for sets table verdict = changed_at (tallied_by verdict) sets table

-- what holds of tallies of 0, and after each trial
pub record Within (sets : List Tallies) : Type 0 where
  pub eight : length sets ≡ table_count
  pub limit : (table : ℕ) → tally_sum (set_of sets table) ≤ table_limit
