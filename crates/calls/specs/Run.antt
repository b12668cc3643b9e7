-- What running a list of calls answers and leaves in the lent buffer. Assumes nothing.
use Rattle.std.specs.Prelude.{List, [], ◌∷◌, ◌++◌, ℕ, ◌*◌, ltb, length, drop}
use Rattle.causes.specs.declared.Cause.TheVariants.{ShortBuffer}
use Rattle.causes.specs.Causes.{Numbered}
use Rattle.causes.specs.Checks.{Check, check, first_of, unless, numbered}
use Rattle.session.specs.Call.{Call}
use Rattle.session.specs.Ledger.{empty_ledger, outcomes_at}
use Rattle.answers.specs.Answers.{answer_words, answer_records}
use Rattle.calls.specs.Records.{Slices, calls_from, call_count}

-- the list of calls that the slices hold
abbrev pub calls_in : List ℕ → Slices → List Call
calls_in records slices = calls_from (call_count records) records slices 0

-- 15, short buffer: "shorter than what is to be written"
abbrev pub run_checks : List ℕ → ℕ → List Check
run_checks records room = check (ltb room (answer_words * call_count records)) ShortBuffer ∷ []

-- how many calls were answered, or the cause
unfoldable pub ran : List ℕ → ℕ → Numbered ℕ
ran records room = numbered (first_of (run_checks records room)) (call_count records)

-- the answers of the ledger for the list that the slices hold, and the rest of the buffer untouched
unfoldable pub answers_after : List ℕ → Slices → List ℕ → List ℕ
answers_after records slices buffer =
    unless (first_of (run_checks records (length buffer))) (λ _. buffer)
    (answer_records (outcomes_at empty_ledger (calls_in records slices)) ++ drop (answer_words * call_count records) buffer)
