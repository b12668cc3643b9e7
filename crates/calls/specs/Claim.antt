-- Demand 3 for a run: what it leaves in a buffer with room are the answers of outcomes that are right at each call of the list that the slices
-- hold, and the rest untouched. Assumes nothing.
use Rattle.std.specs.Prelude.{◌≡◌, List, [], ◌++◌, ℕ, ◌*◌, drop}
use Rattle.session.specs.Outcome.{Outcome}
use Rattle.session.specs.Ledger.{empty_ledger}
use Rattle.claims.specs.Claim.{Each, Right}
use Rattle.answers.specs.Answers.{answer_words, answer_records}
use Rattle.calls.specs.Records.{Slices, call_count}
use Rattle.calls.specs.Run.{calls_in, answers_after}

pub record RunRight (records : List ℕ) (slices : Slices) (buffer : List ℕ) : Type 0 where
  pub outcomes : List Outcome
  pub right : Each Right [] empty_ledger (calls_in records slices) outcomes
  pub answered : answers_after records slices buffer ≡ answer_records outcomes ++ drop (answer_words * call_count records) buffer
