-- The two ends of a run: by its one check, a short buffer is refused and left as it was, and any other has the answers at its front.
-- Assumes nothing.
use mathlib.Core.Path.{◌≡◌, ◌∙◌}
use mathlib.Core.Bool.{true, false}
use mathlib.Core.List.{List, ◌++◌}
use Prim.Native.Nat.{ℕ, ◌*◌, ◌≤◌, ◌<◌}
use native.Mathlib.Omega.{arith}
use borrow.Author.Tests.{lt-ltb, le-ltb}
use lib.Dec.{ltb}
use lib.ListN.{length, drop}
use Rattle.causes.specs.declared.Cause.TheVariants.{ShortBuffer}
use Rattle.causes.specs.Causes.{cause_number, accepted, refused}
use Rattle.causes.proofs.Checks.{fires, passes, ends}
use Rattle.session.specs.Ledger.{empty_ledger, outcomes_at}
use Rattle.answers.specs.Answers.{answer_words, answer_records}
use Rattle.calls.specs.Records.{Slices, call_count}
use Rattle.calls.specs.Run.{calls_in, ran, answers_after}

module _ (records : List ℕ) (room : ℕ) where
  short : room < call_count records * answer_words → ltb room (answer_words * call_count records) ≡ true
  short h = lt-ltb room (answer_words * call_count records) (omega arith)

  wide : call_count records * answer_words ≤ room → ltb room (answer_words * call_count records) ≡ false
  wide h = le-ltb room (answer_words * call_count records) (omega arith)

  pub ran_short : room < call_count records * answer_words → ran records room ≡ refused (cause_number ShortBuffer)
  unfolding ran
  ran_short h = fires _ _ _ _ _ (short h)

  pub ran_answered : call_count records * answer_words ≤ room → ran records room ≡ accepted (call_count records)
  unfolding ran
  ran_answered h = passes _ _ _ _ _ (wide h) ∙ ends _ _

module _ (records : List ℕ) (slices : Slices) (buffer : List ℕ) where
  pub after_short : length buffer < call_count records * answer_words → answers_after records slices buffer ≡ buffer
  unfolding answers_after
  after_short h = fires _ _ _ _ _ (short records (length buffer) h)

  pub after_answered : call_count records * answer_words ≤ length buffer
      → answers_after records slices buffer
      ≡ answer_records (outcomes_at empty_ledger (calls_in records slices)) ++ drop (answer_words * call_count records) buffer
  unfolding answers_after
  after_answered h = passes _ _ _ _ _ (wide records (length buffer) h) ∙ ends _ _
