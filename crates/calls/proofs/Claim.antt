-- Demand 3 for a run: its outcomes are the ledger's, which the claim about every list says are right. Assumes nothing.
use mathlib.Core.Path.{subst}
use mathlib.Core.List.{List, []}
use Prim.Native.Nat.{ℕ, ◌*◌, ◌≤◌}
use lib.ListN.{length}
use Rattle.session.specs.Call.{Call}
use Rattle.session.specs.Outcome.{Outcome}
use Rattle.session.specs.Ledger.{empty_ledger, outcomes_at}
use Rattle.claims.specs.Claim.{Each, Right}
use Rattle.claims.proofs.Lists.{outcomes_same}
use Rattle.claims.proofs.Claim.{every_list}
use Rattle.answers.specs.Answers.{answer_words}
use Rattle.calls.specs.Records.{Slices, call_count}
use Rattle.calls.specs.Run.{calls_in}
use Rattle.calls.specs.Claim.{RunRight}
use Rattle.calls.proofs.Ends.{after_answered}

pub answers_right : (records : List ℕ) (slices : Slices) (buffer : List ℕ) → call_count records * answer_words ≤ length buffer
    → RunRight records slices buffer
answers_right records slices buffer h =
    let cs : List Call = calls_in records slices in
    record {
      outcomes = outcomes_at empty_ledger cs;
      right = subst (λ (os : List Outcome). Each Right [] empty_ledger cs os) (outcomes_same empty_ledger cs) (every_list.each cs);
      answered = after_answered records slices buffer h;
    }
