-- "Every list of checks runs in the order written, and the first whose condition holds ends the call there with its refusal."
-- Assumes nothing.
use Rattle.std.specs.Prelude.{Bool, cond, List, [], ◌∷◌, Result, Ok, Err}
use Rattle.causes.specs.declared.Cause.{Cause}
use Rattle.causes.specs.Causes.{Numbered, accepted, refusal}

-- a condition, and the cause that it gives
pub record Check : Type 0 where
  pub holds : Bool
  pub cause : Cause

abbrev pub check : Bool → Cause → Check
check b c = record { holds = b; cause = c }

-- what checks in an order find: nothing, or the cause of the first that holds
abbrev pub Checked : Type 0
Checked = Result Unit Cause

-- the cause of the first check whose condition holds
unfoldable pub first_of : List Check → Checked
first_of [] = Ok tt
first_of (c ∷ cs) = cond c.holds (Err c.cause) (first_of cs)

-- the accepted answer, unless there is a cause
unfoldable pub unless : {A : Type 0} → Checked → (Cause → A) → A → A
unless (Ok done) refuse answer = answer
unless (Err c) refuse answer = refuse c

-- the same in the paper's numbers
abbrev pub numbered : {A : Type 0} → Checked → A → Numbered A
numbered found answer = unless found refusal (accepted answer)
