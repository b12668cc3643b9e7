-- Document 01, "Causes", and the errors of document 02: the number of each cause. Assumes nothing.
use Rattle.std.specs.Prelude.{ℕ, Result, Ok, Err}
use Rattle.causes.specs.declared.Cause.{Cause}
use Rattle.causes.specs.declared.Cause.TheVariants.{ShortTable, OverBright, OffScaleCondition, DarkWhite, LopsidedWhite, NoConditions, NoStandard, NoTolerance, ToleranceOffScale, SessionFull, NotABook, NoSuchShade, TooManyShades, OutOfOrder, ShortBuffer, NoSuchLight, UnknownSpacing, NoSuchTable, SpotCount, EmptyLook}

abbrev pub cause_number : Cause → ℕ
cause_number ShortTable = 1
cause_number OverBright = 2
cause_number OffScaleCondition = 3
cause_number DarkWhite = 4
cause_number LopsidedWhite = 5
cause_number NoConditions = 6
cause_number NoStandard = 7
cause_number NoTolerance = 8
cause_number ToleranceOffScale = 9
cause_number SessionFull = 10
cause_number NotABook = 11
cause_number NoSuchShade = 12
cause_number TooManyShades = 13
cause_number OutOfOrder = 14
cause_number ShortBuffer = 15
cause_number NoSuchLight = 16
cause_number UnknownSpacing = 17
cause_number NoSuchTable = 18
cause_number SpotCount = 19
cause_number EmptyLook = 20

-- an answer in the paper's numbers and values: what is accepted, or the number of a cause
pub data Numbered (A : Type 0) : Type 0 where
  accepted : A → Numbered A
  refused : ℕ → Numbered A

-- a refusal by its cause
abbrev pub refusal : {A : Type 0} → Cause → Numbered A
refusal cause = refused (cause_number cause)

-- what a call answers, in the paper's numbers
abbrev pub answer_of : {A : Type 0} → Result A Cause → Numbered A
answer_of (Ok value) = accepted value
answer_of (Err cause) = refusal cause

-- the same answer, with another form of what is accepted
abbrev pub mapped : {A B : Type 0} → (A → B) → Numbered A → Numbered B
mapped f (accepted a) = accepted (f a)
mapped f (refused cause) = refused cause
