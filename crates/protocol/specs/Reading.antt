-- What a line is read as: a call, or a fault. Faults 41, 42 and 43 are tested in this order; 44
-- comes before them, in the transcript.
use Rattle.std.specs.Prelude.{◌≡◌, ℕ, ◌<◌, ◌≤◌, List, ◌++◌, length, Ok, Err, Result}
use Rattle.model.specs.declared.call.Call.{Call}
use Rattle.protocol.specs.declared.form.TheConstants.{LONGEST_LINE}
use Rattle.protocol.specs.Form.{letter, IsCorrect, FirstWrong}
use Rattle.protocol.specs.declared.fault.Fault.{Fault}
use Rattle.protocol.specs.declared.fault.Fault.TheVariants.{TooLong, NoLetter, WrongForm}

-- a call letter stands first
abbrev pub HasLetter : List ℕ → Type 0
HasLetter line = (c : Call) × (rest : List ℕ) × (line ≡ letter c ++ rest)

-- what a line is read as, of any number but the last
pub data Reading (line : List ℕ) : Result Call Fault → Type 0 where
  -- 41: too many bytes
  too_long : LONGEST_LINE < length line → Reading line (Err TooLong)
  -- 42: no call letter first
  no_letter : length line ≤ LONGEST_LINE → ¬ HasLetter line → Reading line (Err NoLetter)
  -- 43: wrong form
  wrong_form : length line ≤ LONGEST_LINE → HasLetter line
      → (place : ℕ) → FirstWrong place line → Reading line (Err (WrongForm place))
  -- a correct line is its call
  correct : length line ≤ LONGEST_LINE → (c : Call) → IsCorrect line c → Reading line (Ok c)
