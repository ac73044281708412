-- The run of an input: the calls that its lines are read as. `u` is the meaning of the use table,
-- `o` that of the recall order.
use Rattle.std.specs.Prelude.{◌≡◌, ℕ, suc, List, Ok, Err}
use Rattle.uses.specs.Relations.{Relations}
use Rattle.model.specs.State.{State}
use Rattle.model.specs.Recalling.{Order}
use Rattle.model.specs.Runs.{Run, start, next, at}
use Rattle.model.specs.Law.{Law}
use Rattle.model.specs.declared.call.Call.{Call}
use Rattle.model.specs.declared.state.Detection.{Detection}
use Rattle.protocol.specs.declared.fault.Fault.{Fault}
use Rattle.session.specs.Inputs.{Lines, none, more, count, with_rest}
use Rattle.session.specs.Transcript.{ReadAs, Transcript}

-- how a run goes on with the line of a number: by the line's call, or not at all if it is none
pub data GoesOn (number : ℕ) (line : List ℕ) (r : Run) : Run → Type 0 where
  by_call : (c : Call) → ReadAs number line (Ok c) → GoesOn number line r (next r c)
  by_none : (f : Fault) → ReadAs number line (Err f) → GoesOn number line r r

-- the run's calls are those that the lines are read as
pub data RunOf (detection : Detection) : Lines → Run → Type 0 where
  nothing : RunOf detection none (start detection)
  then_line : {ls : Lines} {r longer : Run} {line : List ℕ}
      → RunOf detection ls r → GoesOn (suc (count ls)) line r longer
      → RunOf detection (more ls line) longer

module _ (u : Relations) (o : Order) (detection : Detection) where
  -- the calls of the lines are a run that leads to the state, and keeps exclusion, progress and
  -- recall
  pub record LawfulRun (lines : Lines) (left : State) : Type 0 where
    pub run : Run
    pub of_lines : RunOf detection lines run
    pub leads : at u o run ≡ left
    pub lawful : Law u o run

  -- the text is the transcript of the input, whose calls are a run that keeps the law
  pub record LawfulTranscript (input text : List ℕ) : Type 0 where
    pub transcript : Transcript u o detection input text
    pub runs : LawfulRun (with_rest transcript.ended transcript.rest) transcript.left
