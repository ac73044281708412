-- What is printed for an input. `u` is the meaning of the use table, `o` that of the recall order.
use Rattle.std.specs.Prelude.{ℕ, suc, ◌<◌, ◌≤◌, List, [], ◌++◌, Ok, Err, Result}
use Rattle.uses.specs.Relations.{Relations}
use Rattle.model.specs.State.{State, new}
use Rattle.model.specs.Recalling.{Order}
use Rattle.model.specs.Calls.{step}
use Rattle.model.specs.declared.call.Call.{Call}
use Rattle.model.specs.declared.report.ReportEntry.{ReportEntry}
use Rattle.model.specs.declared.state.Detection.{Detection}
use Rattle.protocol.specs.Faults.{fault_number, fault_place}
use Rattle.protocol.specs.Reading.{Reading}
use Rattle.protocol.specs.Words.{Reply, answer, fault, printed}
use Rattle.protocol.specs.declared.fault.Fault.{Fault}
use Rattle.protocol.specs.declared.fault.Fault.TheVariants.{TooManyLines}
use Rattle.session.specs.Inputs.{Lines, none, more, count, Cut, with_rest}
use Rattle.session.specs.declared.limits.TheConstants.{LAST_LINE}

-- what the line of a number is read as: a call, or a fault
pub data ReadAs (number : ℕ) (line : List ℕ) : Result Call Fault → Type 0 where
  -- 44: the line is the last that is read, or would come after it, whatever is in it
  too_many : LAST_LINE ≤ number → ReadAs number line (Err TooManyLines)
  -- before it a line is read as its bytes say
  in_time : number < LAST_LINE → {r : Result Call Fault} → Reading line r → ReadAs number line r

-- the reply to a line fault
abbrev pub reply_fault : Fault → Reply
reply_fault f = fault (fault_number f) (fault_place f)

module _ (u : Relations) (o : Order) where
  -- what the line of a number gives in a state: the reply, the recalled, the woken, the state left
  pub data Gives (number : ℕ) (s : State) (line : List ℕ)
      : Reply → List ReportEntry → List ReportEntry → State → Type 0 where
    -- a line with a fault leaves the state alone
    faulty : (f : Fault) → ReadAs number line (Err f) → Gives number s line (reply_fault f) [] [] s
    -- a correct line is carried out as the model says
    carried : (c : Call) → ReadAs number line (Ok c)
        → Gives number s line
        (answer (step u o s c).answer)
        (step u o s c).recalls (step u o s c).wakes (step u o s c).state

  -- what is printed for the line of a number in a state, and the state left; after the last line
  -- reading has stopped
  pub data Turn (number : ℕ) (s : State) (line : List ℕ) : List ℕ → State → Type 0 where
    is_read : number ≤ LAST_LINE
        → {reply : Reply} {recalls wakes : List ReportEntry} {t : State}
        → Gives number s line reply recalls wakes t
        → Turn number s line (printed number reply recalls wakes) t
    is_past : LAST_LINE < number → Turn number s line [] s

  module _ (detection : Detection) where
    -- what lines print in all, from a new book on, and the state left
    pub data AnswersLines : Lines → List ℕ → State → Type 0 where
      nothing : AnswersLines none [] (new detection)
      then_line : {ls : Lines} {before now : List ℕ} {s t : State} {line : List ℕ}
          → AnswersLines ls before s → Turn (suc (count ls)) s line now t
          → AnswersLines (more ls line) (before ++ now) t

    -- the text is the transcript of the input
    pub record Transcript (input text : List ℕ) : Type 0 where
      pub ended : Lines
      pub rest : List ℕ
      pub left : State
      pub cut : Cut input ended rest
      pub answered : AnswersLines (with_rest ended rest) text left
