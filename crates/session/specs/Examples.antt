-- Worked examples: inputs with their transcripts and their runs, the last lines that are read, and
-- where a console stands. They can be checked by hand.
use Rattle.std.specs.Prelude.{◌≡◌, ℕ, List, [], ◌∷◌, ◌++◌, codes, Some, Err}
use Rattle.uses.specs.TwoUses.{two_uses}
use Rattle.orders.specs.Orders.{newest}
use Rattle.model.specs.State.{State, new}
use Rattle.model.specs.Calls.{report_of}
use Rattle.model.specs.Runs.{Run, start, next}
use Rattle.model.specs.LawExamples.{two_stations_run}
use Rattle.model.specs.declared.call.Call.TheVariants.{Close, Acknowledge, Sweep}
use Rattle.model.specs.declared.state.Detection.TheVariants.{Continuous, Periodic}
use Rattle.book.specs.declared.answer.Refusal.TheVariants.{NotKnown}
use Rattle.protocol.specs.declared.fault.Fault.TheVariants.{TooManyLines, Refused}
use Rattle.session.specs.Inputs.{Lines, none, more, joined_lines}
use Rattle.session.specs.Transcript.{Turn, Transcript}
use Rattle.session.specs.Lawful.{GoesOn, RunOf}
use Rattle.session.specs.NumberedLine.{Responds}
use Rattle.session.specs.History.{position_of_parts, answered_of, HasRead, HasFinished}
use Rattle.session.specs.Stands.{WritesFront}

-- two stations each claim the other's dock; then a refusal, a wrong form, an empty line, and a last
-- line that lacks its byte 10
abbrev pub input : List ℕ
input = codes "O 1 5\nO 2 5\nC 1 10 1\nC 2 11 1\nC 1 11 1\nC 2 10 1\nE 9\nE 01\n\nA 2"

-- what is printed for it
abbrev pub text : List ℕ
text =
    codes "1 ok\n2 ok\n3 granted\n4 granted\n5 waits\n6 recalled\n6 recall 2 10\n6 wake 1 11\n"
    ++ codes "7 refused 7\n8 fault 43 at 4\n9 fault 42 at 1\n10 ok\n"

-- its first seven lines
abbrev pub first_lines : Lines
first_lines =
    more (more (more (more (more (more (more none
    (codes "O 1 5")) (codes "O 2 5")) (codes "C 1 10 1")) (codes "C 2 11 1"))
    (codes "C 1 11 1")) (codes "C 2 10 1")) (codes "E 9")

-- all its lines
abbrev pub lines : Lines
lines = more (more (more first_lines (codes "E 01")) []) (codes "A 2")

-- the calls of the first seven lines: those of the two stations, and a close that is refused
abbrev pub first_run : Run
first_run = next (two_stations_run Continuous) (Close 9)

-- the calls of all lines: two are none
abbrev pub run : Run
run = next first_run (Acknowledge 2)

-- a new book
abbrev pub new_book : State
new_book = new Continuous

-- the worked examples are right
pub record ExamplesRight : Type 0 where
  pub session : Transcript two_uses newest Continuous input text
  -- nothing behind the last byte 10 is no line
  pub one_line : Transcript two_uses newest Continuous (codes "S\n") (codes "1 ok\n")
  pub no_line : Transcript two_uses newest Continuous [] []
  -- line 999999 is carried out, line 1000000 is a fault, and no later line is answered
  pub last_but_one :
      Turn two_uses newest 999999 new_book (codes "S") (codes "999999 ok\n") new_book
  pub last :
      Turn two_uses newest 1000000 new_book (codes "S") (codes "1000000 fault 44 at 1\n") new_book
  pub past : Turn two_uses newest 1000001 new_book (codes "S") [] new_book
  -- the run of the session: a refused call counts, a line with a fault does not
  pub lines_of_session : joined_lines lines ≡ input ++ 10 ∷ []
  pub run_of_session : RunOf Continuous lines run
  -- no other run is: not one that lacks a call, has one more, or is of the other detection
  pub call_missing : ¬ RunOf Continuous lines (next (two_stations_run Continuous) (Acknowledge 2))
  pub call_too_many : ¬ RunOf Continuous lines (next run Sweep)
  pub other_detection : ¬ RunOf Continuous none (start Periodic)
  -- line 999999 is a call of the run, and no later line is
  pub last_call :
      GoesOn 999999 (codes "S") (start Continuous) (next (start Continuous) Sweep)
  pub no_last_call :
      ¬ GoesOn 1000000 (codes "S") (start Continuous) (next (start Continuous) Sweep)
  pub later_line : GoesOn 1000001 (codes "S") (start Continuous) (start Continuous)
  pub no_later_call :
      ¬ GoesOn 1000001 (codes "S") (start Continuous) (next (start Continuous) Sweep)
  -- a line of a number: a refusal passes up, and from 1000000 on any line is fault 44
  pub refused :
      Responds two_uses newest 1 (codes "C 1 10 9") new_book
      (Err (Refused NotKnown)) (report_of [] []) new_book
  pub too_late :
      Responds two_uses newest 1000001 (codes "S") new_book
      (Err TooManyLines) (report_of [] []) new_book
  -- a console knows the line that has begun
  pub line_begun :
      HasRead two_uses newest Continuous (codes "S\nS") (codes "1 ok\n")
      (position_of_parts new_book 1 (codes "S"))
  pub line_forgotten :
      ¬ HasRead two_uses newest Continuous (codes "S\nS") (codes "1 ok\n")
      (position_of_parts new_book 1 [])
  -- at the end of the input that line is answered too
  pub line_ended :
      HasFinished two_uses newest Continuous (codes "S\nS") (codes "1 ok\n2 ok\n")
      (position_of_parts new_book 2 [])
  -- the front of a text is written, and no other part of it
  pub front_written :
      WritesFront (Some (codes "1 ok\n")) (Some (codes "1 ok\n2 o")) (codes "2 ok\n")
  pub end_written : ¬ WritesFront (Some []) (Some (codes "ok")) (codes "2 ok")
  -- lines are counted up to line 1000000
  pub counted : answered_of 999999 ≡ 999999
  pub counted_to_the_last : answered_of 1000001 ≡ 1000000
