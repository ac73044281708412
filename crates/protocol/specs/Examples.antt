-- Worked examples: lines with what each is read as, outcomes with all that is printed for each, and
-- faults with the number, the place and the layer of each. They can be checked by hand.
use Rattle.std.specs.Prelude.{◌≡◌, ℕ, List, [], ◌∷◌, replicate, codes, Ok, Err, Result}
use Rattle.std.specs.List.{AllByRecursion}
use Rattle.model.specs.declared.call.Call.{Call}
use Rattle.model.specs.declared.call.Call.TheVariants.{Open, Claim, Close, Withdraw, Acknowledge, Sweep}
use Rattle.model.specs.declared.report.ReportEntry.{ReportEntry}
use Rattle.book.specs.declared.answer.Answer.{Answer}
use Rattle.book.specs.declared.answer.Answer.TheVariants as answer
use Rattle.book.specs.declared.answer.Refusal.TheVariants.{NumberTooHigh, SectionTooHigh, NotKnown, WeightTooHigh, IsRecalled, IsOpen, IsFree, IsWaiting, NoRoom, NotRecalled}
use Rattle.protocol.specs.Faults.{fault_number, fault_place, fault_layer}
use Rattle.protocol.specs.Reading.{Reading}
use Rattle.protocol.specs.Words.{printed, reply_to}
use Rattle.protocol.specs.declared.fault.Fault.{Fault}
use Rattle.protocol.specs.declared.fault.Fault.TheVariants.{TooManyLines, TooLong, NoLetter, WrongForm, Refused, Numbered}
use Rattle.protocol.specs.declared.fault.Layer.{Layer}
use Rattle.protocol.specs.declared.fault.Layer.TheVariants.{Line, UseTable, Book}

-- a line, and the call or the fault that it is read as
pub record LineRead : Type 0 where
  pub line : List ℕ
  pub outcome : Result Call Fault

-- the line is read as that
abbrev pub IsRead : LineRead → Type 0
IsRead x = Reading x.line x.outcome

-- a line is read as a call or a fault
abbrev pub read_as : List ℕ → Result Call Fault → LineRead
read_as line outcome = record { line = line; outcome = outcome }

-- a line for each letter
abbrev pub correct_lines : List LineRead
correct_lines =
    read_as (codes "O 63 1000") (Ok (Open 63 1000))
    ∷ read_as (codes "C 1 1023 196871") (Ok (Claim 1 1023 196871))
    ∷ read_as (codes "E 0") (Ok (Close 0))
    ∷ read_as (codes "W 12") (Ok (Withdraw 12))
    ∷ read_as (codes "A 7") (Ok (Acknowledge 7))
    ∷ read_as (codes "S") (Ok Sweep)
    ∷ []

-- lines that are not correct: 33 bytes, 32 bytes of spaces, no byte, no letter, a field too few, one too many,
-- a leading 0, seven digits, two spaces, a space at the end
abbrev pub wrong_lines : List LineRead
wrong_lines =
    read_as (83 ∷ replicate 32 32) (Err TooLong)
    ∷ read_as (83 ∷ replicate 31 32) (Err (WrongForm 2))
    ∷ read_as [] (Err NoLetter)
    ∷ read_as (codes "s") (Err NoLetter)
    ∷ read_as (codes "O 1") (Err (WrongForm 4))
    ∷ read_as (codes "E 1 2") (Err (WrongForm 4))
    ∷ read_as (codes "O 01 5") (Err (WrongForm 4))
    ∷ read_as (codes "W 1234567") (Err (WrongForm 9))
    ∷ read_as (codes "A  1") (Err (WrongForm 3))
    ∷ read_as (codes "S ") (Err (WrongForm 2))
    ∷ []

-- the number of a line, what it gave, the recalled and the woken, and the text printed for it
pub record Printing : Type 0 where
  pub number : ℕ
  pub outcome : Result Answer Fault
  pub recalls : List ReportEntry
  pub wakes : List ReportEntry
  pub text : List ℕ

-- that text is printed
abbrev pub IsPrinted : Printing → Type 0
IsPrinted x = printed x.number (reply_to x.outcome) x.recalls x.wakes ≡ x.text

-- an outcome with nobody recalled or woken
abbrev pub alone : ℕ → Result Answer Fault → List ℕ → Printing
alone number outcome text =
    record { number = number; outcome = outcome; recalls = []; wakes = []; text = text }

-- each answer, each refusal, each fault of a line, two faults of a program's own, and two outcomes
-- with recalled and woken
abbrev pub printings : List Printing
printings =
    alone 1 (Ok answer.Ok) (codes "1 ok\n")
    ∷ alone 2 (Ok answer.Granted) (codes "2 granted\n")
    ∷ alone 30 (Ok answer.Covered) (codes "30 covered\n")
    ∷ alone 4 (Ok answer.Waits) (codes "4 waits\n")
    ∷ alone 5 (Err (Refused NumberTooHigh)) (codes "5 refused 1\n")
    ∷ alone 6 (Err (Refused SectionTooHigh)) (codes "6 refused 2\n")
    ∷ alone 7 (Err (Refused NotKnown)) (codes "7 refused 3\n")
    ∷ alone 8 (Err (Refused WeightTooHigh)) (codes "8 refused 4\n")
    ∷ alone 9 (Err (Refused IsRecalled)) (codes "9 refused 5\n")
    ∷ alone 10 (Err (Refused IsOpen)) (codes "10 refused 6\n")
    ∷ alone 11 (Err (Refused IsFree)) (codes "11 refused 7\n")
    ∷ alone 12 (Err (Refused IsWaiting)) (codes "12 refused 8\n")
    ∷ alone 13 (Err (Refused NoRoom)) (codes "13 refused 9\n")
    ∷ alone 14 (Err (Refused NotRecalled)) (codes "14 refused 10\n")
    ∷ alone 15 (Err TooLong) (codes "15 fault 41 at 33\n")
    ∷ alone 16 (Err NoLetter) (codes "16 fault 42 at 1\n")
    ∷ alone 17 (Err (WrongForm 4)) (codes "17 fault 43 at 4\n")
    ∷ alone 1000000 (Err TooManyLines) (codes "1000000 fault 44 at 1\n")
    ∷ alone 5 (Err (Numbered Line 45 7)) (codes "5 fault 45 at 7\n")
    ∷ alone 5 (Err (Numbered UseTable 15 3)) (codes "5 refused 15\n")
    ∷ record {
      number = 18;
      outcome = Ok answer.Recalled;
      recalls =
          record { dispatch = 4; section = 12 } ∷ record { dispatch = 2; section = 1023 } ∷ [];
      wakes = record { dispatch = 1; section = 0 } ∷ [];
      text = codes "18 recalled\n18 recall 4 12\n18 recall 2 1023\n18 wake 1 0\n";
    }
    ∷ record {
      number = 19;
      outcome = Ok answer.Ok;
      recalls =
          record { dispatch = 63; section = 9 } ∷ record { dispatch = 10; section = 100 } ∷ [];
      wakes = record { dispatch = 42; section = 7 } ∷ record { dispatch = 30; section = 25 } ∷ [];
      text = codes "19 ok\n19 recall 63 9\n19 recall 10 100\n19 wake 42 7\n19 wake 30 25\n";
    } ∷ []

-- a fault, with its number, its place and its layer
pub record FaultRow : Type 0 where
  pub fault : Fault
  pub number : ℕ
  pub place : ℕ
  pub layer : Layer

-- a row of the table of faults
abbrev pub row : Fault → ℕ → ℕ → Layer → FaultRow
row fault number place layer =
    record { fault = fault; number = number; place = place; layer = layer }

-- the fault has the number, the place and the layer
pub record IsFaultRow (x : FaultRow) : Type 0 where
  pub numbered : fault_number x.fault ≡ x.number
  pub placed : fault_place x.fault ≡ x.place
  pub layered : fault_layer x.fault ≡ x.layer

-- every fault of a line, two with their places, every refusal, and a fault of a program's own
abbrev pub faults : List FaultRow
faults =
    row TooManyLines 44 1 Line
    ∷ row TooLong 41 33 Line
    ∷ row NoLetter 42 1 Line
    ∷ row (WrongForm 4) 43 4 Line
    ∷ row (WrongForm 32) 43 32 Line
    ∷ row (Refused NumberTooHigh) 1 1 Book
    ∷ row (Refused SectionTooHigh) 2 2 Book
    ∷ row (Refused NotKnown) 3 3 UseTable
    ∷ row (Refused WeightTooHigh) 4 2 Book
    ∷ row (Refused IsRecalled) 5 1 Book
    ∷ row (Refused IsOpen) 6 1 Book
    ∷ row (Refused IsFree) 7 1 Book
    ∷ row (Refused IsWaiting) 8 1 Book
    ∷ row (Refused NoRoom) 9 2 Book
    ∷ row (Refused NotRecalled) 10 1 Book
    ∷ row (Numbered UseTable 15 3) 15 3 UseTable
    ∷ []

-- the worked examples are right
pub record ExamplesRight : Type 0 where
  pub correct : AllByRecursion IsRead correct_lines
  pub wrong : AllByRecursion IsRead wrong_lines
  pub printing : AllByRecursion IsPrinted printings
  pub fault_rows : AllByRecursion IsFaultRow faults
