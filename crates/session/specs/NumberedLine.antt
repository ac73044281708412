-- What answering the line of a number promises. `u` is the meaning of the use table, `o` that of
-- the recall order.
use Rattle.std.specs.Prelude.{◌≡◌, ℕ, List, [], Ok, Err, Result}
use Rattle.uses.specs.Relations.{Relations}
use Rattle.model.specs.State.{State}
use Rattle.model.specs.Recalling.{Order}
use Rattle.model.specs.Calls.{report_of}
use Rattle.model.specs.Runs.{Run, at}
use Rattle.model.specs.Law.{Law}
use Rattle.model.specs.declared.call.Call.{Call}
use Rattle.model.specs.declared.report.Report.{Report}
use Rattle.book.specs.Book.{state_of, table_of, order_of, LeadsTo, CarriedOut}
use Rattle.book.specs.declared.answer.Answer.{Answer}
use Rattle.book.specs.declared.answer.Refusal.{Refusal}
use Rattle.book.specs.declared.book.Book.{Book}
use Rattle.protocol.specs.declared.fault.Fault.{Fault}
use Rattle.protocol.specs.declared.fault.Fault.TheVariants.{Refused}
use Rattle.session.specs.Transcript.{ReadAs}
use Rattle.session.specs.Lawful.{GoesOn}

-- a book's answer or refusal, as it passes up
abbrev pub passed_up : Result Answer Refusal → Result Answer Fault
passed_up (Ok answer) = Ok answer
passed_up (Err refusal) = Err (Refused refusal)

module _ (u : Relations) (o : Order) (number : ℕ) (line : List ℕ) where
  -- the outcome, the whole report and the whole state left are those of the line
  pub data Responds (before : State) : Result Answer Fault → Report → State → Type 0 where
    -- a line with a fault: the report names nobody, and the state stays
    by_fault : (f : Fault) → ReadAs number line (Err f)
        → Responds before (Err f) (report_of [] []) before
    -- a correct line: its call is carried out
    by_call : (c : Call) → ReadAs number line (Ok c)
        → {answer : Result Answer Refusal} {r : Report} {after : State}
        → CarriedOut u o before c answer r after → Responds before (passed_up answer) r after

  -- a run goes on with the line: to the state left, and lawfully
  pub record RunGoesOnByLine (after : State) (run : Run) : Type 0 where
    pub longer : Run
    pub goes_on : GoesOn number line run longer
    pub leads : at u o longer ≡ after
    pub lawful : Law u o longer

-- below, `uses` and `orders` give the meanings of tables and of orders
module _ {T O : Type 0} {tm om : _} (uses : T → Relations) (orders : O → Order)
    (before : Book T O tm om) (number : ℕ) (line : List ℕ) where
  -- the meaning of the book's table
  abbrev uses_of : Relations
  uses_of = uses (table_of before)

  -- the meaning of its order
  abbrev orders_of : Order
  orders_of = orders (order_of before)

  -- the line is responded to, and the table and the order stay
  pub record CarriesOutLine (outcome : Result Answer Fault) (r : Report)
      (after : Book T O tm om) : Type 0 where
    pub responds :
        Responds uses_of orders_of number line (state_of before) outcome r (state_of after)
    pub policy : after.policy ≡ before.policy

  -- the law over runs: every run that leads to the book goes on with the line, and one leads to it
  pub record LineKeepsLaw (after : Book T O tm om) : Type 0 where
    pub every :
        (run : Run) → LeadsTo uses orders before run
        → RunGoesOnByLine uses_of orders_of number line (state_of after) run
    pub some :
        ∥ ((run : Run) × LeadsTo uses orders before run
        × RunGoesOnByLine uses_of orders_of number line (state_of after) run) ∥₁
