-- What a book is, and what its calls promise.
use Rattle.std.specs.Prelude.{◌≡◌, ℕ, [], Ok, Err, OnErr, Result}
use Rattle.uses.specs.Relations.{Relations}
use Rattle.model.specs.State.{State}
use Rattle.model.specs.Recalling.{Order}
use Rattle.model.specs.Calls.{checks, step, report_of, report}
use Rattle.model.specs.Questions.{condition_asked}
use Rattle.model.specs.Runs.{Run, next, at}
use Rattle.model.specs.Law.{Law}
use Rattle.model.specs.declared.call.Call.{Call}
use Rattle.model.specs.declared.report.Report.{Report}
use Rattle.book.specs.Answer.{number, answer_of, IsChecked}
use Rattle.book.specs.Tables.{state}
use Rattle.book.specs.declared.answer.Answer.{Answer}
use Rattle.book.specs.declared.answer.Refusal.{Refusal}
use Rattle.book.specs.declared.answer.Status.{Status}
use Rattle.book.specs.declared.book.Book.{Book}

-- the state that a book keeps
abbrev pub state_of : {T O : Type 0} {t p : _} → Book T O t p → State
state_of b = state b.tables

-- its use table
abbrev pub table_of : {T O : Type 0} {t p : _} → Book T O t p → T
table_of b = b.policy.table

-- its recall order
abbrev pub order_of : {T O : Type 0} {t p : _} → Book T O t p → O
order_of b = b.policy.order

-- the run leads to the book, by the meanings of its table and its order
abbrev pub LeadsTo : {T O : Type 0} {t p : _}
    → (T → Relations) → (O → Order) → Book T O t p → Run → Type 0
LeadsTo uses orders b run = at (uses (table_of b)) (orders (order_of b)) run ≡ state_of b

-- below, `u` is the meaning of the use table, `o` that of the recall order
module _ (u : Relations) (o : Order)
    (before : State) (c : Call) (answer : Result Answer Refusal) (r : Report) (after : State) where
  -- the answer, the whole report and the whole state left are the model's for the call
  pub record CarriedOut : Type 0 where
    pub answered : answer_of answer ≡ (step u o before c).answer
    pub reported : r ≡ report (step u o before c)
    pub left : after ≡ (step u o before c).state
    -- it is refused exactly where a check applies, by the first that does
    pub verdict : IsChecked answer (checks u before c) (λ _. Unit {0})
    -- where it is refused, the state stays as it was, and nobody is recalled or woken
    pub on_refusal : OnErr answer ((after ≡ before) × (r ≡ report_of [] []))

  -- a run that has led to the state before goes on with the call: to the state left, and lawfully
  pub record RunGoesOn (run : Run) : Type 0 where
    pub carried : CarriedOut
    pub leads : at u o (next run c) ≡ after
    pub lawful : Law u o (next run c)

-- below, `uses` and `orders` give the meanings of tables and of orders
module _ {T O : Type 0} {t p : _} (uses : T → Relations) (orders : O → Order)
    (before : Book T O t p) (c : Call)
    (answer : Result Answer Refusal) (r : Report) (after : Book T O t p) where
  -- the meaning of the book's table
  abbrev uses_of : Relations
  uses_of = uses (table_of before)

  -- the meaning of its order
  abbrev orders_of : Order
  orders_of = orders (order_of before)

  -- what every call of a book promises: it is carried out, and the table and the order stay
  pub record CarriesOut : Type 0 where
    pub carried : CarriedOut uses_of orders_of (state_of before) c answer r (state_of after)
    pub policy : after.policy ≡ before.policy

  -- a run goes on with the call
  abbrev GoesOn : Run → Type 0
  GoesOn = RunGoesOn uses_of orders_of (state_of before) c answer r (state_of after)

  -- the law over runs: every run that leads to the book goes on with the call, and one leads to it
  pub record KeepsLaw : Type 0 where
    pub every : (run : Run) → LeadsTo uses orders before run → GoesOn run
    pub some : ∥ ((run : Run) × LeadsTo uses orders before run × GoesOn run) ∥₁

-- the status is the model's; a refusal is by the model's number
abbrev pub IsStatus : Relations → State → ℕ → Result Status Refusal → Type 0
IsStatus u s d (Ok x) = condition_asked u s d ≡ Ok (x.condition, x.waiting_section)
IsStatus u s d (Err e) = condition_asked u s d ≡ Err (number e)
