-- What a ticket's calls answer, and what handing it in does, by how its dispatch stands.
use Rattle.std.specs.Prelude.{◌≡◌, ℕ, List, codes, Ok, Err, Result}
use Rattle.std.specs.Result.{result_and}
use Rattle.uses.specs.Relations.{Relations}
use Rattle.model.specs.Recalling.{Order}
use Rattle.model.specs.Questions.{condition}
use Rattle.model.specs.declared.call.Call.{Call}
use Rattle.model.specs.declared.call.Call.TheVariants.{Close, Withdraw, Acknowledge}
use Rattle.model.specs.declared.report.Report.{Report}
use Rattle.model.specs.declared.state.Condition.{Condition}
use Rattle.model.specs.declared.state.Condition.TheVariants.{Free, Running, Waiting, Recalled}
use Rattle.book.specs.Book.{CarriesOut, KeepsLaw, state_of, table_of}
use Rattle.book.specs.declared.answer.Answer.{Answer}
use Rattle.book.specs.declared.answer.Answer.TheVariants as answer
use Rattle.book.specs.declared.answer.Refusal.{Refusal}
use Rattle.book.specs.declared.answer.Refusal.TheVariants.{IsFree}
use Rattle.book.specs.declared.book.Book.{Book}
use Rattle.tickets.specs.declared.ticket.Ticket.{Ticket}
use Rattle.tickets.specs.declared.ticket.Ending.{Ending}
use Rattle.tickets.specs.declared.ticket.Ending.TheVariants.{Closed, Withdrawn, Acknowledged}

-- the number of the dispatch that a ticket names
abbrev pub dispatch_of : Ticket → ℕ
dispatch_of ticket = ticket.dispatch

-- the ticket, if one is given, names the dispatch
abbrev pub Names : Result Ticket Refusal → ℕ → Type 0
Names (Ok ticket) d = dispatch_of ticket ≡ d
Names (Err refusal) d = Unit {0}

-- the book's answer: ok where a ticket or an ending is given, and a refusal as it is
abbrev pub book_answer : {X : Type 0} → Result X Refusal → Result Answer Refusal
book_answer (Ok x) = Ok answer.Ok
book_answer (Err refusal) = Err refusal

-- how a dispatch stands in a book, by the meaning of its table
abbrev pub condition_in : {T O : Type 0} {t p : _} → (T → Relations) → Book T O t p → ℕ → Condition
condition_in uses b d = condition (uses (table_of b)) (state_of b) d

-- the call that a hand-in counts as
abbrev pub hand_in_call : Condition → ℕ → Call
hand_in_call Running d = Close d
hand_in_call Waiting d = Withdraw d
hand_in_call Recalled d = Acknowledge d
hand_in_call Free d = Close d

-- what a hand-in answers: which ending it was, or that the number is free
abbrev pub hand_in_answer : Condition → Result Ending Refusal
hand_in_answer Running = Ok Closed
hand_in_answer Waiting = Ok Withdrawn
hand_in_answer Recalled = Ok Acknowledged
hand_in_answer Free = Err IsFree

-- below, `uses` and `orders` give the meanings of tables and of orders
module _ {T O : Type 0} {t p : _}
    (uses : T → Relations) (orders : O → Order) (before : Book T O t p) where
  module _ (c : Call) (answer : Result Answer Refusal) (r : Report) (after : Book T O t p) where
    -- a ticket's call counts as a call of the book: that is carried out, and the law is kept
    pub record CountsAs : Type 0 where
      pub carried : CarriesOut uses orders before c answer r after
      pub law : KeepsLaw uses orders before c answer r after

  module _ (k : Condition) (d : ℕ)
      (y : Result Ending Refusal) (r : Report) (after : Book T O t p) where
    -- the call that fits the condition was made; where it was not refused, the ending is named
    abbrev pub EndsBy : Type 0
    EndsBy =
        (answer : Result Answer Refusal)
        × CarriesOut uses orders before (hand_in_call k d) answer r after
        × (y ≡ result_and answer (hand_in_answer k))

-- the words that an ending is printed in
abbrev pub ending_words : Ending → List ℕ
ending_words Closed = codes "closed"
ending_words Withdrawn = codes "withdrawn, since it waited"
ending_words Acknowledged = codes "its recall acknowledged"
