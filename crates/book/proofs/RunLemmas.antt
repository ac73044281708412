-- A run goes on with a call of the book.
use Rattle.std.proofs.Common.{◌≡◌, Result, sym, refl, ap, ◌∙◌, subst}
use Rattle.std.proofs.Math.Logic.{∥∥₁_map}
use Rattle.uses.specs.Relations.{Relations, UseLaws}
use Rattle.orders.specs.Laws.{OrderLaws}
use Rattle.model.specs.State.{State}
use Rattle.model.specs.Recalling.{Order}
use Rattle.model.specs.Calls.{step}
use Rattle.model.specs.Runs.{Run, next, at, HasRun}
use Rattle.model.specs.declared.call.Call.{Call}
use Rattle.model.specs.declared.report.Report.{Report}
use Rattle.model.proofs.LawHolds.{law}
use Rattle.book.specs.Book.{CarriedOut, RunGoesOn, CarriesOut, KeepsLaw, state_of, table_of, order_of}
use Rattle.book.specs.declared.answer.Answer.{Answer}
use Rattle.book.specs.declared.answer.Refusal.{Refusal}
use Rattle.book.specs.declared.book.Book.{Book}

-- what is carried out goes on with every run that has led to the state
goes_on : (u : Relations) → UseLaws u → (o : Order) → OrderLaws o → (s : State) (c : Call) (a : Result Answer Refusal) (r : Report) (t : State) → CarriedOut u o s c a r t → (run : Run) → at u o run ≡ s → RunGoesOn u o s c a r t run
goes_on u laws o lawful s c a r t carried run is = record {
  carried = carried;
  leads = ap (λ (x : State). (step u o x c).state) is ∙ sym carried.left;
  lawful = law u laws o lawful (next run c);
}

-- some run has led to the book, by the meanings of its table and its order
abbrev pub HasHistory : {T O : Type 0} {t p : _} → (T → Relations) → (O → Order) → Book T O t p → Type 0
HasHistory uses orders b = HasRun (uses (table_of b)) (orders (order_of b)) (state_of b)

module _ {T O : Type 0} {t p : _} (uses : T → Relations) (laws : (x : T) → UseLaws (uses x)) (orders : O → Order) (lawful : (x : O) → OrderLaws (orders x)) (before after : Book T O t p) where
  -- the call that was asked for is the one that was made: it is done, and the law holds on
  pub asked_made : HasHistory uses orders before → (asked made : Call) (a : Result Answer Refusal) (r : Report) → asked ≡ made → CarriesOut uses orders before made a r after → CarriesOut uses orders before asked a r after × KeepsLaw uses orders before asked a r after
  asked_made history asked made a r is does =
      let carried = subst (λ (c : Call). CarriedOut (uses (table_of before)) (orders (order_of before)) (state_of before) c a r (state_of after)) (sym is) does.carried in
      let goes = goes_on (uses (table_of before)) (laws (table_of before)) (orders (order_of before)) (lawful (order_of before)) (state_of before) asked a r (state_of after) carried in (
        record { carried = carried; policy = does.policy },
        record { every = goes; some = ∥∥₁_map history (λ run. (run.0, run.1, goes run.0 run.1)) },
      )

  -- what is done keeps the law
  pub keeps_law : HasHistory uses orders before → (c : Call) (a : Result Answer Refusal) (r : Report) → CarriesOut uses orders before c a r after → KeepsLaw uses orders before c a r after
  keeps_law history c a r does = (asked_made history c c a r refl does).1
