-- What the answer of a call says of its checks.
use Rattle.std.proofs.Common.{◌≡◌, ℕ, None, Ok, Option, Result, sym, ap, ◌∙◌}
use Rattle.uses.specs.Relations.{Relations, UseLaws}
use Rattle.orders.specs.Laws.{OrderLaws}
use Rattle.model.specs.State.{State}
use Rattle.model.specs.Recalling.{Order}
use Rattle.model.specs.Calls.{checks, refusal, accepted, effect_by, step, answer_ok}
use Rattle.model.specs.declared.call.Call.{Call}
use Rattle.model.specs.declared.report.Report.{Report}
use Rattle.book.specs.Book.{CarriedOut, CarriesOut}
use Rattle.book.specs.Tables.{state}
use Rattle.book.specs.declared.answer.Answer.{Answer}
use Rattle.book.specs.declared.answer.Answer.TheVariants as answer
use Rattle.book.specs.declared.answer.Refusal.{Refusal}
use Rattle.book.specs.declared.book.Book.{Book}
use Rattle.book.proofs.RunLemmas.{HasHistory, keeps_law}
use Rattle.tickets.specs.Ticket.{CountsAs}

module _ (u : Relations) (o : Order) (s : State) (c : Call) (r : Report) (t : State) where
  -- the answer, by the verdict of the checks
  answer_by : (v : Option ℕ) → refusal (checks u s c) ≡ v → (step u o s c).answer ≡ (effect_by u o s c v).answer
  unfolding step
  answer_by v h = ap (λ (x : Option ℕ). (effect_by u o s c x).answer) h

  -- the state left, by the verdict of the checks
  pub left_by : (a : Result Answer Refusal) → CarriedOut u o s c a r t → (v : Option ℕ) → refusal (checks u s c) ≡ v → t ≡ (effect_by u o s c v).state
  unfolding step
  left_by a h v is = h.left ∙ ap (λ (x : Option ℕ). (effect_by u o s c x).state) is

  -- a call whose one answer is ok was answered ok
  pub answered_ok : (a : Answer) → (accepted u o s c).answer ≡ answer_ok → CarriedOut u o s c (Ok a) r t → CarriedOut u o s c (Ok answer.Ok) r t
  answered_ok a plain h = record {
    answered = sym (answer_by None h.verdict.0 ∙ plain);
    reported = h.reported;
    left = h.left;
    verdict = h.verdict;
    on_refusal = tt;
  }

-- a call of a book whose one answer is ok was answered ok
pub done_ok : {T O : Type 0} {t p : _} (uses : T → Relations) (orders : O → Order) (before after : Book T O t p) (c : Call) (r : Report) (a : Answer) → (accepted (uses before.policy.table) (orders before.policy.order) (state before.tables) c).answer ≡ answer_ok → CarriesOut uses orders before c (Ok a) r after → CarriesOut uses orders before c (Ok answer.Ok) r after
done_ok uses orders before after c r a plain does = record {
  carried = answered_ok (uses before.policy.table) (orders before.policy.order) (state before.tables) c r (state after.tables) a plain does.carried;
  policy = does.policy;
}

module _ {T O : Type 0} {t p : _} (uses : T → Relations) (laws : (x : T) → UseLaws (uses x)) (orders : O → Order) (lawful : (x : O) → OrderLaws (orders x)) (before after : Book T O t p) where
  -- what is carried out keeps the law over runs
  pub counts_as : HasHistory uses orders before → (c : Call) (a : Result Answer Refusal) (r : Report) → CarriesOut uses orders before c a r after → CountsAs uses orders before c a r after
  counts_as history c a r does = record { carried = does; law = keeps_law uses laws orders lawful before after history c a r does }
