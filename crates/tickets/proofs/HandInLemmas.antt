-- How a hand-in ends.
use Rattle.std.proofs.Common.{◌≡◌, ℕ, ◌<◌, true, false, Some, None, Ok, Err, Option, Result, sym, refl, ap, ◌∙◌, subst, arith}
use Rattle.std.specs.Result.{result_and}
use Rattle.std.proofs.lemmas.Bool.Decides.{nat_tests}
use Rattle.uses.specs.Relations.{Relations, UseLaws}
use Rattle.orders.specs.Laws.{OrderLaws}
use Rattle.model.specs.State.{State, is_open, is_free, state_without}
use Rattle.model.specs.Recalling.{Order}
use Rattle.model.specs.Questions.{condition, condition_asked}
use Rattle.model.specs.Calls.{checks, refusal, without_recalled}
use Rattle.model.specs.declared.call.Call.TheVariants as call
use Rattle.model.specs.declared.report.Report.{Report}
use Rattle.model.specs.declared.state.Condition.{Condition}
use Rattle.model.specs.declared.state.Condition.TheVariants.{Free, Running, Waiting, Recalled}
use Rattle.model.proofs.Grants.{led_invariant}
use Rattle.model.proofs.Numbers.{open_closed}
use Rattle.book.specs.Answer.{number}
use Rattle.model.specs.declared.limits.TheConstants.{DISPATCHES}
use Rattle.book.specs.Book.{CarriedOut}
use Rattle.book.specs.Tables.{state}
use Rattle.book.specs.declared.book.Book.{Book}
use Rattle.book.proofs.RunLemmas.{HasHistory, asked_made}
use Rattle.book.specs.declared.answer.Answer.{Answer}
use Rattle.book.specs.declared.answer.Refusal.{Refusal}
use Rattle.book.specs.declared.answer.Refusal.TheVariants.{NumberTooHigh, SectionTooHigh, NotKnown, WeightTooHigh, IsRecalled, IsOpen, IsFree, IsWaiting, NoRoom, NotRecalled}
use Rattle.tickets.specs.Ticket.{CountsAs, EndsBy, book_answer, condition_in, hand_in_call, hand_in_answer}
use Rattle.tickets.specs.declared.ticket.Ending.{Ending}
use Rattle.tickets.proofs.CarriedOutLemmas.{left_by, answered_ok}

-- the refusal with number 7
seventh : (e : Refusal) → number e ≡ 7 → e ≡ IsFree
seventh NumberTooHigh h = absurd (omega (arith, h))
seventh SectionTooHigh h = absurd (omega (arith, h))
seventh NotKnown h = absurd (omega (arith, h))
seventh WeightTooHigh h = absurd (omega (arith, h))
seventh IsRecalled h = absurd (omega (arith, h))
seventh IsOpen h = absurd (omega (arith, h))
seventh IsFree h = refl
seventh IsWaiting h = absurd (omega (arith, h))
seventh NoRoom h = absurd (omega (arith, h))
seventh NotRecalled h = absurd (omega (arith, h))

-- one verdict does not both pass and refuse
apart : {X : Type 0} {x y : X} (v : Option ℕ) (n : ℕ) → v ≡ None → v ≡ Some n → x ≡ y
apart v n p q = cc

-- one verdict has one number
same : (v : Option ℕ) (m n : ℕ) → v ≡ Some m → v ≡ Some n → m ≡ n
same v m n p q = cc

-- the verdict of the checks of a hand-in
abbrev verdict : Condition → Option ℕ
verdict Running = None
verdict Waiting = None
verdict Recalled = None
verdict Free = Some 7

module _ (u : Relations) (s : State) (d : ℕ) (small : d < DISPATCHES) where
  -- the condition that the book told is the dispatch's
  condition_told : (k : Condition) (waits : Option ℕ) → condition_asked u s d ≡ Ok (k, waits) → condition u s d ≡ k
  condition_told k waits h = grind (arith, nat_tests)

  -- a hand-in passes its checks, but of a free number
  checked : (k : Condition) → condition u s d ≡ k → refusal (checks u s (hand_in_call k d)) ≡ verdict k
  checked Running is = grind (arith, nat_tests)
  checked Waiting is = grind (arith, nat_tests)
  checked Recalled is = grind (arith, nat_tests)
  checked Free is = grind (arith, nat_tests)

  module _ (o : Order) (r : Report) (t : State) where
    -- a hand-in that is refused says that the number is free
    refused_free : (k : Condition) → condition u s d ≡ k → (e : Refusal) → CarriedOut u o s (hand_in_call k d) (Err e) r t → ◌≡◌ {A = Result Ending Refusal} (Err e) (hand_in_answer k)
    refused_free Running is e h = apart (refusal (checks u s (call.Close d))) (number e) (checked Running is) h.verdict
    refused_free Waiting is e h = apart (refusal (checks u s (call.Withdraw d))) (number e) (checked Waiting is) h.verdict
    refused_free Recalled is e h = apart (refusal (checks u s (call.Acknowledge d))) (number e) (checked Recalled is) h.verdict
    refused_free Free is e h =
        let seven = same (refusal (checks u s (call.Close d))) (number e) 7 h.verdict (checked Free is) in
        ap (λ (x : Refusal). Err x) (seventh e seven)

    -- a hand-in that is answered is answered ok, by a call that was not refused
    answered_ended : (k : Condition) → condition u s d ≡ k → (a : Answer) → CarriedOut u o s (hand_in_call k d) (Ok a) r t → CarriedOut u o s (hand_in_call k d) (book_answer (hand_in_answer k)) r t
    answered_ended Running is a h = answered_ok u o s (call.Close d) r t a refl h
    answered_ended Waiting is a h = answered_ok u o s (call.Withdraw d) r t a refl h
    answered_ended Recalled is a h = answered_ok u o s (call.Acknowledge d) r t a refl h
    answered_ended Free is a h =
        let clash : ◌≡◌ {A = ℕ} 0 1 = apart (refusal (checks u s (call.Close d))) 7 h.verdict.0 (checked Free is) in
        absurd (omega (arith, clash))

    -- a hand-in answers what its dispatch's condition says, and that is what the book was answered
    ended : (k : Condition) → condition u s d ≡ k → (a : Result Answer Refusal) (y : Result Ending Refusal) → y ≡ result_and a (hand_in_answer k) → CarriedOut u o s (hand_in_call k d) a r t → (y ≡ hand_in_answer k) × CarriedOut u o s (hand_in_call k d) (book_answer y) r t
    ended k is (Ok a) y says h = (says, subst (λ (x : Result Ending Refusal). CarriedOut u o s (hand_in_call k d) (book_answer x) r t) (sym says) (answered_ended k is a h))
    ended k is (Err e) y says h = (says ∙ refused_free k is e h, subst (λ (x : Result Ending Refusal). CarriedOut u o s (hand_in_call k d) (book_answer x) r t) (sym says) h)

    -- after a hand-in the number is free
    free_after : (k : Condition) → condition u s d ≡ k → (s.recalled d ≡ true → is_open s d ≡ false) → (a : Result Answer Refusal) → CarriedOut u o s (hand_in_call k d) a r t → is_free t d ≡ true
    free_after Running is never_both a h =
        let gone = open_closed d d s.opened in
        let free : is_free (state_without d s) d ≡ true = grind (arith, nat_tests, gone) in
        ap (λ (x : State). is_free x d) (left_by u o s (call.Close d) r t a h None (checked Running is)) ∙ free
    free_after Waiting is never_both a h =
        let gone = open_closed d d s.opened in
        let free : is_free (state_without d s) d ≡ true = grind (arith, nat_tests, gone) in
        ap (λ (x : State). is_free x d) (left_by u o s (call.Withdraw d) r t a h None (checked Waiting is)) ∙ free
    free_after Recalled is never_both a h =
        let was : s.recalled d ≡ true = grind (arith, nat_tests) in
        let shut = never_both was in
        let free : is_free (without_recalled d s) d ≡ true = grind (arith, nat_tests, shut) in
        ap (λ (x : State). is_free x d) (left_by u o s (call.Acknowledge d) r t a h None (checked Recalled is)) ∙ free
    free_after Free is never_both a h =
        let free : is_free s d ≡ true = grind (arith, nat_tests) in
        ap (λ (x : State). is_free x d) (left_by u o s (call.Close d) r t a h (Some 7) (checked Free is)) ∙ free

-- by the call that fits the told condition a hand-in keeps its promises
module _ {T O : Type 0} {t p : _} (uses : T → Relations) (laws : (x : T) → UseLaws (uses x)) (orders : O → Order) (lawful : (x : O) → OrderLaws (orders x)) (before after : Book T O t p) (d : ℕ) (small : d < DISPATCHES) (r : Report) where
  -- what a hand-in promises
  abbrev HandsIn : Result Ending Refusal → Type 0
  HandsIn y = (y ≡ hand_in_answer (condition_in uses before d)) × CountsAs uses orders before (hand_in_call (condition_in uses before d) d) (book_answer y) r after × (is_free (state after.tables) d ≡ true)

  -- the promises, by the condition that was told and the call that fits it
  pub hands_in : HasHistory uses orders before → (k : Condition) (waits : Option ℕ) → condition_asked (uses before.policy.table) (state before.tables) d ≡ Ok (k, waits) → (y : Result Ending Refusal) → EndsBy uses orders before k d y r after → HandsIn y
  hands_in history k waits asked y (a, made, says) =
      let u = uses before.policy.table in
      let o = orders before.policy.order in
      let s = state before.tables in
      let is = condition_told u s d small k waits asked in
      let done = ended u s d small o r (state after.tables) k is a y says made.carried in
      let both = asked_made uses laws orders lawful before after history (hand_in_call (condition_in uses before d) d) (hand_in_call k d) (book_answer y) r (ap (λ (x : Condition). hand_in_call x d) is) (record { carried = done.1; policy = made.policy }) in (
        done.0 ∙ ap hand_in_answer (sym is),
        record { carried = both.0; law = both.1 },
        free_after u s d small o r (state after.tables) k is ((led_invariant u (laws before.policy.table) o (lawful before.policy.order) s history).well_formed.consistent.disjoint d) a made.carried,
      )
