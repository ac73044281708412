-- From the parts of a call to what it promises.
use Rattle.std.proofs.Common.{Bool, false, is_some, nat_le, ◌≡◌, ℕ, List, [], ◌∷◌, ◌++◌, arith, Some, None, Ok, Err, Option, Result, IsErrAnd, sym, refl, ap, ◌∙◌}
use Rattle.std.proofs.Math.Logic.{∥∥₁_map}
use Rattle.std.proofs.lemmas.Bool.{cond-false}
use Rattle.std.proofs.lemmas.Bool.Decides.{nat_tests}
use Rattle.std.proofs.lemmas.Result.{err_from_is_err_and}
use Rattle.uses.specs.Relations.{Relations}
use Rattle.model.specs.State.{State, state_without}
use Rattle.model.specs.Recalling.{Order}
use Rattle.model.specs.Claims.{dispatch_waits, waiting_section}
use Rattle.model.specs.Questions.{condition, condition_asked}
use Rattle.model.specs.declared.state.Condition.{Condition}
use Rattle.model.proofs.ClaimLists.{waiting_section_some}
use Rattle.book.specs.Tables.{condition_by}
use Rattle.model.specs.Calls.{number_too_high, Check, Outcome, Effect, checks, refusal, accepted, effect_by, woken, with_wakes, step, report_of, report, plain, answer_ok}
use Rattle.model.specs.Runs.{next, HasRun}
use Rattle.model.specs.declared.call.Call.{Call}
use Rattle.model.specs.declared.report.Report.{Report}
use Rattle.model.proofs.Wakes.{woken_same}
use Rattle.book.specs.Answer.{number, answer_of}
use Rattle.book.specs.Book.{CarriedOut, CarriesOut, state_of, table_of, order_of}
use Rattle.book.specs.declared.answer.Answer.{Answer}
use Rattle.book.specs.declared.answer.Answer.TheVariants as answer
use Rattle.book.specs.declared.answer.Refusal.{Refusal}
use Rattle.book.specs.declared.book.Book.{Book}

-- checks that pass leave the verdict to those that follow
pub refusal_rest : (cs ds : List Check) → refusal cs ≡ None → refusal (cs ++ ds) ≡ refusal ds
refusal_rest [] ds h = refl
refusal_rest (c ∷ cs) ds h = let rest = refusal_rest cs ds in grind (arith, rest, h)

-- a check that applies decides, whatever follows
pub refusal_first : (cs ds : List Check) (n : ℕ) → refusal cs ≡ Some n → refusal (cs ++ ds) ≡ Some n
refusal_first [] ds n h = grind (arith, h)
refusal_first (c ∷ cs) ds n h = let rest = refusal_first cs ds n in grind (arith, rest, h)

module _ (u : Relations) (o : Order) (s : State) (c : Call) where
  -- a call by the verdict of its checks
  step_by : (v : Option ℕ) → refusal (checks u s c) ≡ v → step u o s c ≡ with_wakes u s (effect_by u o s c v)
  unfolding step
  step_by v h = ap (λ (x : Option ℕ). with_wakes u s (effect_by u o s c x)) h

  -- a call that is refused
  pub carried_refused : (e : Refusal) (r : Report) (t : State) → refusal (checks u s c) ≡ Some (number e) → r ≡ report_of [] [] → t ≡ s → CarriedOut u o s c (Err e) r t
  carried_refused e r t h is same =
      let stepped = step_by (Some (number e)) h in
      record {
        answered = sym (ap (λ (x : Outcome). x.answer) stepped);
        reported = is ∙ (ap (report_of []) (sym (woken_same u s s refl)) ∙ sym (ap (λ (x : Outcome). report x) stepped));
        left = same ∙ sym (ap (λ (x : Outcome). x.state) stepped);
        verdict = h;
        on_refusal = (same, is);
      }

  -- a call that is accepted
  pub carried_accepted : (a : Answer) (e : Effect) (r : Report) (t : State) → refusal (checks u s c) ≡ None → accepted u o s c ≡ e → answer_of (Ok a) ≡ e.answer → r ≡ report_of e.recalls (woken u s e.state) → t ≡ e.state → CarriedOut u o s c (Ok a) r t
  carried_accepted a e r t h does says is same =
      let stepped = step_by None h ∙ ap (with_wakes u s) does in
      record {
        answered = says ∙ sym (ap (λ (x : Outcome). x.answer) stepped);
        reported = is ∙ sym (ap (λ (x : Outcome). report x) stepped);
        left = same ∙ sym (ap (λ (x : Outcome). x.state) stepped);
        verdict = (h, tt);
        on_refusal = tt;
      }

  -- a call that is accepted, wakes nobody and recalls nobody
  pub carried_plain : (r : Report) (t t' : State) → refusal (checks u s c) ≡ None → accepted u o s c ≡ plain t' answer_ok → woken u s t' ≡ [] → r ≡ report_of [] [] → t ≡ t' → CarriedOut u o s c (Ok answer.Ok) r t
  carried_plain r t t' h does nobody is same =
      carried_accepted answer.Ok (plain t' answer_ok) r t h does refl (is ∙ ap (report_of []) (sym nobody)) same

  -- a call that ends a dispatch
  pub carried_end : (d n : ℕ) (r : Report) (t : State) → refusal (checks u s c) ≡ None → accepted u o s c ≡ plain (state_without d s) answer_ok → n ≡ d → r ≡ report_of [] (woken u s (state_without n s)) → t ≡ state_without n s → CarriedOut u o s c (Ok answer.Ok) r t
  carried_end d n r t h does at is same =
      carried_accepted answer.Ok (plain (state_without d s) answer_ok) r t h does refl (is ∙ ap (λ (k : ℕ). report_of [] (woken u s (state_without k s))) at) (same ∙ ap (λ (k : ℕ). state_without k s) at)

-- a run that has led to the state goes on with what is carried out
pub history_goes_on : (u : Relations) (o : Order) (s : State) (c : Call) {a : Result Answer Refusal} {r : Report} {t : State} → HasRun u o s → CarriedOut u o s c a r t → HasRun u o t
history_goes_on u o s c history carried = ∥∥₁_map history (λ run. (next run.0 c, ap (λ (x : State). (step u o x c).state) run.1 ∙ sym carried.left))

module _ {T O : Type 0} {t p : _} (uses : T → Relations) (orders : O → Order) (before : Book T O t p) (c : Call) where
  -- the call of the book is carried out, and leaves the state
  abbrev pub CarriedOutIn : Result Answer Refusal → Report → State → Type 0
  CarriedOutIn a r left = CarriedOut (uses (table_of before)) (orders (order_of before)) (state_of before) c a r left

  -- a call that is refused, as the exit of a `?` leaves it
  pub done_refused : (after : Book T O t p) (a : Result Answer Refusal) (e : Refusal) (r : Report) → IsErrAnd a (λ y. y ≡ e) → refusal (checks (uses (table_of before)) (state_of before) c) ≡ Some (number e) → r ≡ report_of [] [] → state_of after ≡ state_of before → after.policy ≡ before.policy → CarriesOut uses orders before c a r after
  done_refused after a e r exits h is same stays =
      let p = err_from_is_err_and a exits in
      rw (p.1, p.2)
      (record {
        carried = carried_refused (uses (table_of before)) (orders (order_of before)) (state_of before) c e r (state_of after) h is same;
        policy = stays;
      })

-- the status that is told is the model's
pub status_is : (u : Relations) (s : State) (d n : ℕ) (k : Condition) (section : Option ℕ) → refusal (number_too_high d ∷ []) ≡ None → n ≡ d → section ≡ waiting_section u s.claims n → k ≡ condition_by (is_some section) s n → condition_asked u s d ≡ Ok (k, section)
status_is u s d n k section passed at read stands =
    let low : nat_le 64 d ≡ false = grind (arith, nat_tests, passed) in
    let is : section ≡ waiting_section u s.claims d = read ∙ ap (waiting_section u s.claims) at in
    let waits : is_some section ≡ dispatch_waits u s.claims d = ap (λ (v : Option ℕ). is_some v) is ∙ waiting_section_some u s.claims d in
    let same : k ≡ condition u s d = stands ∙ (ap (condition_by (is_some section) s) at ∙ ap (λ (w : Bool). condition_by w s d) waits) in
    cond-false (nat_le 64 d) (Err 1) (Ok (condition u s d, waiting_section u s.claims d)) low
    ∙ (ap (λ (x : Condition). Ok (x, waiting_section u s.claims d)) (sym same) ∙ ap (λ (v : Option ℕ). Ok (k, v)) (sym is))
