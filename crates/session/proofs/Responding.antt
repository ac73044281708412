-- What a line gives, by the ways that its reading and its call can go.
use Rattle.std.proofs.Common.{◌≡◌, ℕ, ◌+◌, ◌≤◌, List, [], length, Ok, Err, Result, sym, refl, ap, ◌∙◌, subst, arith}
use Rattle.std.proofs.Math.Logic.{∥∥₁_map}
use Rattle.uses.specs.Relations.{Relations, UseLaws}
use Rattle.orders.specs.Laws.{OrderLaws}
use Rattle.model.specs.State.{State}
use Rattle.model.specs.Recalling.{Order}
use Rattle.model.specs.Calls.{step, report_of}
use Rattle.model.specs.Runs.{Run, next, at, HasRun}
use Rattle.model.specs.Invariant.{Invariant}
use Rattle.model.specs.declared.report.Report.{Report}
use Rattle.model.specs.declared.report.ReportEntry.{ReportEntry}
use Rattle.model.proofs.Exact.{report_fits}
use Rattle.model.proofs.LawHolds.{law}
use Rattle.book.specs.Book.{state_of}
use Rattle.book.specs.declared.book.Book.{Book}
use Rattle.book.specs.Answer.{answer_of}
use Rattle.book.specs.declared.answer.Answer.{Answer}
use Rattle.book.specs.declared.answer.Refusal.{Refusal}
use Rattle.book.specs.declared.answer.Refusal.TheVariants.{NumberTooHigh, SectionTooHigh, NotKnown, WeightTooHigh, IsRecalled, IsOpen, IsFree, IsWaiting, NoRoom, NotRecalled}
use Rattle.protocol.specs.Reading.{too_long, no_letter, wrong_form}
use Rattle.protocol.specs.Words.{Reply, answer, reply_to}
use Rattle.protocol.specs.declared.fault.Fault.{Fault}
use Rattle.session.specs.Transcript.{ReadAs, too_many, in_time, Gives, faulty, carried, reply_fault}
use Rattle.session.specs.Lawful as lawfully
use Rattle.session.specs.Lawful.{GoesOn}
use Rattle.session.specs.NumberedLine.{passed_up, Responds, by_fault, by_call, RunGoesOnByLine, CarriesOutLine, LineKeepsLaw}

-- it is the reply that the book's answer is
reply_passed_up : (a : Result Answer Refusal) → reply_to (passed_up a) ≡ answer (answer_of a)
reply_passed_up (Ok a) = refl
reply_passed_up (Err NumberTooHigh) = refl
reply_passed_up (Err SectionTooHigh) = refl
reply_passed_up (Err NotKnown) = refl
reply_passed_up (Err WeightTooHigh) = refl
reply_passed_up (Err IsRecalled) = refl
reply_passed_up (Err IsOpen) = refl
reply_passed_up (Err IsFree) = refl
reply_passed_up (Err IsWaiting) = refl
reply_passed_up (Err NoRoom) = refl
reply_passed_up (Err NotRecalled) = refl

-- a fault that a line is read as is a fault of the line
reply_to_fault : (number : ℕ) (line : List ℕ) (f : Fault) → ReadAs number line (Err f) → reply_to (Err f) ≡ reply_fault f
reply_to_fault number line _ (too_many late) = refl
reply_to_fault number line _ (in_time below (too_long many)) = refl
reply_to_fault number line _ (in_time below (no_letter few h)) = refl
reply_to_fault number line _ (in_time below (wrong_form few h place wrong)) = refl

module _ (u : Relations) (o : Order) (number : ℕ) (line : List ℕ) (s : State) where
  -- what is printed for the outcome and the report is what the line gives
  pub record Printable (outcome : Result Answer Fault) (r : Report) (t : State) : Type 0 where
    pub recalls : List ReportEntry
    pub wakes : List ReportEntry
    pub reported : r ≡ report_of recalls wakes
    pub fits : length recalls + length wakes ≤ 64
    pub gives : Gives u o number s line (reply_to outcome) recalls wakes t

  -- so it is with every response
  pub printable : UseLaws u → OrderLaws o → Invariant u s → (outcome : Result Answer Fault) (r : Report) (t : State) → Responds u o number line s outcome r t → Printable outcome r t
  printable laws lawful i _ _ _ (by_fault f reads) = record {
    recalls = [];
    wakes = [];
    reported = refl;
    fits = omega arith;
    gives = subst (λ (x : Reply). Gives u o number s line x [] [] s) (sym (reply_to_fault number line f reads)) (faulty f reads);
  }
  printable laws lawful i _ _ _ (by_call c reads {answer = a} {r = r} {after = t} done) = record {
    recalls = (step u o s c).recalls;
    wakes = (step u o s c).wakes;
    reported = done.reported;
    fits = report_fits u laws o lawful s i c;
    gives = subst (λ (x : State). Gives u o number s line (reply_to (passed_up a)) (step u o s c).recalls (step u o s c).wakes x) (sym done.left)
        (subst (λ (x : Reply). Gives u o number s line x (step u o s c).recalls (step u o s c).wakes (step u o s c).state) (sym same) (carried c reads));
  }
    where
      same : reply_to (passed_up a) ≡ answer (step u o s c).answer
      same = reply_passed_up a ∙ ap answer done.answered

  -- a line that is no call was responded to
  pub fault_responded : (f : Fault) (r : Report) → ReadAs number line (Err f) → r ≡ report_of [] [] → Responds u o number line s (Err f) r s
  fault_responded f r reads none = subst (λ (x : Report). Responds u o number line s (Err f) x s) (sym none) (by_fault f reads)

  -- every run that has led to the state goes on with the line
  pub run_goes_on : UseLaws u → OrderLaws o → (outcome : Result Answer Fault) (r : Report) (t : State) → Responds u o number line s outcome r t → (run : Run) → at u o run ≡ s → RunGoesOnByLine u o number line t run
  run_goes_on laws lawful _ _ _ (by_fault f reads) run leads = record {
    longer = run;
    goes_on = lawfully.by_none f reads;
    leads = leads;
    lawful = law u laws o lawful run;
  }
  run_goes_on laws lawful _ _ _ (by_call c reads {after = t} done) run leads = record {
    longer = next run c;
    goes_on = lawfully.by_call c reads;
    leads = ap (λ (x : State). (step u o x c).state) leads ∙ sym done.left;
    lawful = law u laws o lawful (next run c);
  }

module _ {T O : Type 0} {tm om : _} (uses : T → Relations) (laws : (x : T) → UseLaws (uses x)) (orders : O → Order) (lawful : (x : O) → OrderLaws (orders x)) (before after : Book T O tm om) where
  -- a line that was responded to was answered, and the law goes on
  pub line_answered : (number : ℕ) (line : List ℕ) (outcome : Result Answer Fault) (r : Report) → HasRun (uses before.policy.table) (orders before.policy.order) (state_of before) → Responds (uses before.policy.table) (orders before.policy.order) number line (state_of before) outcome r (state_of after) → after.policy ≡ before.policy → CarriesOutLine uses orders before number line outcome r after × LineKeepsLaw uses orders before number line after
  line_answered number line outcome r history responds policy =
      let every = run_goes_on (uses before.policy.table) (orders before.policy.order) number line (state_of before) (laws before.policy.table) (lawful before.policy.order) outcome r (state_of after) responds in (
        record { responds = responds; policy = policy },
        record { every = every; some = ∥∥₁_map history (λ h. (h.0, h.1, every h.0 h.1)) },
      )
