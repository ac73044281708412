-- A claim call, by the way it goes.
use Rattle.std.proofs.Common.{◌≡◌, ◌<◌, ◌≤◌, true, false, [], ◌∷◌, length, None, Ok, Err, Result, sym, ap, ◌∙◌, subst, refl, arith}
use Rattle.std.proofs.lemmas.Bool.{cond-true, cond-false}
use Rattle.std.proofs.lemmas.Bool.Decides.{nat_tests}
use Rattle.uses.specs.Relations.{Relations}
use Rattle.model.specs.Claims.{dispatch_waits, is_covered}
use Rattle.model.specs.Invariant.{claim_in_range}
use Rattle.model.specs.State.{State, state_with_claim}
use Rattle.model.specs.Recalling.{Order}
use Rattle.model.specs.Calls.{no_room, entry_checks, checks, refusal, plain, claimed, after_entry, answer_covered, report_of}
use Rattle.model.specs.declared.call.Call.TheVariants as call
use Rattle.model.specs.declared.report.Report.{Report}
use Rattle.model.specs.declared.state.Claim.{Claim}
use Rattle.model.proofs.Wakes.{woken_same}
use Rattle.book.specs.Book.{CarriedOut}
use Rattle.book.specs.Tables.{EntersClaim}
use Rattle.book.specs.declared.answer.Answer.{Answer}
use Rattle.book.specs.declared.answer.Answer.TheVariants as answer
use Rattle.book.specs.declared.answer.Refusal.{Refusal}
use Rattle.book.specs.declared.answer.Refusal.TheVariants.{NoRoom}
use Rattle.book.proofs.CallLemmas.{carried_refused, carried_accepted, refusal_rest}

module _ (u : Relations) (o : Order) (s : State) (x : Claim) (passed : refusal (entry_checks u s x.dispatch x.section x.mode) ≡ None) where
  -- a claim that passes the checks before the one for room is in range
  pub passed_in_range : claim_in_range s x ≡ true
  passed_in_range = grind (arith, nat_tests)

  -- and its dispatch runs
  pub passed_runs : dispatch_waits u s.claims x.dispatch ≡ false
  passed_runs = grind (arith, nat_tests)

  -- what the claim call leads to
  abbrev pub Carried : Result Answer Refusal → Report → State → Type 0
  Carried a r t = CarriedOut u o s (call.Claim x.dispatch x.section x.mode) a r t

  -- the verdict is that of the check for room
  verdict : refusal (checks u s (call.Claim x.dispatch x.section x.mode)) ≡ refusal (no_room u s x.dispatch x.section x.mode ∷ [])
  verdict = refusal_rest (entry_checks u s x.dispatch x.section x.mode) (no_room u s x.dispatch x.section x.mode ∷ []) passed

  -- a covered claim
  carried_covered : (r : Report) → is_covered u s.claims x.dispatch x.section x.mode ≡ true → r ≡ report_of [] [] → Carried (Ok answer.Covered) r s
  carried_covered r cover is =
      carried_accepted u o s (call.Claim x.dispatch x.section x.mode) answer.Covered (plain s answer_covered) r s (verdict ∙ grind (arith, cover))
      (cond-true (is_covered u s.claims x.dispatch x.section x.mode) (plain s answer_covered) (claimed u x.dispatch (after_entry u o s.detection (state_with_claim x s))) cover)
      refl (is ∙ ap (report_of []) (sym (woken_same u s s refl))) refl

  -- a claim for which there is no room
  carried_no_room : (r : Report) → is_covered u s.claims x.dispatch x.section x.mode ≡ false → 512 ≤ length s.claims → r ≡ report_of [] [] → Carried (Err NoRoom) r s
  carried_no_room r new full is =
      carried_refused u o s (call.Claim x.dispatch x.section x.mode) NoRoom r s (verdict ∙ grind (arith, nat_tests, new, full)) is refl

  -- a claim that is entered
  carried_entered : (a : Answer) (r : Report) (t : State) → is_covered u s.claims x.dispatch x.section x.mode ≡ false → length s.claims < 512 → EntersClaim u o s x a r t → Carried (Ok a) r t
  carried_entered a r t new room enters =
      let does = claimed u x.dispatch (after_entry u o s.detection (state_with_claim x s)) in
      carried_accepted u o s (call.Claim x.dispatch x.section x.mode) a does r t (verdict ∙ grind (arith, nat_tests, new, room))
      (cond-false (is_covered u s.claims x.dispatch x.section x.mode) (plain s answer_covered) does new)
      enters.answered enters.reported enters.left

-- a claim that was checked is the one that was asked for: what is shown of the checked one is shown of the call
module _ (u : Relations) (o : Order) (s : State) (x y : Claim) (checked : (refusal (entry_checks u s y.dispatch y.section y.mode) ≡ None) × (x ≡ y)) where
  pub passed_at : refusal (entry_checks u s x.dispatch x.section x.mode) ≡ None
  passed_at = subst (λ (z : Claim). refusal (entry_checks u s z.dispatch z.section z.mode) ≡ None) (sym checked.1) checked.0

  carried_at : (a : Result Answer Refusal) (r : Report) (t : State) → CarriedOut u o s (call.Claim x.dispatch x.section x.mode) a r t → CarriedOut u o s (call.Claim y.dispatch y.section y.mode) a r t
  carried_at a r t h = subst (λ (z : Claim). CarriedOut u o s (call.Claim z.dispatch z.section z.mode) a r t) checked.1 h

  -- it is covered
  pub asked_covered : (r : Report) → true ≡ is_covered u s.claims x.dispatch x.section x.mode → r ≡ report_of [] [] → CarriedOut u o s (call.Claim y.dispatch y.section y.mode) (Ok answer.Covered) r s
  asked_covered r cover is = carried_at (Ok answer.Covered) r s (carried_covered u o s x passed_at r (sym cover) is)

  -- there is no room
  pub asked_no_room : (r : Report) → false ≡ is_covered u s.claims x.dispatch x.section x.mode → 512 ≤ length s.claims → r ≡ report_of [] [] → CarriedOut u o s (call.Claim y.dispatch y.section y.mode) (Err NoRoom) r s
  asked_no_room r new full is = carried_at (Err NoRoom) r s (carried_no_room u o s x passed_at r (sym new) full is)

  -- it is entered
  pub asked_entered : (a : Answer) (r : Report) (t : State) → false ≡ is_covered u s.claims x.dispatch x.section x.mode → length s.claims < 512 → EntersClaim u o s x a r t → CarriedOut u o s (call.Claim y.dispatch y.section y.mode) (Ok a) r t
  asked_entered a r t new room enters = carried_at (Ok a) r t (carried_entered u o s x passed_at a r t (sym new) room enters)
