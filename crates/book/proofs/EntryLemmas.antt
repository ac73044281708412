-- A claim that is entered: what follows, by the way it goes.
use Rattle.std.proofs.Common.{◌≡◌, ℕ, ◌<◌, Bool, true, false, cond, not, ◌&&◌, List, [], ◌∷◌, ◌++◌, length, get_or, is_some, set, Some, None, Ok, Option, sym, refl, ap, ◌∙◌, subst, ⊎_elim, arith}
use Rattle.std.specs.Option.{option_map}
use Rattle.std.proofs.lemmas.List.{get_or-set_same, get_or-set_other, get_or_past, length-set}
use Rattle.std.proofs.lemmas.Bool.{cases_eq, cases_lt}
use Rattle.std.proofs.lemmas.Bool.Decides.{nat_tests}
use Rattle.uses.specs.Relations.{Relations}
use Rattle.orders.specs.Laws.{OrderLaws}
use Rattle.model.specs.Search.{any, find}
use Rattle.model.specs.Claims.{InLine, in_line, of, blocks, waits, dispatch_waits, waiting_section}
use Rattle.model.specs.State.{State, is_open, state_with_claim}
use Rattle.model.specs.Recalling.{Order, Recalled, nobody, first, on_cycles, recall_result}
use Rattle.model.specs.Calls.{Effect, claimed, claim_answer, is_named, after_entry, answer_granted, answer_waits, answer_recalled, report_of, woken}
use Rattle.model.specs.Invariant.{IsConsistent, NoCycle, claim_in_range}
use Rattle.model.specs.declared.report.Report.{Report}
use Rattle.model.specs.declared.report.ReportEntry.{ReportEntry}
use Rattle.model.specs.declared.state.Claim.{Claim}
use Rattle.model.specs.declared.state.Detection.{Detection}
use Rattle.model.specs.declared.state.Detection.TheVariants.{Continuous, Periodic}
use Rattle.model.proofs.ClaimLists.{dispatch_waits_push, no_new_cycle, placed_push, waiting_section_some}
use Rattle.model.proofs.Keeps.{consistent_few, consistent_grounded, entered_consistent}
use Rattle.model.proofs.Numbers.{open_closed}
use Rattle.model.proofs.Recalls.{Grounded, Recalls, done, next, recalling_recalls, in_cycles, first_some}
use Rattle.model.proofs.Turns.{turn_none, recalling_turns}
use Rattle.model.proofs.Wakes.{woken_same, woken_entered}
use Rattle.claims.specs.ClaimTable.{AreWaitingSections}
use Rattle.book.proofs.WokenLemmas.{none_is}
use Rattle.book.specs.Answer.{answer_of}
use Rattle.book.specs.Tables.{EntryLeads, EntersClaim, claimant_answer}
use Rattle.book.specs.declared.answer.Answer.{Answer}
use Rattle.book.specs.declared.answer.Answer.TheVariants as answer

-- an open dispatch is named among the recalled exactly when it is open no more
named_closed : (u : Relations) (o : Order) (d : ℕ) {s t : State} {ns : List ReportEntry} → Recalls u o s ns t → is_open s d ≡ true → is_named d ns ≡ not (is_open t d)
named_closed u o d (done clear) here = sym (ap not here)
named_closed u o d {s} {t} (next {n = n} {ns = ns} cycle best rest) here =
    let out = open_closed n.dispatch d s.opened in
    let later = named_closed u o d rest in
    let stays = closed_stays u o d rest in
    grind (arith, nat_tests, out, later, stays, here)
  where
    closed_stays : (u : Relations) (o : Order) (d : ℕ) {s t : State} {ns : List ReportEntry} → Recalls u o s ns t → is_open s d ≡ false → is_open t d ≡ false
    closed_stays u o d (done clear) h = h
    closed_stays u o d {s} (next {n = n} cycle best rest) h = let out = open_closed n.dispatch d s.opened in closed_stays u o d rest (grind (arith, out, h))

-- the answer to a claimant, by whether it is still open
pub answer_by_open : (u : Relations) (o : Order) → OrderLaws o → (t : State) → Grounded t → (d : ℕ) → is_open t d ≡ true → claim_answer u d (recall_result u o t) ≡ cond (is_open (recall_result u o t).state d) (cond (dispatch_waits u (recall_result u o t).state.claims d) answer_waits answer_granted) answer_recalled
answer_by_open u o lawful t g d here =
    let named_so = named_closed u o d (recalling_recalls u o lawful t g) here in
    grind (arith, named_so)

module _ (u : Relations) (o : Order) (lawful : OrderLaws o) where
  -- where nobody is first of those on cycles, nobody is recalled
  pub recall_result-nobody : (s : State) → IsConsistent s → first u o s (on_cycles u s) ≡ None → recall_result u o s ≡ nobody s
  recall_result-nobody s w e = recalling_turns u o lawful 64 s (consistent_grounded s w) (consistent_few s w) ∙ turn_none u o 63 s e

  -- where no cycle stands, nobody is recalled
  pub recall_result-clear : (s : State) → IsConsistent s → NoCycle u s → recall_result u o s ≡ nobody s
  recall_result-clear s w clear = recall_result-nobody s w (none (first u o s (on_cycles u s)) refl)
    where
      none : (v : Option ℕ) → first u o s (on_cycles u s) ≡ v → first u o s (on_cycles u s) ≡ None
      none None e = e
      none (Some d) e = absurd (clear d ((in_cycles u s (consistent_grounded s w) d).0 (first_some u o lawful s (on_cycles u s) d e).1))

-- where nobody is recalled, the report is empty and the state stays
pub report-nobody : (u : Relations) (s : State) (r : Recalled) → r ≡ nobody s → report_of [] [] ≡ report_of r.recalls (woken u s r.state)
report-nobody u s r e = ap (report_of []) (sym (woken_same u s s refl)) ∙ ap (λ (x : Recalled). report_of x.recalls (woken u s x.state)) (sym e)

-- the first that passes, of a list and one more
find-append : {X : Type 0} (q : X → Bool) (xs : List X) (y : X) → find q (xs ++ y ∷ []) ≡ cond (is_some (find q xs)) (find q xs) (cond (q y) (Some y) None)
find-append q [] y = refl
find-append q (x ∷ xs) y = grind (arith, find-append q xs y)

-- where the default was put, it is read
get_or-set_default : {X : Type 0} (xs : List X) (i : ℕ) (d : X) → get_or (set xs i d) i d ≡ d
get_or-set_default xs i d =
    ⊎_elim (λ low. get_or-set_same xs i d d low) (λ high. get_or_past (set xs i d) i d (omega (arith, length-set xs i d, high)))
    (cases_lt i (length xs))

module _ (u : Relations) (cs : List Claim) (c : Claim) where
  -- a claim behind the others changes no section for which another dispatch waits
  waiting_section_push : (d : ℕ) → of d c ≡ false → waiting_section u (cs ++ c ∷ []) d ≡ waiting_section u cs d
  waiting_section_push d other =
      let test : InLine → Bool = λ p. of d p.claim && waits u p in
      let section = option_map (λ (p : InLine). p.claim.section) in
      let last : InLine = record { earlier = cs; claim = c } in
      let out : test last ≡ false = grind (arith, other) in
      let same : cond (is_some (find test (in_line cs))) (find test (in_line cs)) (cond (test last) (Some last) None) ≡ find test (in_line cs) = by_found (find test (in_line cs)) last (test last) out in
      ap (λ ps. section (find test ps)) (placed_push cs c) ∙ ap section (find-append test (in_line cs) last ∙ same)
    where
      by_found : (v : Option InLine) (y : InLine) (b : Bool) → b ≡ false → cond (is_some v) v (cond b (Some y) None) ≡ v
      by_found None y b h = grind (arith, h)
      by_found (Some x) y b h = refl

  -- who does not wait has no section
  none_waiting : (d : ℕ) → dispatch_waits u cs d ≡ false → waiting_section u cs d ≡ None
  none_waiting d runs = none_is (waiting_section u cs d) (waiting_section_some u cs d ∙ runs)

  -- before the entry of a claim one waited for the sections read after it, and its dispatch for none
  pub sections_before : dispatch_waits u cs c.dispatch ≡ false → (sections : List (Option ℕ)) → AreWaitingSections u (cs ++ c ∷ []) sections → AreWaitingSections u cs (set sections c.dispatch None)
  sections_before runs sections after d low =
      ⊎_elim
      (λ (same : d ≡ c.dispatch). ap (λ k. get_or (set sections c.dispatch None) k None) same ∙ (get_or-set_default sections c.dispatch None ∙ sym (ap (waiting_section u cs) same ∙ none_waiting c.dispatch runs)))
      (λ other. get_or-set_other sections c.dispatch d None None other ∙ (after d low ∙ waiting_section_push d (grind (arith, nat_tests, other))))
      (cases_eq d c.dispatch)

module _ (u : Relations) (o : Order) (lawful : OrderLaws o) (s : State) (c : Claim) (w : IsConsistent s) (right : claim_in_range s c ≡ true) (runs : dispatch_waits u s.claims c.dispatch ≡ false) (room : length s.claims < 512) where
  -- the state with the claim
  abbrev pub t : State
  t = state_with_claim c s

  pub fits : IsConsistent t
  fits = entered_consistent s w c right room

  -- the effect of a claim that recalls nobody
  by_waiting : Bool → Effect
  by_waiting w = record { state = t; answer = cond w answer_waits answer_granted; recalls = [] }

  -- what a claim leads to that recalls nobody, by whether it is blocked
  leads : (r : Recalled) → r ≡ nobody t → (b : Bool) → any (λ b. blocks u b c) s.claims ≡ b → (a : Answer) → answer_of (Ok a) ≡ cond b answer_waits answer_granted → (report : Report) (after : State) → report ≡ report_of [] [] → after ≡ t → EntryLeads u s c r a report after
  unfolding by_waiting
  leads r none b blocked a says report after empty is =
      let waits : dispatch_waits u t.claims c.dispatch ≡ b = dispatch_waits_push u s.claims c c.dispatch ∙ grind (arith, nat_tests, runs, blocked) in
      let does : claimed u c.dispatch r ≡ by_waiting b = ap (claimed u c.dispatch) none ∙ ap by_waiting waits in
      record {
        answered = says ∙ sym (ap (λ (e : Effect). e.answer) does);
        reported = empty ∙ (ap (report_of []) (sym (woken_entered u s c)) ∙ sym (ap (λ (e : Effect). report_of e.recalls (woken u s e.state)) does));
        left = is ∙ sym (ap (λ (e : Effect). e.state) does);
      }

  module _ (report : Report) (after : State) (is : after ≡ t) where
    -- in a continuous book where no cycle stood, a claim that nothing blocks closes none
    still_clear : any (λ b. blocks u b c) s.claims ≡ false → NoCycle u s → NoCycle u t
    still_clear free clear d cycle = clear d (no_new_cycle u s.claims c runs free d cycle)

    -- a claim that nothing blocks is granted
    pub enters_free : report ≡ report_of [] [] → any (λ b. blocks u b c) s.claims ≡ false → (s.detection ≡ Continuous → NoCycle u s) → EntersClaim u o s c answer.Granted report after
    enters_free empty free clear = by_detection s.detection refl
      where
        by_detection : (detection : Detection) → s.detection ≡ detection → EntryLeads u s c (after_entry u o detection t) answer.Granted report after
        by_detection Continuous e = leads (recall_result u o t) (recall_result-clear u o lawful t fits (still_clear free (clear e))) false free answer.Granted refl report after empty is
        by_detection Periodic e = leads (nobody t) refl false free answer.Granted refl report after empty is

    -- a claim that is blocked waits in a periodic book
    pub enters_periodic : report ≡ report_of [] [] → any (λ b. blocks u b c) s.claims ≡ true → s.detection ≡ Periodic → EntersClaim u o s c answer.Waits report after
    enters_periodic empty blocked e =
        subst (λ (x : Detection). EntryLeads u s c (after_entry u o x t) answer.Waits report after) (sym e) (leads (nobody t) refl true blocked answer.Waits refl report after empty is)

    -- a claim that is blocked waits in a continuous book, if nobody is on a cycle
    pub enters_waiting : report ≡ report_of [] [] → any (λ b. blocks u b c) s.claims ≡ true → s.detection ≡ Continuous → first u o t (on_cycles u t) ≡ None → EntersClaim u o s c answer.Waits report after
    enters_waiting empty blocked e none =
        subst (λ (x : Detection). EntryLeads u s c (after_entry u o x t) answer.Waits report after) (sym e) (leads (recall_result u o t) (recall_result-nobody u o lawful t fits none) true blocked answer.Waits refl report after empty is)

  -- a claim that is blocked closes a cycle in a continuous book: recalling follows
  pub enters_recalling : (a : Answer) (report : Report) (after : State) (sections : List (Option ℕ)) → is_open t c.dispatch ≡ true → s.detection ≡ Continuous → AreWaitingSections u t.claims sections → answer_of (Ok a) ≡ claimant_answer u after c.dispatch → ((x : State) → AreWaitingSections u x.claims (set sections c.dispatch None) → report ≡ report_of (recall_result u o t).recalls (woken u x (recall_result u o t).state)) → after ≡ (recall_result u o t).state → EntersClaim u o s c a report after
  enters_recalling a report after sections here e read says reports is =
      subst (λ (x : Detection). EntryLeads u s c (after_entry u o x t) a report after) (sym e)
      (record {
        answered = says ∙ (ap (λ (x : State). claimant_answer u x c.dispatch) is ∙ sym (answer_by_open u o lawful t (consistent_grounded t fits) c.dispatch here));
        reported = reports s (sections_before u s.claims c runs sections read);
        left = is;
      })
