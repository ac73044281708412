-- What was granted since opening is backed by a held claim that covers it.
use Rattle.std.proofs.Common.{◌≡◌, ℕ, Bool, true, false, not, ◌&&◌, eqb, List, [], None, filter, sym, refl, ◌∙◌, subst, arith}
use Rattle.std.proofs.Math.Logic.{∥∥₁_elim}
use Rattle.std.proofs.Props.{props}
use Rattle.std.proofs.lemmas.Bool.{and_parts, eqb-true, not-true, ne_eqb}
use Rattle.std.proofs.lemmas.Bool.Decides.{nat_tests}
use Rattle.uses.specs.Relations.{Relations, UseLaws}
use Rattle.orders.specs.Laws.{OrderLaws}
use Rattle.model.specs.Claims.{in_line, of, waits, dispatch_waits, is_covered, claim_waits}
use Rattle.model.specs.State.{State, numbers, is_open, state_without, state_with_claim, recall}
use Rattle.model.specs.Recalling.{Order, entry_of, recall_result}
use Rattle.model.specs.Calls.{answer_granted, answer_covered, checks, refusal, Effect, after_entry, claim_of, accepted, woken, step}
use Rattle.model.specs.Invariant.{WellFormed, Invariant}
use Rattle.model.specs.Runs.{Run, start, next, at, HasRun, Names, Grants, by_grant, by_cover, by_wake, HasGrant, just_now, before}
use Rattle.model.specs.Law.{IsEntered, Exclusion}
use Rattle.model.specs.declared.call.Call.{Call}
use Rattle.model.specs.declared.call.Call.TheVariants as call
use Rattle.model.specs.declared.report.ReportEntry.{ReportEntry}
use Rattle.model.specs.declared.state.Claim.{Claim}
use Rattle.model.specs.declared.state.Detection.{Detection}
use Rattle.model.specs.declared.state.Detection.TheVariants.{Continuous, Periodic}
use Rattle.model.proofs.Anys.{any_wider, any_map, any_kept_by, any_witness}
use Rattle.model.proofs.ClaimLists.{backed, backed_push, backed_without, backed_covered, backed_apart, covered_push, covered_push_new, covered_without, covered_waiting, any_claims}
use Rattle.model.proofs.Numbers.{open_closed, any_passes}
use Rattle.model.proofs.Recalls.{Recalls, done, next as then, recalling_recalls}
use Rattle.model.proofs.Keeps.{grounded}
use Rattle.model.proofs.Steps.{effect_cases, claim_cases, answers_entered, passed_claim, entry_kept, new_invariant, step_invariant}

-- from the first state to the second, who is open at the end keeps what backs and what covers
pub record Carries (u : Relations) (s t : State) : Type 0 where
  pub backs :
      (d section mode : ℕ) → is_open t d ≡ true → backed u s.claims d section mode ≡ true
      → backed u t.claims d section mode ≡ true
  pub covers :
      (d section mode : ℕ) → is_open t d ≡ true → is_covered u s.claims d section mode ≡ true
      → is_covered u t.claims d section mode ≡ true

-- who is open without a dispatch is another, and was open
open_other :
    (s : State) (x d : ℕ) → is_open (recall x s) d ≡ true → (eqb d x ≡ false) × (is_open s d ≡ true)
open_other s x d h =
    let parts = and_parts (not (eqb d x)) (is_open s d) (sym (open_closed x d s.opened) ∙ h) in (not-true (eqb d x) parts.0, parts.1)

-- who is open after recalls was open before
recalls_open :
    (u : Relations) (o : Order) {s t : State} {ns : List ReportEntry} → Recalls u o s ns t → (d : ℕ)
    → is_open t d ≡ true → is_open s d ≡ true
recalls_open u o (done clear) d h = h
recalls_open u o {s} (then {n = n} cycle best rest) d h = (open_other s n.dispatch d (recalls_open u o rest d h)).1

module _ (u : Relations) where
  taken_out_carries : (s : State) (x : ℕ) → Carries u s (state_without x s)
  taken_out_carries s x = record {
    backs = λ d section mode h k. backed_without u s.claims x d section mode (open_other s x d h).0 k;
    covers = λ d section mode h k. covered_without u s.claims x d section mode (open_other s x d h).0 ∙ k;
  }

  entered_carries : (s : State) (c : Claim) → Carries u s (state_with_claim c s)
  entered_carries s c = record {
    backs = λ d section mode h k. backed_push u s.claims c d section mode k;
    covers = λ d section mode h k. covered_push u s.claims c d section mode k;
  }

  same_carries : (s t : State) → s.claims ≡ t.claims → Carries u s t
  same_carries s t e = record {
    backs = λ d section mode h k. subst (λ (cs : List Claim). backed u cs d section mode ≡ true) e k;
    covers = λ d section mode h k. subst (λ (cs : List Claim). is_covered u cs d section mode ≡ true) e k;
  }

  recalls_carries :
      (o : Order) {s t : State} {ns : List ReportEntry} → Recalls u o s ns t → Carries u s t
  recalls_carries o {s} (done clear) = same_carries s s refl
  recalls_carries o {s} (then {n = n} cycle best rest) =
      let first = taken_out_carries s n.dispatch in
      let others = recalls_carries o rest in
      record {
        backs = λ d section mode h k. others.backs d section mode h (first.backs d section mode (recalls_open u o rest d h) k);
        covers = λ d section mode h k. others.covers d section mode h (first.covers d section mode (recalls_open u o rest d h) k);
      }

module _ (u : Relations) (o : Order) (lawful : OrderLaws o) (s : State) (w : WellFormed u s) where
  recalling_carries : (t : State) → WellFormed u t → Carries u t (recall_result u o t).state
  recalling_carries t kept = recalls_carries u o (recalling_recalls u o lawful t (grounded u t kept))

  entry_carries :
      (t : State) → WellFormed u t → (detection : Detection)
      → Carries u t (after_entry u o detection t).state
  entry_carries t kept Continuous = recalling_carries t kept
  entry_carries t kept Periodic = same_carries u t t refl

  entry_open :
      (t : State) → WellFormed u t → (detection : Detection) (d : ℕ)
      → is_open (after_entry u o detection t).state d ≡ true → is_open t d ≡ true
  entry_open t kept Continuous d h = recalls_open u o (recalling_recalls u o lawful t (grounded u t kept)) d h
  entry_open t kept Periodic d h = h

  claimed_carries :
      (c : Claim) → WellFormed u (state_with_claim c s)
      → Carries u s (after_entry u o s.detection (state_with_claim c s)).state
  claimed_carries c kept =
      let later = entry_carries (state_with_claim c s) kept s.detection in
      let first = entered_carries u s c in
      record {
        backs = λ d section mode h k. later.backs d section mode h (first.backs d section mode (entry_open (state_with_claim c s) kept s.detection d h) k);
        covers = λ d section mode h k. later.covers d section mode h (first.covers d section mode (entry_open (state_with_claim c s) kept s.detection d h) k);
      }

  accepted_carries :
      (c : Call) → refusal (checks u s c) ≡ None → Carries u s (accepted u o s c).state
  accepted_carries (call.Open d weight) h = same_carries u s (accepted u o s (call.Open d weight)).state refl
  accepted_carries (call.Claim d section mode) h =
      claim_cases u o s d section mode (λ e. Carries u s e.state) (λ _. same_carries u s s refl)
      (λ new. claimed_carries (claim_of d section mode) (entry_kept u o lawful s w d section mode (passed_claim u s d section mode h) new))
  accepted_carries (call.Close d) h = taken_out_carries u s d
  accepted_carries (call.Withdraw d) h = taken_out_carries u s d
  accepted_carries (call.Acknowledge d) h = same_carries u s (accepted u o s (call.Acknowledge d)).state refl
  accepted_carries call.Sweep h = recalling_carries s w

  -- every call carries on what backs and what covers
  pub step_carries : (c : Call) → Carries u s (step u o s c).state
  unfolding step
  step_carries c = effect_cases u o s c (λ e. Carries u s e.state) (λ n h. same_carries u s s refl) (accepted_carries c)

module _ (u : Relations) (laws : UseLaws u) (o : Order) (lawful : OrderLaws o) (s : State) (w : WellFormed u s) where
  -- a claim that is answered granted is backed
  granted_backed :
      (d section mode : ℕ) → (step u o s (call.Claim d section mode)).answer ≡ answer_granted
      → is_open (step u o s (call.Claim d section mode)).state d ≡ true
      → backed u (step u o s (call.Claim d section mode)).state.claims d section mode ≡ true
  unfolding step
  granted_backed d section mode =
      let c = claim_of d section mode in
      let P : Effect → Type 0 = λ e. e.answer ≡ answer_granted → is_open e.state d ≡ true → backed u e.state.claims d section mode ≡ true in
      effect_cases u o s (call.Claim d section mode) P (λ n h a. cc)
      (λ h. claim_cases u o s d section mode P (λ k a. cc)
      (λ new a here.
      let passed = passed_claim u s d section mode h in
      let kept = entry_kept u o lawful s w d section mode passed new in
      let entry = entry_carries u o lawful s w (state_with_claim c s) kept s.detection in
      let r = after_entry u o s.detection (state_with_claim c s) in
      backed_covered u r.state.claims d section mode (grind (arith, a))
      (entry.covers d section mode here (covered_push_new u s.claims d section mode (laws.reflexive mode (grind (arith, passed.right)))))))

  -- a claim that is answered covered is backed
  covered_backed :
      (d section mode : ℕ) → (step u o s (call.Claim d section mode)).answer ≡ answer_covered
      → backed u (step u o s (call.Claim d section mode)).state.claims d section mode ≡ true
  unfolding step
  covered_backed d section mode =
      let P : Effect → Type 0 = λ e. e.answer ≡ answer_covered → backed u e.state.claims d section mode ≡ true in
      effect_cases u o s (call.Claim d section mode) P (λ n h a. cc)
      (λ h. claim_cases u o s d section mode P (λ k a. backed_covered u s.claims d section mode (passed_claim u s d section mode h).runs k)
      (λ new a. absurd (subst IsEntered a (answers_entered u d (after_entry u o s.detection (state_with_claim (claim_of d section mode) s))))))

  -- whoever is named as woken runs
  woken_runs :
      (t : State) (d section : ℕ) → Names (woken u s t) d section
      → dispatch_waits u t.claims d ≡ false
  woken_runs t d section h =
      let q : ℕ → Bool = λ x. dispatch_waits u s.claims x && not (dispatch_waits u t.claims x) in
      let named_so : ReportEntry → Bool = λ n. eqb n.dispatch d && eqb n.section section in
      let mapped_so = any_map (entry_of u s) named_so (filter q (numbers t.opened)) in
      let kept_so = any_kept_by q (λ x. named_so (entry_of u s x)) (numbers t.opened) in
      let found = any_witness (λ x. q x && named_so (entry_of u s x)) (numbers t.opened) (sym kept_so ∙ (sym mapped_so ∙ h)) in
      let parts = and_parts (q found.0) (named_so (entry_of u s found.0)) found.1 in
      let runs = (and_parts (dispatch_waits u s.claims found.0) (not (dispatch_waits u t.claims found.0)) parts.0).1 in
      let same = eqb-true found.0 d (and_parts (eqb found.0 d) (eqb (entry_of u s found.0).section section) parts.1).0 in
      subst (λ (x : ℕ). dispatch_waits u t.claims x ≡ false) same (not-true (dispatch_waits u t.claims found.0) runs)

  -- a use for which a claim waits is known, so it covers itself
  waiting_covers :
      (d section mode : ℕ) → claim_waits u s.claims d section mode ≡ true → u.cover mode mode ≡ true
  waiting_covers d section mode h =
      let there = any_wider (λ p. of d p.claim && (eqb p.claim.section section && (eqb p.claim.mode mode && waits u p))) (λ p. eqb p.claim.mode mode) (λ p k. grind (arith, k)) (in_line s.claims) h in
      let found = any_passes (λ c. u.known c.mode) (λ c. eqb c.mode mode) s.claims w.uses_known (sym (any_claims (λ c. eqb c.mode mode) [] s.claims) ∙ there) in
      laws.reflexive mode (grind (arith, nat_tests, found.1, found.2))

  -- whoever is named as woken is backed for the claim that waited
  woken_backed :
      (c : Call) (d section mode : ℕ) → Names (step u o s c).wakes d section
      → claim_waits u s.claims d section mode ≡ true → is_open (step u o s c).state d ≡ true
      → backed u (step u o s c).state.claims d section mode ≡ true
  unfolding step
  woken_backed c d section mode h waited here =
      let t = (step u o s c).state in
      backed_covered u t.claims d section mode (woken_runs t d section h)
      ((step_carries u o lawful s w c).covers d section mode here (covered_waiting u s.claims d section mode (waiting_covers d section mode waited) waited))

module _ (u : Relations) (laws : UseLaws u) (o : Order) (lawful : OrderLaws o) where
  -- the invariant holds at the end of every run
  pub run_invariant : (r : Run) → Invariant u (at u o r)
  run_invariant (start detection) = new_invariant u detection
  run_invariant (next r c) = step_invariant u laws o lawful (at u o r) (run_invariant r) c

  -- so it holds of every state to which a run leads
  pub led_invariant : (s : State) → HasRun u o s → Invariant u s
  led_invariant s led =
      let one : IsProp (Invariant u s) = hlevel (props) in
      ∥∥₁_elim led one (λ run. subst (Invariant u) run.1 (run_invariant run.0))

  -- what a call grants is backed after it
  grants_backed :
      (r : Run) (c : Call) (d section mode : ℕ) → Grants u o r c d section mode
      → is_open (at u o (next r c)) d ≡ true
      → backed u (at u o (next r c)).claims d section mode ≡ true
  grants_backed r c d section mode (by_grant e a) here =
      subst
      (λ (x : Call). (step u o (at u o r) x).answer ≡ answer_granted → is_open (step u o (at u o r) x).state d ≡ true → backed u (step u o (at u o r) x).state.claims d section mode ≡ true)
      (sym e) (granted_backed u laws o lawful (at u o r) (run_invariant r).well_formed d section mode) a here
  grants_backed r c d section mode (by_cover e a) here =
      subst
      (λ (x : Call). (step u o (at u o r) x).answer ≡ answer_covered → backed u (step u o (at u o r) x).state.claims d section mode ≡ true)
      (sym e) (covered_backed u laws o lawful (at u o r) (run_invariant r).well_formed d section mode) a
  grants_backed r c d section mode (by_wake n waited) here =
      woken_backed u laws o lawful (at u o r) (run_invariant r).well_formed c d section mode n waited here

  -- what was granted since opening is backed
  pub granted_since_backed :
      {r : Run} {d section mode : ℕ} → HasGrant u o r d section mode
      → backed u (at u o r).claims d section mode ≡ true
  granted_since_backed {d = d} {section = section} {mode = mode} (just_now {r = r} {c = c} g here) = grants_backed r c d section mode g here
  granted_since_backed {d = d} {section = section} {mode = mode} (before {r = r} {c = c} g here) =
      (step_carries u o lawful (at u o r) (run_invariant r).well_formed c).backs d section mode here (granted_since_backed g)

  -- exclusion, at the end of every run
  pub exclusion : (r : Run) → Exclusion u o r
  exclusion r d e section mode_d mode_e differ given_d given_e =
      backed_apart u (at u o r).claims d e section mode_d mode_e laws (ne_eqb d e differ) (granted_since_backed given_d) (granted_since_backed given_e)
