-- A call, step by step: refused or accepted, and if it looks for cycles, how.
use Rattle.std.proofs.Common.{◌≡◌, ℕ, ◌<◌, ◌≤◌, true, false, cond, ◌⊎◌, List, [], length, Some, None, Option, refl, subst, inl, inr, arith}
use Rattle.std.proofs.lemmas.Bool.{cond_both, false≢true}
use Rattle.std.proofs.lemmas.Bool.Decides.{nat_tests}
use Rattle.uses.specs.Relations.{Relations, UseLaws}
use Rattle.orders.specs.Laws.{OrderLaws}
use Rattle.model.specs.Claims.{without, waits_for, dispatch_waits, is_covered}
use Rattle.model.specs.State.{State, new, is_open, state_without, state_with_claim}
use Rattle.model.specs.Recalling.{Order, Recalled, recall_result}
-- the claim of a call, under the name that proofs above cite
pub use Rattle.model.specs.Calls.{claim_of as asked}
use Rattle.model.specs.Calls.{answer_granted, answer_covered, answer_waits, answer_recalled, answer_refused, checks, refusal, Effect, plain, claimed, claim_answer, is_named, after_entry, claim_of, accepted, effect_by, step}
use Rattle.model.specs.Invariant.{claim_in_range, WellFormed, Invariant}
use Rattle.model.specs.Law.{IsEntered, EntersClaim, once_entered}
use Rattle.model.specs.declared.call.Call.{Call}
use Rattle.model.specs.declared.call.Call.TheVariants as call
use Rattle.model.specs.declared.report.ReportEntry.{ReportEntry}
use Rattle.model.specs.declared.state.Detection.{Detection}
use Rattle.model.specs.declared.state.Detection.TheVariants.{Continuous, Periodic}
use Rattle.model.proofs.Graphs.{leads_wider, first_step}
use Rattle.model.proofs.ClaimLists.{waits_for_without}
use Rattle.model.proofs.Recalls.{Grounded, Recalls, done, next, recalling_recalls, recalls_clear, cycle_open}
use Rattle.model.proofs.Keeps.{new_kept, grounded, taken_out_kept, acknowledged_kept, opening_kept, entered_kept, recall_kept}

-- a call is refused, or passes all its checks
pub effect_cases :
    (u : Relations) (o : Order) (s : State) (c : Call) (P : Effect → Type 0)
    → ((n : ℕ) → refusal (checks u s c) ≡ Some n → P (plain s (answer_refused n)))
    → (refusal (checks u s c) ≡ None → P (accepted u o s c))
    → P (effect_by u o s c (refusal (checks u s c)))
effect_cases u o s c P refused passed = by_refusal (refusal (checks u s c)) refl
  where
    by_refusal : (v : Option ℕ) → refusal (checks u s c) ≡ v → P (effect_by u o s c v)
    by_refusal None e = passed e
    by_refusal (Some n) e = refused n e

-- a claim that is not refused is covered already, or is entered
pub claim_cases :
    (u : Relations) (o : Order) (s : State) (d section mode : ℕ) (P : Effect → Type 0)
    → (is_covered u s.claims d section mode ≡ true → P (plain s answer_covered))
    → (is_covered u s.claims d section mode ≡ false → P (claimed u d (after_entry u o s.detection (state_with_claim (claim_of d section mode) s))))
    → P (accepted u o s (call.Claim d section mode))
claim_cases u o s d section mode =
    cond_both (is_covered u s.claims d section mode) (plain s answer_covered) (claimed u d (after_entry u o s.detection (state_with_claim (claim_of d section mode) s)))

-- what a claim that is not refused has passed
pub record PassedClaim (u : Relations) (s : State) (d section mode : ℕ) : Type 0 where
  pub right : claim_in_range s (claim_of d section mode) ≡ true
  pub known : u.known mode ≡ true
  pub runs : dispatch_waits u s.claims d ≡ false
  pub room : is_covered u s.claims d section mode ≡ false → length s.claims < 512

pub passed_claim :
    (u : Relations) (s : State) (d section mode : ℕ)
    → refusal (checks u s (call.Claim d section mode)) ≡ None → PassedClaim u s d section mode
passed_claim u s d section mode h = record {
  right = grind (arith, nat_tests);
  known = grind (arith, nat_tests);
  runs = grind (arith, nat_tests);
  room = λ k. grind (arith, nat_tests);
}

-- what an opening that is not refused has passed
pub passed_opening :
    (u : Relations) (s : State) (d weight : ℕ) → refusal (checks u s (call.Open d weight)) ≡ None
    → (d < 64) × (weight ≤ 1000) × (s.recalled d ≡ false) × (is_open s d ≡ false)
passed_opening u s d weight h = (grind (arith, nat_tests), grind (arith, nat_tests), grind (arith, nat_tests), grind (arith, nat_tests))

-- the answer to a claim that was entered says so
pub answers_entered : (u : Relations) (d : ℕ) (r : Recalled) → IsEntered (claim_answer u d r)
answers_entered u d r =
    cond_both (is_named d r.recalls) answer_recalled (cond (dispatch_waits u r.state.claims d) answer_waits answer_granted) IsEntered (λ _. tt)
    (λ _. cond_both (dispatch_waits u r.state.claims d) answer_waits answer_granted IsEntered (λ _. tt) (λ _. tt))

-- recalling within a call keeps the state well formed
pub recalls_kept :
    (u : Relations) (o : Order) {s t : State} {ns : List ReportEntry} → Recalls u o s ns t
    → WellFormed u s → WellFormed u t
recalls_kept u o (done clear) w = w
recalls_kept u o {s} (next {n = n} cycle best rest) w =
    recalls_kept u o rest (recall_kept u s w n.dispatch (cycle_open u s (grounded u s w) n.dispatch cycle))

-- recalling within a call keeps the detection
pub recalls_detection :
    (u : Relations) (o : Order) {s t : State} {ns : List ReportEntry} → Recalls u o s ns t
    → t.detection ≡ s.detection
recalls_detection u o (done clear) = refl
recalls_detection u o (next cycle best rest) = recalls_detection u o rest

-- a call that looks for cycles recalls until none stands; any other recalls nobody
pub data Looked (u : Relations) (o : Order) (s : State) (c : Call) (e : Effect) : Type 0 where
  looks :
      Grounded (once_entered c s) → Recalls u o (once_entered c s) e.recalls e.state
      → (c ≡ call.Sweep) ⊎ ((s.detection ≡ Continuous) × EntersClaim c e.answer) → Looked u o s c e
  looks_not :
      e.recalls ≡ [] → (c ≡ call.Sweep → ⊥)
      → (s.detection ≡ Continuous → EntersClaim c e.answer → ⊥) → Looked u o s c e

-- a sweep is not refused
refused_sweep :
    (u : Relations) (s : State) (c : Call) (n : ℕ) → refusal (checks u s c) ≡ Some n
    → c ≡ call.Sweep → ⊥
refused_sweep u s c n h e = let none : ◌≡◌ {A = Option ℕ} None (Some n) = subst (λ (x : Call). refusal (checks u s x) ≡ Some n) e h in cc

-- a refused call enters no claim
refused_enters : (c : Call) (n : ℕ) → EntersClaim c (answer_refused n) → ⊥
refused_enters (call.Open d weight) n e = e
refused_enters (call.Claim d section mode) n e = e
refused_enters (call.Close d) n e = e
refused_enters (call.Withdraw d) n e = e
refused_enters (call.Acknowledge d) n e = e
refused_enters call.Sweep n e = e

module _ (u : Relations) (o : Order) (lawful : OrderLaws o) (s : State) (w : WellFormed u s) where
  -- the state with the claim entered is well formed
  pub entry_kept :
      (d section mode : ℕ) → PassedClaim u s d section mode
      → is_covered u s.claims d section mode ≡ false
      → WellFormed u (state_with_claim (claim_of d section mode) s)
  entry_kept d section mode passed new = entered_kept u s w (claim_of d section mode) passed.right passed.known passed.runs (passed.room new)

  -- a claim that is entered looks for cycles in a continuous book
  looked_after_entry :
      (d section mode : ℕ) → WellFormed u (state_with_claim (claim_of d section mode) s)
      → (detection : Detection) → s.detection ≡ detection
      → Looked u o s (call.Claim d section mode)
      (claimed u d (after_entry u o detection (state_with_claim (claim_of d section mode) s)))
  looked_after_entry d section mode kept Continuous is =
      let t = state_with_claim (claim_of d section mode) s in
      looks (grounded u t kept) (recalling_recalls u o lawful t (grounded u t kept)) (inr (is, answers_entered u d (recall_result u o t)))
  looked_after_entry d section mode kept Periodic is = looks_not refl (λ e. cc) (λ k e. cc)

  looked_accepted : (c : Call) → refusal (checks u s c) ≡ None → Looked u o s c (accepted u o s c)
  looked_accepted (call.Open d weight) h = looks_not refl (λ e. cc) (λ k e. e)
  looked_accepted (call.Claim d section mode) h =
      claim_cases u o s d section mode (Looked u o s (call.Claim d section mode)) (λ _. looks_not refl (λ e. cc) (λ k e. e))
      (λ new. looked_after_entry d section mode (entry_kept d section mode (passed_claim u s d section mode h) new) s.detection refl)
  looked_accepted (call.Close d) h = looks_not refl (λ e. cc) (λ k e. e)
  looked_accepted (call.Withdraw d) h = looks_not refl (λ e. cc) (λ k e. e)
  looked_accepted (call.Acknowledge d) h = looks_not refl (λ e. cc) (λ k e. e)
  looked_accepted call.Sweep h = looks (grounded u s w) (recalling_recalls u o lawful s (grounded u s w)) (inl refl)

  -- every call looks for cycles, or recalls nobody
  pub looks_or_recalls_nobody :
      (c : Call) → Looked u o s c (effect_by u o s c (refusal (checks u s c)))
  looks_or_recalls_nobody c = effect_cases u o s c (Looked u o s c) (λ n h. looks_not refl (refused_sweep u s c n h) (λ k. refused_enters c n)) (looked_accepted c)

  entry_detection :
      (t : State) → WellFormed u t → (detection : Detection)
      → (after_entry u o detection t).state.detection ≡ t.detection
  entry_detection t kept Continuous = recalls_detection u o (recalling_recalls u o lawful t (grounded u t kept))
  entry_detection t kept Periodic = refl

  accepted_detection :
      (c : Call) → refusal (checks u s c) ≡ None → (accepted u o s c).state.detection ≡ s.detection
  accepted_detection (call.Open d weight) h = refl
  accepted_detection (call.Claim d section mode) h =
      claim_cases u o s d section mode (λ e. e.state.detection ≡ s.detection) (λ _. refl)
      (λ new. entry_detection (state_with_claim (claim_of d section mode) s) (entry_kept d section mode (passed_claim u s d section mode h) new) s.detection)
  accepted_detection (call.Close d) h = refl
  accepted_detection (call.Withdraw d) h = refl
  accepted_detection (call.Acknowledge d) h = refl
  accepted_detection call.Sweep h = recalls_detection u o (recalling_recalls u o lawful s (grounded u s w))

  -- every call keeps the detection
  pub step_detection : (c : Call) → (step u o s c).state.detection ≡ s.detection
  unfolding step
  step_detection c = effect_cases u o s c (λ e. e.state.detection ≡ s.detection) (λ n h. refl) (accepted_detection c)

module _ (u : Relations) (laws : UseLaws u) (o : Order) (lawful : OrderLaws o) (s : State) (i : Invariant u s) where
  abbrev w : WellFormed u s
  w = i.well_formed

  -- after recalling, the state is well formed and no cycle stands
  recalling_invariant : (t : State) → WellFormed u t → Invariant u (recall_result u o t).state
  recalling_invariant t kept =
      let rs = recalling_recalls u o lawful t (grounded u t kept) in
      record { well_formed = recalls_kept u o rs kept; no_cycle = λ _. recalls_clear u o rs }

  entry_invariant :
      (t : State) → WellFormed u t → (detection : Detection) → t.detection ≡ detection
      → Invariant u (after_entry u o detection t).state
  entry_invariant t kept Continuous is = recalling_invariant t kept
  entry_invariant t kept Periodic is = record { well_formed = kept; no_cycle = λ e. cc }

  -- taking out leaves no cycle where none stood
  taken_out_invariant : (d : ℕ) → Invariant u (state_without d s)
  taken_out_invariant d = record {
    well_formed = taken_out_kept u s w d;
    no_cycle =
        λ e x cycle. i.no_cycle e x
        (leads_wider (waits_for u (without d s.claims)) (waits_for u s.claims) (λ a b h. grind (arith, h, waits_for_without u d s.claims a b)) cycle);
  }

  accepted_invariant :
      (c : Call) → refusal (checks u s c) ≡ None → Invariant u (accepted u o s c).state
  accepted_invariant (call.Open d weight) h =
      let passed = passed_opening u s d weight h in
      record { well_formed = opening_kept u s w d weight passed.0 passed.1 passed.2 passed.3; no_cycle = i.no_cycle }
  accepted_invariant (call.Claim d section mode) h =
      claim_cases u o s d section mode (λ e. Invariant u e.state) (λ _. i)
      (λ new. entry_invariant (state_with_claim (claim_of d section mode) s) (entry_kept u o lawful s w d section mode (passed_claim u s d section mode h) new) s.detection refl)
  accepted_invariant (call.Close d) h = taken_out_invariant d
  accepted_invariant (call.Withdraw d) h = taken_out_invariant d
  accepted_invariant (call.Acknowledge d) h = record { well_formed = acknowledged_kept u s w d; no_cycle = i.no_cycle }
  accepted_invariant call.Sweep h = recalling_invariant s w

  -- every call keeps the invariant
  pub step_invariant : (c : Call) → Invariant u (step u o s c).state
  unfolding step
  step_invariant c = effect_cases u o s c (λ e. Invariant u e.state) (λ n h. i) (accepted_invariant c)

-- the invariant holds of a new book
pub new_invariant : (u : Relations) (detection : Detection) → Invariant u (new detection)
new_invariant u detection = record {
  well_formed = new_kept u detection;
  no_cycle = λ e d cycle. let out = first_step (waits_for u []) cycle in false≢true out.1;
}
