-- A call is refused exactly when a check applies, and then changes nothing.
use Rattle.std.proofs.Common.{◌≡◌, ℕ, ◌↔◌, Some, None, Option, refl, subst}
use Rattle.uses.specs.Relations.{Relations}
use Rattle.model.specs.State.{State, state_with_claim}
use Rattle.model.specs.Recalling.{Order}
use Rattle.model.specs.Calls.{answer_refused, checks, refusal, after_entry, claim_of, accepted, effect_by, with_wakes, step}
use Rattle.model.specs.Law.{IsEntered}
use Rattle.model.specs.Theorems.{ChangesNothing}
use Rattle.model.specs.declared.call.Call.{Call}
use Rattle.model.specs.declared.call.Call.TheVariants as call
use Rattle.model.proofs.Steps.{claim_cases, answers_entered}
use Rattle.model.proofs.Wakes.{woken_same}

module _ (u : Relations) (o : Order) (s : State) where
  -- a call that passes its checks is not answered by a refusal
  accepted_answers : (c : Call) (n : ℕ) → (accepted u o s c).answer ≡ answer_refused n → ⊥
  accepted_answers (call.Open d weight) n h = cc
  accepted_answers (call.Claim d section mode) n h =
      claim_cases u o s d section mode (λ e. e.answer ≡ answer_refused n → ⊥) (λ k h. cc)
      (λ k h. subst IsEntered h (answers_entered u d (after_entry u o s.detection (state_with_claim (claim_of d section mode) s)))) h
  accepted_answers (call.Close d) n h = cc
  accepted_answers (call.Withdraw d) n h = cc
  accepted_answers (call.Acknowledge d) n h = cc
  accepted_answers call.Sweep n h = cc

  module _ (c : Call) (n : ℕ) where
    -- by the verdict of the checks
    by_verdict : (v : Option ℕ) → ((effect_by u o s c v).answer ≡ answer_refused n ↔ v ≡ Some n)
    by_verdict None = (λ h. absurd (accepted_answers c n h), λ h. cc)
    by_verdict (Some m) = (λ h. cc, λ h. cc)

    -- what is left where a check applies
    left_by : (v : Option ℕ) → v ≡ Some n → ChangesNothing s (with_wakes u s (effect_by u o s c v))
    left_by None h = let clash : ◌≡◌ {A = Option ℕ} None (Some n) = h in cc
    left_by (Some m) h = record { left = refl; recalls = refl; wakes = woken_same u s s refl }

    -- a call is refused exactly when a check applies, by the number of the first that does
    pub refused_by_first : ((step u o s c).answer ≡ answer_refused n ↔ refusal (checks u s c) ≡ Some n)
    unfolding step
    refused_by_first = by_verdict (refusal (checks u s c))

    -- a refused call changes nothing
    pub refused_changes_nothing : (step u o s c).answer ≡ answer_refused n → ChangesNothing s (step u o s c)
    unfolding step
    refused_changes_nothing h = left_by (refusal (checks u s c)) (refused_by_first.0 h)
