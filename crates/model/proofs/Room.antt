-- When a claim is refused for want of room, and when it is answered covered.
use Rattle.std.proofs.Common.{◌≡◌, ℕ, List, [], ◌∷◌, ◌++◌, true, false, if◌then◌else◌, length, refl, ◌∙◌, Some, None, Option, ap, subst, arith}
use Rattle.std.proofs.lemmas.Bool.Decides.{nat_tests}
use Rattle.uses.specs.Relations.{Relations}
use Rattle.model.specs.Claims.{is_covered}
use Rattle.model.specs.State.{State, state_with_claim}
use Rattle.model.specs.Recalling.{Order}
use Rattle.model.specs.Calls.{ModelAnswer, Check, answer_covered, entry_checks, no_room, plain, claimed, answer_refused, Effect, after_entry, claim_of, accepted, effect_by, step, refusal, checks}
use Rattle.model.specs.Law.{IsEntered}
use Rattle.model.specs.Theorems.{RefusedWhenFull, CoveredExact}
use Rattle.model.proofs.Steps.{effect_cases, claim_cases, answers_entered}
use Rattle.model.specs.declared.call.Call.TheVariants.{Claim}

-- the answer is a refusal by 9
abbrev Nine : ModelAnswer → Type 0
Nine a = a ≡ answer_refused 9

-- a claim that passes the checks is not refused
accepted_answered :
    (u : Relations) (o : Order) (s : State) (d section mode : ℕ)
    → Nine (accepted u o s (Claim d section mode)).answer → ⊥
accepted_answered u o s d section mode =
    claim_cases u o s d section mode (λ (e : Effect). Nine e.answer → ⊥) (λ _ e. cc)
    (λ _ e. subst IsEntered e (answers_entered u d (after_entry u o s.detection (state_with_claim (claim_of d section mode) s))))

-- so the first check that applies is the one of number 9
nine_applies :
    (u : Relations) (o : Order) (s : State) (d section mode : ℕ) (found : Option ℕ)
    → Nine (effect_by u o s (Claim d section mode) found).answer → found ≡ Some 9
nine_applies u o s d section mode None e = absurd (accepted_answered u o s d section mode e)
nine_applies u o s d section mode (Some n) e = let same : n ≡ 9 = grind (arith, e) in ap (λ (k : ℕ). Some k) same

-- checks that do not apply let those behind them decide
refusal_behind : (cs ds : List Check) → refusal cs ≡ None → refusal (cs ++ ds) ≡ refusal ds
refusal_behind [] ds h = refl
refusal_behind (c ∷ cs) ds h = grind (arith, h, refusal_behind cs ds)

module _ (u : Relations) (o : Order) (s : State) (d section mode : ℕ) where
  -- the answer where the checks end so
  abbrev answer_after : Option ℕ → ModelAnswer
  answer_after found = (effect_by u o s (Claim d section mode) found).answer

  -- past the other checks, a claim that is not covered is refused where 512 stand
  refused_full :
      refusal (entry_checks u s d section mode) ≡ None → length s.claims ≡ 512
      → is_covered u s.claims d section mode ≡ false
      → answer_after (refusal (checks u s (Claim d section mode))) ≡ answer_refused 9
  refused_full h full new =
      let last : refusal (no_room u s d section mode ∷ []) ≡ Some 9 = grind (arith, nat_tests, full, new) in
      ap answer_after (refusal_behind (entry_checks u s d section mode) (no_room u s d section mode ∷ []) h ∙ last)

  -- past the other checks, a claim that is covered is answered so
  answered_covered :
      refusal (entry_checks u s d section mode) ≡ None
      → is_covered u s.claims d section mode ≡ true
      → answer_after (refusal (checks u s (Claim d section mode))) ≡ answer_covered
  answered_covered h old =
      let last : refusal (no_room u s d section mode ∷ []) ≡ None = grind (arith, nat_tests, old) in
      ap answer_after (refusal_behind (entry_checks u s d section mode) (no_room u s d section mode ∷ []) h ∙ last)
      ∙ ap (λ b. (if b then plain s answer_covered else claimed u d (after_entry u o s.detection (state_with_claim (claim_of d section mode) s))).answer) old

  -- what is answered covered has passed the other checks, and is covered
  abbrev IsCovered : Effect → Type 0
  IsCovered e =
      e.answer ≡ answer_covered
      → (refusal (entry_checks u s d section mode) ≡ None)
      × (is_covered u s.claims d section mode ≡ true)

  covered_before : IsCovered (effect_by u o s (Claim d section mode) (refusal (checks u s (Claim d section mode))))
  covered_before =
      effect_cases u o s (Claim d section mode) IsCovered (λ n h e. cc)
      (λ h. claim_cases u o s d section mode IsCovered (λ old e. (grind (arith, nat_tests, h), old))
      (λ new e. absurd (subst IsEntered e (answers_entered u d (after_entry u o s.detection (state_with_claim (claim_of d section mode) s))))))

-- a claim is refused by 9 exactly where no other check applies, 512 claims stand and none covers it
pub refused_when_full : RefusedWhenFull
unfolding step
refused_when_full u o s i d section mode = (
  λ e.
      let found = nine_applies u o s d section mode (refusal (checks u s (Claim d section mode))) e in
      (grind (arith, nat_tests, found), grind (arith, nat_tests, found, i.well_formed.consistent.few_claims), grind (arith, nat_tests, found)),
  λ h. refused_full u o s d section mode h.0 h.1 h.2,
)

-- a claim is answered covered exactly where no check but the last applies and a claim covers it
pub covered_exact : CoveredExact
unfolding step
covered_exact u o s d section mode = (covered_before u o s d section mode, λ h. answered_covered u o s d section mode h.0 h.1)
