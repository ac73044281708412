-- What a call changes follows from its answer and from whom it recalls.
use Rattle.std.proofs.Common.{◌≡◌, ℕ, zero, suc, Bool, true, false, cond, not, ◌||◌, eqb, List, [], ◌∷◌, ◌++◌, length, Some, None, filter, Option, refl, ap, ◌∙◌, arith}
use Rattle.std.proofs.lemmas.Bool.Decides.{nat_tests}
use Rattle.std.proofs.lemmas.Bool.{cond_both}
use Rattle.uses.specs.Relations.{Relations}
use Rattle.model.specs.Claims.{without, dispatch_waits}
use Rattle.model.specs.State.{State, recall, entries_without, state_without, state_with_claim}
use Rattle.model.specs.Recalling.{Order, Recalled, nobody, entry_of, first, on_cycles, recall_and, recall_result_within, recall_result}
use Rattle.model.specs.Calls.{ModelAnswer, answer_ok, answer_covered, answer_granted, answer_waits, answer_recalled, answer_refused, is_named, claim_of, Effect, plain, swept, claimed, with_open, without_recalled, with_wakes, after_entry, accepted, step}
use Rattle.model.specs.Changes.{IsExactChange}
use Rattle.model.specs.Theorems.{ChangesExact}
use Rattle.model.specs.declared.call.Call.{Call}
use Rattle.model.specs.declared.call.Call.TheVariants as call
use Rattle.model.specs.declared.state.Detection.{Detection}
use Rattle.model.specs.declared.state.Detection.TheVariants.{Continuous, Periodic}
use Rattle.model.proofs.Steps.{effect_cases, claim_cases}

-- filters by tests that agree
same_filter : {X : Type 0} (p q : X → Bool) → ((x : X) → p x ≡ q x) → (xs : List X) → filter p xs ≡ filter q xs
same_filter p q same [] = refl
same_filter p q same (x ∷ xs) = grind (arith, same x, same_filter p q same xs)

-- a filter that all pass
filter_all : {X : Type 0} (p : X → Bool) → ((x : X) → p x ≡ true) → (xs : List X) → xs ≡ filter p xs
filter_all p all [] = refl
filter_all p all (x ∷ xs) = grind (arith, all x, filter_all p all xs)

-- nothing joins at the end
nothing_joins : {X : Type 0} (xs : List X) → xs ≡ xs ++ []
nothing_joins [] = refl
nothing_joins (x ∷ xs) = ap (λ ys. x ∷ ys) (nothing_joins xs)

-- without one, and then without others
filter_again : {X : Type 0} (key : X → ℕ) (d : ℕ) (out : ℕ → Bool) (xs : List X) → filter (λ x. not (out (key x))) (filter (λ x. not (eqb (key x) d)) xs) ≡ filter (λ x. not (eqb d (key x) || out (key x))) xs
filter_again key d out [] = refl
filter_again key d out (x ∷ xs) = grind (arith, nat_tests, filter_again key d out xs)

-- what recalling changes follows from whom it recalls
record ExactRecalls (s : State) (r : Recalled) : Type 0 where
  pub detection : r.state.detection ≡ s.detection
  pub opened : r.state.opened ≡ filter (λ e. not (is_named e.dispatch r.recalls)) s.opened
  pub claims : r.state.claims ≡ filter (λ b. not (is_named b.dispatch r.recalls)) s.claims
  pub recalled : (d : ℕ) → r.state.recalled d ≡ (is_named d r.recalls || s.recalled d)

recalls_nobody : (s : State) → ExactRecalls s (nobody s)
recalls_nobody s = record {
  detection = refl;
  opened = filter_all (λ e. not (is_named e.dispatch [])) (λ e. refl) s.opened;
  claims = filter_all (λ b. not (is_named b.dispatch [])) (λ b. refl) s.claims;
  recalled = λ d. refl;
}

module _ (u : Relations) where
  recalls_one : (s : State) (d : ℕ) (r : Recalled) → ExactRecalls (recall d s) r → ExactRecalls s (record { recalls = entry_of u s d ∷ r.recalls; state = r.state })
  recalls_one s d r rest = record {
    detection = rest.detection;
    opened = rest.opened ∙ filter_again (λ e. e.dispatch) d (λ n. is_named n r.recalls) s.opened;
    claims = rest.claims ∙ filter_again (λ b. b.dispatch) d (λ n. is_named n r.recalls) s.claims;
    recalled = λ e. grind (arith, nat_tests, rest.recalled e);
  }

module _ (u : Relations) (o : Order) where
  recalls_turn : (s : State) (again : State → Recalled) → ((d : ℕ) → ExactRecalls (recall d s) (again (recall d s))) → (v : Option ℕ) → ExactRecalls s (recall_and u again s v)
  recalls_turn s again rest None = recalls_nobody s
  recalls_turn s again rest (Some d) = recalls_one u s d (again (recall d s)) (rest d)

  recalls_within : (n : ℕ) (s : State) → ExactRecalls s (recall_result_within n u o s)
  unfolding recall_result_within
  recalls_within zero s = recalls_nobody s
  recalls_within (suc n) s = recalls_turn s (recall_result_within n u o) (λ d. recalls_within n (recall d s)) (first u o s (on_cycles u s))

  recalls_result : (s : State) → ExactRecalls s (recall_result u o s)
  unfolding recall_result
  recalls_result s = recalls_within (length s.opened) s

  recalls_after_entry : (detection : Detection) (s : State) → ExactRecalls s (after_entry u o detection s)
  recalls_after_entry Continuous s = recalls_result s
  recalls_after_entry Periodic s = recalls_nobody s

-- a list that nothing leaves and nothing joins
left_alone : {X : Type 0} (xs : List X) → xs ≡ filter (λ x. true) xs ++ []
left_alone xs = filter_all (λ x. true) (λ x. refl) xs ∙ nothing_joins (filter (λ x. true) xs)

-- claims that nothing leaves and nothing joins
claims_alone : {X : Type 0} (xs : List X) → xs ≡ filter (λ x. true) (xs ++ [])
claims_alone xs = nothing_joins xs ∙ filter_all (λ x. true) (λ x. refl) (xs ++ [])

module _ (u : Relations) (s : State) where
  -- what the effect changes follows from its answer and from whom it recalls
  abbrev ExactEffect : Call → Effect → Type 0
  ExactEffect c e = IsExactChange s c (with_wakes u s e)

  refused_exact : (c : Call) (n : ℕ) → ExactEffect c (plain s (answer_refused n))
  refused_exact c n = record { detection = refl; opened = left_alone s.opened; claims = claims_alone s.claims; recalled = λ d. refl }

  opening_exact : (d weight : ℕ) → ExactEffect (call.Open d weight) (plain (with_open d weight s) answer_ok)
  opening_exact d weight = record {
    detection = refl;
    opened = ap (λ es. es ++ record { dispatch = d; weight = weight } ∷ []) (filter_all (λ e. true) (λ e. refl) s.opened);
    claims = claims_alone s.claims;
    recalled = λ e. refl;
  }

  -- the tests by which a call that ends a dispatch takes out
  out_alone : (x d : ℕ) → not (eqb x d) ≡ not (eqb x d || false)
  out_alone x d = grind (arith, nat_tests)

  ended_opened : (d : ℕ) → entries_without d s.opened ≡ filter (λ e. not (eqb e.dispatch d || false)) s.opened ++ []
  ended_opened d = same_filter (λ e. not (eqb e.dispatch d)) (λ e. not (eqb e.dispatch d || false)) (λ e. out_alone e.dispatch d) s.opened ∙ nothing_joins (filter (λ e. not (eqb e.dispatch d || false)) s.opened)

  ended_claims : (d : ℕ) → without d s.claims ≡ filter (λ b. not (eqb b.dispatch d || false)) (s.claims ++ [])
  ended_claims d = same_filter (λ b. not (eqb b.dispatch d)) (λ b. not (eqb b.dispatch d || false)) (λ b. out_alone b.dispatch d) s.claims ∙ ap (filter (λ b. not (eqb b.dispatch d || false))) (nothing_joins s.claims)

  close_exact : (d : ℕ) → ExactEffect (call.Close d) (plain (state_without d s) answer_ok)
  close_exact d = record { detection = refl; opened = ended_opened d; claims = ended_claims d; recalled = λ e. refl }

  withdraw_exact : (d : ℕ) → ExactEffect (call.Withdraw d) (plain (state_without d s) answer_ok)
  withdraw_exact d = record { detection = refl; opened = ended_opened d; claims = ended_claims d; recalled = λ e. refl }

  acknowledge_exact : (d : ℕ) → ExactEffect (call.Acknowledge d) (plain (without_recalled d s) answer_ok)
  acknowledge_exact d = record { detection = refl; opened = left_alone s.opened; claims = claims_alone s.claims; recalled = λ e. refl }

  covered_exact : (c : Call) → ExactEffect c (plain s answer_covered)
  covered_exact c = record { detection = refl; opened = left_alone s.opened; claims = claims_alone s.claims; recalled = λ d. refl }

  swept_exact : (r : Recalled) → ExactRecalls s r → ExactEffect call.Sweep (swept r)
  swept_exact r does = record {
    detection = does.detection;
    opened = does.opened ∙ nothing_joins (filter (λ e. not (is_named e.dispatch r.recalls)) s.opened);
    claims = does.claims ∙ ap (filter (λ b. not (is_named b.dispatch r.recalls))) (nothing_joins s.claims);
    recalled = does.recalled;
  }

  module _ (d section mode : ℕ) (r : Recalled) (does : ExactRecalls (state_with_claim (claim_of d section mode) s) r) where
    -- what a claim that is entered leaves, with an answer
    abbrev with_answer : ModelAnswer → Effect
    with_answer a = record { state = r.state; answer = a; recalls = r.recalls }

    opened_kept : r.state.opened ≡ filter (λ e. not (is_named e.dispatch r.recalls)) s.opened ++ []
    opened_kept = does.opened ∙ nothing_joins (filter (λ e. not (is_named e.dispatch r.recalls)) s.opened)

    entered_exact : ExactEffect (call.Claim d section mode) (claimed u d r)
    entered_exact =
        cond_both (is_named d r.recalls) answer_recalled (cond (dispatch_waits u r.state.claims d) answer_waits answer_granted) (λ a. ExactEffect (call.Claim d section mode) (with_answer a))
        (λ _. record { detection = does.detection; opened = opened_kept; claims = does.claims; recalled = does.recalled })
        (λ _. cond_both (dispatch_waits u r.state.claims d) answer_waits answer_granted (λ a. ExactEffect (call.Claim d section mode) (with_answer a))
        (λ _. record { detection = does.detection; opened = opened_kept; claims = does.claims; recalled = does.recalled })
        (λ _. record { detection = does.detection; opened = opened_kept; claims = does.claims; recalled = does.recalled }))

module _ (u : Relations) (o : Order) (s : State) where
  accepted_exact : (c : Call) → ExactEffect u s c (accepted u o s c)
  accepted_exact (call.Open d weight) = opening_exact u s d weight
  accepted_exact (call.Claim d section mode) =
      claim_cases u o s d section mode (ExactEffect u s (call.Claim d section mode)) (λ _. covered_exact u s (call.Claim d section mode))
      (λ _. let t = state_with_claim (claim_of d section mode) s in entered_exact u s d section mode (after_entry u o s.detection t) (recalls_after_entry u o s.detection t))
  accepted_exact (call.Close d) = close_exact u s d
  accepted_exact (call.Withdraw d) = withdraw_exact u s d
  accepted_exact (call.Acknowledge d) = acknowledge_exact u s d
  accepted_exact call.Sweep = swept_exact u s (recall_result u o s) (recalls_result u o s)

-- what a call changes follows from its answer and from whom it recalls
pub changes_exact : ChangesExact
unfolding step
changes_exact u o s c = effect_cases u o s c (ExactEffect u s c) (λ n h. refused_exact u s c n) (λ h. accepted_exact u o s c)
