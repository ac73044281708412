-- The examples of the law are right.
use Rattle.std.proofs.Common.{◌≡◌, ℕ, zero, suc, Bool, true, false, ◌&&◌, List, [], ◌∷◌, refl, sym, ◌∙◌, inl, inr, ⊎_elim, arith, rules}
use Rattle.std.proofs.lemmas.Bool.{false≢true, and_parts}
use Rattle.std.proofs.lemmas.Bool.Decides.{nat_tests}
use Rattle.uses.specs.Relations.{UseLaws}
use Rattle.uses.specs.TwoUses.{two_uses}
use Rattle.orders.specs.Laws.{OrderLaws}
use Rattle.orders.specs.Orders.{newest}
use Rattle.model.specs.Graph.{Leads, OnCycle, HasCycle, closure, Chain}
use Rattle.model.specs.Graph.Leads.{one, more}
use Rattle.model.specs.Claims.{waits_for}
use Rattle.model.specs.Recalling.{on_cycles, recall_result_within, recall_result}
use Rattle.model.specs.Calls.{claim_of, step}
use Rattle.model.specs.Runs.{start, next, at, Grants, by_grant, by_cover, by_wake, HasGrant, just_now, before}
use Rattle.model.specs.Law.{Exclusion, IsRunning, WaitsEnd, LawOf, Law}
use Rattle.model.specs.Examples.{look, move}
use Rattle.model.specs.LawExamples.{LawExamplesRight, two_docks_run, one_waits_run, two_stations_run, looked_at_run, two_wait_run, covered_run, one_sided, one_sided_run, deadlock, queue_of, behind_nobody, entry, outcome_recalling, changed_after, MayNotLeave, MayNotRecall, BreaksRecallWhen}
use Rattle.model.proofs.LawHolds.{law}
use Rattle.model.proofs.Graphs.{first_step, last_step}
use Rattle.model.proofs.Grants.{run_invariant}
use Rattle.model.specs.declared.call.Call.TheVariants.{Open, Claim, Close, Withdraw, Acknowledge, Sweep}
use Rattle.model.specs.declared.state.Claim.{Claim as ClaimEntry}
use Rattle.model.specs.declared.state.Detection.TheVariants.{Continuous, Periodic}

by_answer : HasGrant two_uses newest (two_stations_run Continuous) 1 10 move
unfolding step closure on_cycles recall_result_within recall_result
by_answer = before (before (before (just_now (by_grant refl refl) refl) refl) refl) refl

by_waking : HasGrant two_uses newest (two_stations_run Continuous) 1 11 move
unfolding step closure on_cycles recall_result_within recall_result
by_waking = let wakes : Grants two_uses newest (one_waits_run Continuous) (Claim 2 10 move) 1 11 move = by_wake refl refl in just_now wakes refl

by_covering : HasGrant two_uses newest covered_run 1 10 look
unfolding step closure on_cycles recall_result_within recall_result
by_covering = just_now (by_cover refl refl) refl

exclusion_broken : ¬ Exclusion one_sided newest one_sided_run
unfolding step closure on_cycles recall_result_within recall_result
exclusion_broken h =
    false≢true (sym (h 2 1 7 move look (λ e. omega (arith, e)) (just_now (by_grant refl refl) refl) (before (just_now (by_grant refl refl) refl) refl)))

once_broken : ¬ Law one_sided newest (next one_sided_run (Close 1))
once_broken h = exclusion_broken h.exclusion.0.1

by_closing : HasGrant two_uses newest (two_stations_run Periodic) 2 11 move
unfolding step closure on_cycles recall_result_within recall_result
by_closing = before (before (just_now (by_grant refl refl) refl) refl) refl

not_recalled : ¬ HasGrant two_uses newest (two_stations_run Continuous) 2 11 move
unfolding step closure on_cycles recall_result_within recall_result
not_recalled (just_now g stays) = false≢true stays
not_recalled (before g stays) = false≢true stays

laws : UseLaws two_uses
laws = search rules

order : OrderLaws newest
order = search rules

not_waiting : ¬ HasGrant two_uses newest (two_stations_run Periodic) 1 11 move
not_waiting h = false≢true (sym ((law two_uses laws newest order (two_stations_run Periodic)).exclusion.1 1 2 11 move move (λ e. omega (arith, e)) h by_closing))

-- 2, 1, 2, 1 and so on
abbrev around : ℕ → List ℕ
around zero = []
around (suc n) = 2 ∷ 1 ∷ around n

-- a chain that goes round and round
goes_round : (r : ℕ → ℕ → Bool) → r 1 2 ≡ true → r 2 1 ≡ true → (n : ℕ) → Chain r 1 (around n)
goes_round r there back zero = tt
goes_round r there back (suc n) = (there, (back, goes_round r there back n))

waits_go_on : ¬ WaitsEnd two_uses deadlock
unfolding step closure on_cycles recall_result_within recall_result
waits_go_on h = omega (arith, h.short 1 (around 40) (refl, goes_round (waits_for two_uses deadlock.claims) refl refl 40))

waiting : ¬ IsRunning two_uses (at two_uses newest (one_waits_run Continuous)) 1
unfolding step closure on_cycles recall_result_within recall_result
waiting h = false≢true (sym h.1)

-- the number before, the one before that, and so on to 0
abbrev below : ℕ → List ℕ
below zero = []
below (suc n) = n ∷ below n

-- the test whether numbers are a chain
abbrev is_chain : (ℕ → ℕ → Bool) → ℕ → List ℕ → Bool
is_chain r a [] = true
is_chain r a (b ∷ bs) = r a b && is_chain r b bs

chain_by_test : (r : ℕ → ℕ → Bool) (a : ℕ) (bs : List ℕ) → is_chain r a bs ≡ true → Chain r a bs
chain_by_test r a [] h = tt
chain_by_test r a (b ∷ bs) h = let parts = and_parts (r a b) (is_chain r b bs) h in (parts.0, chain_by_test r b bs parts.1)

too_long : MayNotLeave (start Continuous) Sweep (queue_of 65)
unfolding step closure on_cycles recall_result_within recall_result
too_long h = omega (arith, (h.progress.1 (inl refl)).short 64 (below 64) (refl, chain_by_test (waits_for two_uses (queue_of 65).claims) 64 (below 64) refl))

ends_nowhere : MayNotLeave (start Continuous) Sweep behind_nobody
unfolding step closure on_cycles recall_result_within recall_result
ends_nowhere h = false≢true ((h.progress.1 (inl refl)).ends_running 1 (2 ∷ []) (refl, (refl, tt)) (λ f. refl)).0

after_claim : MayNotLeave (one_waits_run Continuous) (Claim 2 10 move) deadlock
unfolding step closure on_cycles recall_result_within recall_result
after_claim h = waits_go_on (h.progress.1 (inl refl))

after_opening : MayNotLeave (one_waits_run Continuous) (Open 3 5) deadlock
unfolding step closure on_cycles recall_result_within recall_result
after_opening h = waits_go_on (h.progress.1 (inl refl))

after_sweep : MayNotLeave (two_stations_run Periodic) Sweep deadlock
after_sweep h = waits_go_on (h.progress.1 (inr refl))

-- no cycle stands at the end of the run in which only one waits
no_cycle : ¬ HasCycle (waits_for two_uses (at two_uses newest (one_waits_run Continuous)).claims)
unfolding step closure on_cycles recall_result_within recall_result
no_cycle cycle = (run_invariant two_uses laws newest order (one_waits_run Continuous)).no_cycle refl cycle.0 cycle.1

waits_alone : BreaksRecallWhen (two_docks_run Continuous) (Claim 1 11 move) (1 ∷ [])
unfolding step closure on_cycles recall_result_within recall_result
waits_alone h = no_cycle ((h.by_claim (refl, tt)).0 (λ e. cc))

-- the two stations are on a cycle
around_two : OnCycle (waits_for two_uses deadlock.claims) 2
unfolding step closure on_cycles recall_result_within recall_result
around_two = more {b = 1} refl (one refl)

closes_cycle : MayNotRecall (one_waits_run Continuous) (Claim 2 10 move) []
unfolding step closure on_cycles recall_result_within recall_result
closes_cycle h = (h.recall_when.1.by_claim (refl, tt)).1 (2, around_two) refl

sweeps_none : BreaksRecallWhen (one_waits_run Continuous) Sweep (1 ∷ [])
unfolding step closure on_cycles recall_result_within recall_result
sweeps_none h = no_cycle ((h.by_sweep refl).0 (λ e. cc))

sweeps_cycle : MayNotRecall (two_stations_run Periodic) Sweep []
sweeps_cycle h = (h.recall_when.1.by_sweep refl).1 (2, around_two) refl

periodic : Periodic ≡ Continuous → ⊥
periodic e = cc

too_early : MayNotRecall (one_waits_run Periodic) (Claim 2 10 move) (2 ∷ [])
unfolding step closure on_cycles recall_result_within recall_result
too_early h = ⊎_elim (λ e. cc) (λ entry. absurd (periodic entry.0)) (h.recall_when.1.by_no_other (λ e. cc))

opens : MayNotRecall (two_stations_run Periodic) (Open 3 5) (2 ∷ [])
unfolding step closure on_cycles recall_result_within recall_result
opens h = ⊎_elim (λ e. cc) (λ entry. entry.1) (h.recall_when.1.by_no_other (λ e. cc))

closes : MayNotRecall (next (two_stations_run Periodic) (Open 3 5)) (Close 3) (2 ∷ [])
unfolding step closure on_cycles recall_result_within recall_result
closes h = ⊎_elim (λ e. cc) (λ entry. entry.1) (h.recall_when.1.by_no_other (λ e. cc))

withdraws : MayNotRecall (two_stations_run Periodic) (Withdraw 1) (2 ∷ [])
unfolding step closure on_cycles recall_result_within recall_result
withdraws h = ⊎_elim (λ e. cc) (λ entry. entry.1) (h.recall_when.1.by_no_other (λ e. cc))

acknowledges : MayNotRecall (two_stations_run Periodic) (Acknowledge 3) (2 ∷ [])
unfolding step closure on_cycles recall_result_within recall_result
acknowledges h = ⊎_elim (λ e. cc) (λ entry. entry.1) (h.recall_when.1.by_no_other (λ e. cc))

covered : MayNotRecall (one_waits_run Continuous) (Claim 2 11 look) (2 ∷ [])
unfolding step closure on_cycles recall_result_within recall_result
covered h = ⊎_elim (λ e. cc) (λ entry. entry.1) (h.recall_when.1.by_no_other (λ e. cc))

-- the claims once 2 has claimed the section of 1, which waits for both lookers
abbrev looked_at : List ClaimEntry
looked_at =
    claim_of 1 10 move ∷ claim_of 2 11 look ∷ claim_of 3 11 look ∷ claim_of 1 11 move
    ∷ claim_of 2 10 move ∷ []

waits_for_nobody : (e : ℕ) → waits_for two_uses looked_at 3 e ≡ false
waits_for_nobody e = grind (arith, nat_tests)

before_cycle : MayNotRecall looked_at_run (Claim 2 10 move) (3 ∷ [])
unfolding step closure on_cycles recall_result_within recall_result
before_cycle h =
    let out = first_step (waits_for two_uses looked_at) (h.recall_whom.1 [] [] (entry 3) refl).on_cycle in
    false≢true (sym (waits_for_nobody out.0) ∙ out.1)

-- the claims once 2 has claimed the section of 1, and 3 waits behind both
abbrev two_wait : List ClaimEntry
two_wait =
    claim_of 1 10 move ∷ claim_of 2 11 move ∷ claim_of 1 11 move ∷ claim_of 3 11 look
    ∷ claim_of 2 10 move ∷ []

waited_for_by_nobody : (e : ℕ) → waits_for two_uses two_wait e 3 ≡ false
waited_for_by_nobody e = grind (arith, nat_tests)

behind_cycle : MayNotRecall two_wait_run (Claim 2 10 move) (3 ∷ [])
unfolding step closure on_cycles recall_result_within recall_result
behind_cycle h =
    let into = last_step (waits_for two_uses two_wait) (h.recall_whom.1 [] [] (entry 3) refl).on_cycle in
    false≢true (sym (waited_for_by_nobody into.0) ∙ into.1)

older : MayNotRecall (one_waits_run Continuous) (Claim 2 10 move) (1 ∷ [])
unfolding step closure on_cycles recall_result_within recall_result
older h = false≢true (sym ((h.recall_whom.1 [] [] (entry 1) refl).none_before 2 around_two))

one_more : MayNotRecall (one_waits_run Continuous) (Claim 2 10 move) (2 ∷ 1 ∷ [])
unfolding step closure on_cycles recall_result_within recall_result
one_more h = (run_invariant two_uses laws newest order (two_stations_run Continuous)).no_cycle refl 1 (h.recall_whom.1 (entry 2 ∷ []) [] (entry 1) refl).on_cycle

ever_since :
    ¬ LawOf two_uses newest
    (changed_after (one_waits_run Continuous) (outcome_recalling (one_waits_run Continuous) (Claim 2 10 move) (1 ∷ [])))
    (next (two_stations_run Continuous) (Open 3 5))
unfolding step closure on_cycles recall_result_within recall_result
ever_since h = false≢true (sym ((h.recall_whom.0.1 [] [] (entry 1) refl).none_before 2 around_two))

pub law_examples_right : LawExamplesRight
law_examples_right = record {
  grants = record {
    by_answer = by_answer;
    by_waking = by_waking;
    by_covering = by_covering;
    not_recalled = not_recalled;
    not_waiting = not_waiting;
    exclusion_broken = exclusion_broken;
    once_broken = once_broken;
  };
  waits = record {
    waiting = waiting;
    waits_go_on = waits_go_on;
    too_long = too_long;
    ends_nowhere = ends_nowhere;
    after_claim = after_claim;
    after_opening = after_opening;
    after_sweep = after_sweep;
  };
  recalls = record {
    waits_alone = waits_alone;
    closes_cycle = closes_cycle;
    sweeps_none = sweeps_none;
    sweeps_cycle = sweeps_cycle;
    too_early = too_early;
    opens = opens;
    closes = closes;
    withdraws = withdraws;
    acknowledges = acknowledges;
    covered = covered;
    before_cycle = before_cycle;
    behind_cycle = behind_cycle;
    older = older;
    one_more = one_more;
    ever_since = ever_since;
  };
}
