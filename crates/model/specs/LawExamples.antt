-- What the law says of given runs, and what breaks it: a lawless table, and calls that leave a
-- state or recall dispatches that they should not. They can be checked by hand.
use Rattle.std.specs.Prelude.{ℕ, suc, if◌then◌else◌, ◌&&◌, ◌||◌, List, [], ◌∷◌, map, ◌==◌}
use Rattle.std.specs.List.{range_with_len}
use Rattle.uses.specs.Relations.{Relations}
use Rattle.uses.specs.TwoUses.{two_uses}
use Rattle.orders.specs.Orders.{newest}
use Rattle.model.specs.State.{State, new}
use Rattle.model.specs.Calls.{Outcome, claim_of}
use Rattle.model.specs.Runs.{Run, start, next, at, outcome, HasGrant}
use Rattle.model.specs.Law.{Exclusion, IsRunning, WaitsEnd, RecallWhen, LawOf, Law}
use Rattle.model.specs.Examples.{look, move}
use Rattle.model.specs.declared.call.Call.{Call}
use Rattle.model.specs.declared.call.Call.TheVariants.{Open, Claim, Close, Withdraw, Acknowledge, Sweep}
use Rattle.model.specs.declared.report.ReportEntry.{ReportEntry}
use Rattle.model.specs.declared.state.Detection.{Detection}
use Rattle.model.specs.declared.state.Detection.TheVariants.{Continuous, Periodic}

-- two open dispatches
abbrev pub two_open_run : Detection → Run
two_open_run detection = next (next (start detection) (Open 1 5)) (Open 2 5)

-- two stations, each with its own dock
abbrev pub two_docks_run : Detection → Run
two_docks_run detection = next (next (two_open_run detection) (Claim 1 10 move)) (Claim 2 11 move)

-- and then the one claims the other's
abbrev pub one_waits_run : Detection → Run
one_waits_run detection = next (two_docks_run detection) (Claim 1 11 move)

-- and then the other claims that of the one
abbrev pub two_stations_run : Detection → Run
two_stations_run detection = next (one_waits_run detection) (Claim 2 10 move)

-- a look is granted, and then covered by the move that was granted before it
abbrev pub covered_run : Run
covered_run = next (next (next (start Continuous) (Open 1 5)) (Claim 1 10 move)) (Claim 1 10 look)

-- a table that lacks a law: who moves keeps out who looks, but not the other way round
abbrev pub one_sided : Relations
one_sided = record {
  known = λ a. a == look || a == move;
  conflict = λ a b. a == move && b == look;
  cover = λ a b. (a == look || a == move) && a == b;
}

-- over that table, a move is granted beside a look
abbrev pub one_sided_run : Run
one_sided_run = next (next (two_open_run Continuous) (Claim 1 7 look)) (Claim 2 7 move)

-- who was granted what, and where exclusion is broken
pub record GrantsRight : Type 0 where
  -- granted by the answer, and held since
  pub by_answer : HasGrant two_uses newest (two_stations_run Continuous) 1 10 move
  -- granted by being woken
  pub by_waking : HasGrant two_uses newest (two_stations_run Continuous) 1 11 move
  -- granted since it is covered
  pub by_covering : HasGrant two_uses newest covered_run 1 10 look
  -- who was recalled has nothing granted any more
  pub not_recalled : ¬ HasGrant two_uses newest (two_stations_run Continuous) 2 11 move
  -- who waits has not been granted what it waits for
  pub not_waiting : ¬ HasGrant two_uses newest (two_stations_run Periodic) 1 11 move
  -- exclusion is broken where conflict is not symmetric
  pub exclusion_broken : ¬ Exclusion one_sided newest one_sided_run
  -- and the law with it, though at the end of the run one of the two is closed
  pub once_broken : ¬ Law one_sided newest (next one_sided_run (Close 1))

-- how many calls a run has
abbrev pub calls_of : Run → ℕ
calls_of (start detection) = 0
calls_of (next r c) = suc (calls_of r)

-- every call gives what it should, but the one after the run gives x
abbrev pub changed_after : Run → Outcome → Run → Call → Outcome
changed_after r x before c =
    if calls_of before == calls_of r then x else outcome two_uses newest before c

-- the law is broken where the call after the run gives x
abbrev pub IsBroken : Run → Call → Outcome → Type 0
IsBroken r c x = ¬ LawOf two_uses newest (changed_after r x) (next r c)

-- what the call after the run gives, but that it leaves the state
abbrev pub outcome_leaving : Run → Call → State → Outcome
outcome_leaving r c s = record (outcome two_uses newest r c) { state = s }

-- each of the two stations waits for the other
abbrev pub deadlock : State
deadlock = at two_uses newest (two_stations_run Periodic)

-- dispatches 0, 1, 2 and so on have all claimed one section, so that each waits for all before it
abbrev pub queue_of : ℕ → State
queue_of n = record (new Continuous) {
  opened = map (λ d. record { dispatch = d; weight = 5 }) (range_with_len 0 n);
  claims = map (λ d. claim_of d 7 move) (range_with_len 0 n);
}

-- 1 waits for 2, which has a claim and is not open
abbrev pub behind_nobody : State
behind_nobody = record (new Continuous) {
  opened = record { dispatch = 1; weight = 5 } ∷ [];
  claims = claim_of 2 7 move ∷ claim_of 1 7 move ∷ [];
}

-- the law is broken where the call after the run leaves the state
abbrev pub MayNotLeave : Run → Call → State → Type 0
MayNotLeave r c s = IsBroken r c (outcome_leaving r c s)

-- where waits do not end, and after which calls they have to
pub record WaitsRight : Type 0 where
  -- who waits does not run
  pub waiting : ¬ IsRunning two_uses (at two_uses newest (one_waits_run Continuous)) 1
  -- waits do not end where a cycle stands
  pub waits_go_on : ¬ WaitsEnd two_uses deadlock
  -- a chain of 64 steps, in a queue of 65, is too long
  pub too_long : MayNotLeave (start Continuous) Sweep (queue_of 65)
  -- a chain may not end at one that is not open
  pub ends_nowhere : MayNotLeave (start Continuous) Sweep behind_nobody
  -- a claim to a continuous book may not leave a deadlock
  pub after_claim : MayNotLeave (one_waits_run Continuous) (Claim 2 10 move) deadlock
  -- nor may any other call to it
  pub after_opening : MayNotLeave (one_waits_run Continuous) (Open 3 5) deadlock
  -- nor may a sweep of a periodic book
  pub after_sweep : MayNotLeave (two_stations_run Periodic) Sweep deadlock

-- the dispatch, named as recalled; the law says nothing of its section
abbrev pub entry : ℕ → ReportEntry
entry d = record { dispatch = d; section = 10 }

-- what the call after the run gives, but that it recalls the dispatches
abbrev pub outcome_recalling : Run → Call → List ℕ → Outcome
outcome_recalling r c ds = record (outcome two_uses newest r c) { recalls = map entry ds }

-- the law is broken where the call after the run recalls the dispatches
abbrev pub MayNotRecall : Run → Call → List ℕ → Type 0
MayNotRecall r c ds = IsBroken r c (outcome_recalling r c ds)

-- the rule of when to recall is broken where the call after the run recalls the dispatches
abbrev pub BreaksRecallWhen : Run → Call → List ℕ → Type 0
BreaksRecallWhen r c ds = ¬ RecallWhen two_uses (at two_uses newest r) c (outcome_recalling r c ds)

-- 1 moves on 10, 2 and 3 look at 11, and 1 waits to move there, for both
abbrev pub looked_at_run : Run
looked_at_run =
    next (next (next (next (next (two_open_run Continuous) (Open 3 5)) (Claim 1 10 move))
    (Claim 2 11 look)) (Claim 3 11 look)) (Claim 1 11 move)

-- 1 waits for 2, and 3 for both
abbrev pub two_wait_run : Run
two_wait_run = next (next (one_waits_run Continuous) (Open 3 5)) (Claim 3 11 look)

-- where the rule of when, or of whom, to recall is broken
pub record RecallsRight : Type 0 where
  -- a claim that only waits may not recall the claimant
  pub waits_alone : BreaksRecallWhen (two_docks_run Continuous) (Claim 1 11 move) (1 ∷ [])
  -- a claim that closes a cycle has to recall somebody
  pub closes_cycle : MayNotRecall (one_waits_run Continuous) (Claim 2 10 move) []
  -- a sweep may not recall anybody where no cycle stands
  pub sweeps_none : BreaksRecallWhen (one_waits_run Continuous) Sweep (1 ∷ [])
  -- a sweep has to recall somebody where one stands
  pub sweeps_cycle : MayNotRecall (two_stations_run Periodic) Sweep []
  -- a claim to a periodic book that closes a cycle leaves it to a sweep
  pub too_early : MayNotRecall (one_waits_run Periodic) (Claim 2 10 move) (2 ∷ [])
  -- and so does every other call to it
  pub opens : MayNotRecall (two_stations_run Periodic) (Open 3 5) (2 ∷ [])
  pub closes : MayNotRecall (next (two_stations_run Periodic) (Open 3 5)) (Close 3) (2 ∷ [])
  pub withdraws : MayNotRecall (two_stations_run Periodic) (Withdraw 1) (2 ∷ [])
  pub acknowledges : MayNotRecall (two_stations_run Periodic) (Acknowledge 3) (2 ∷ [])
  -- a claim that is covered is not entered, and recalls nobody
  pub covered : MayNotRecall (one_waits_run Continuous) (Claim 2 11 look) (2 ∷ [])
  -- the newest may not be recalled where it runs, and one that is on the cycle waits for it
  pub before_cycle : MayNotRecall looked_at_run (Claim 2 10 move) (3 ∷ [])
  -- nor where it waits for those on the cycle, and is not on it
  pub behind_cycle : MayNotRecall two_wait_run (Claim 2 10 move) (3 ∷ [])
  -- nor may the older of two that are on one
  pub older : MayNotRecall (one_waits_run Continuous) (Claim 2 10 move) (1 ∷ [])
  -- nor may the older one after the newer one, since the cycle is gone
  pub one_more : MayNotRecall (one_waits_run Continuous) (Claim 2 10 move) (2 ∷ 1 ∷ [])
  -- and the law stays broken when a call follows
  pub ever_since :
      ¬ LawOf two_uses newest
      (changed_after (one_waits_run Continuous)
      (outcome_recalling (one_waits_run Continuous) (Claim 2 10 move) (1 ∷ [])))
      (next (two_stations_run Continuous) (Open 3 5))

-- the examples of the law are right
pub record LawExamplesRight : Type 0 where
  pub grants : GrantsRight
  pub waits : WaitsRight
  pub recalls : RecallsRight
