-- The six calls: what each answers, whom it recalls and wakes, and the state it leaves.
-- `u` is the meaning of the use table, `o` that of the recall order.
use Rattle.std.specs.Prelude.{ℕ, Bool, if◌then◌else◌, not, ◌&&◌, List, [], ◌∷◌, ◌++◌, map, length, Some, None, filter, Option, ◌==◌, nat_eq, nat_le, nat_lt}
use Rattle.std.specs.List.{list_any}
use Rattle.uses.specs.Relations.{Relations}
use Rattle.model.specs.Claims.{dispatch_waits, is_covered}
use Rattle.model.specs.State.{State, numbers, is_open, is_free, state_without, state_with_claim}
use Rattle.model.specs.Recalling.{Order, entry_of, Recalled, nobody, recall_result}
pub use Rattle.model.specs.Report.{places, report_of}
use Rattle.model.specs.declared.call.Call.{Call}
use Rattle.model.specs.declared.call.Call.TheVariants as call
use Rattle.model.specs.declared.limits.TheConstants.{DISPATCHES, SECTIONS, CLAIMS, HEAVIEST}
use Rattle.model.specs.declared.report.ReportEntry.{ReportEntry}
use Rattle.model.specs.declared.report.Report.{Report}
use Rattle.model.specs.declared.state.Claim.{Claim}
use Rattle.model.specs.declared.state.Detection.{Detection}
use Rattle.model.specs.declared.state.Detection.TheVariants.{Continuous, Periodic}

-- what a call answers; a refusal has its number
pub data ModelAnswer : Type 0 where
  answer_ok : ModelAnswer
  answer_granted : ModelAnswer
  answer_covered : ModelAnswer
  answer_waits : ModelAnswer
  answer_recalled : ModelAnswer
  answer_refused : ℕ → ModelAnswer

-- a check: whether it applies, and the number of its refusal
abbrev pub Check : Type 0
Check = Bool × ℕ

-- 1: the dispatch number is above 63
abbrev pub number_too_high : ℕ → Check
number_too_high d = (nat_le DISPATCHES d, 1)

-- 2: the section is above 1023
abbrev pub section_too_high : ℕ → Check
section_too_high section = (nat_le SECTIONS section, 2)

-- 3: the use is unknown
abbrev pub unknown_use : Relations → ℕ → Check
unknown_use u mode = (not (u.known mode), 3)

-- 4: the weight is above 1000
abbrev pub weight_too_high : ℕ → Check
weight_too_high weight = (nat_lt HEAVIEST weight, 4)

-- 5: the dispatch is recalled
abbrev pub recalled_already : State → ℕ → Check
recalled_already s d = (s.recalled d, 5)

-- 6: the dispatch is open
abbrev pub open_already : State → ℕ → Check
open_already s d = (is_open s d, 6)

-- 7: the dispatch is free
abbrev pub free_already : State → ℕ → Check
free_already s d = (is_free s d, 7)

-- 8: the dispatch waits
abbrev pub waiting_already : Relations → State → ℕ → Check
waiting_already u s d = (dispatch_waits u s.claims d, 8)

-- 9: 512 claims stand and the new one is not covered
abbrev pub no_room : Relations → State → ℕ → ℕ → ℕ → Check
no_room u s d section mode =
    (nat_le CLAIMS (length s.claims) && not (is_covered u s.claims d section mode), 9)

-- 10: the dispatch is not recalled
abbrev pub not_recalled : State → ℕ → Check
not_recalled s d = (not (s.recalled d), 10)

-- the checks of an opening, in the order of their numbers, as below
abbrev pub open_checks : State → ℕ → ℕ → List Check
open_checks s d weight =
    number_too_high d ∷ weight_too_high weight ∷ recalled_already s d ∷ open_already s d ∷ []

-- the checks of a withdrawal
abbrev pub withdraw_checks : State → ℕ → List Check
withdraw_checks s d = number_too_high d ∷ recalled_already s d ∷ free_already s d ∷ []

-- the checks of an acknowledgement
abbrev pub acknowledge_checks : State → ℕ → List Check
acknowledge_checks s d = number_too_high d ∷ not_recalled s d ∷ []

module _ (u : Relations) (s : State) where
  -- the checks of a claim but the last, which is for room
  abbrev pub entry_checks : ℕ → ℕ → ℕ → List Check
  entry_checks d section mode =
      number_too_high d ∷ section_too_high section ∷ unknown_use u mode
      ∷ recalled_already s d ∷ free_already s d ∷ waiting_already u s d ∷ []

  -- the checks of a claim
  abbrev pub claim_checks : ℕ → ℕ → ℕ → List Check
  claim_checks d section mode = entry_checks d section mode ++ no_room u s d section mode ∷ []

  -- the checks of a close
  abbrev pub close_checks : ℕ → List Check
  close_checks d =
      number_too_high d ∷ recalled_already s d ∷ free_already s d ∷ waiting_already u s d ∷ []

  -- the checks of each call; a sweep has none
  abbrev pub checks : Call → List Check
  checks (call.Open d weight) = open_checks s d weight
  checks (call.Claim d section mode) = claim_checks d section mode
  checks (call.Close d) = close_checks d
  checks (call.Withdraw d) = withdraw_checks s d
  checks (call.Acknowledge d) = acknowledge_checks s d
  checks call.Sweep = []

-- the number of the first check that applies
abbrev pub refusal : List Check → Option ℕ
refusal [] = None
refusal (c ∷ cs) = if c.0 then Some c.1 else refusal cs

-- what a call does: its answer, who is recalled, in order of recall, and the state left
pub record Effect : Type 0 where
  pub state : State
  pub answer : ModelAnswer
  pub recalls : List ReportEntry

-- a state and an answer, and nobody is recalled
abbrev pub plain : State → ModelAnswer → Effect
plain s a = record { state = s; answer = a; recalls = [] }

-- recalling, and ok
abbrev pub swept : Recalled → Effect
swept r = record { state = r.state; answer = answer_ok; recalls = r.recalls }

-- the dispatch joins the end of the open list
abbrev pub with_open : ℕ → ℕ → State → State
with_open d weight s =
    record s { opened = s.opened ++ record { dispatch = d; weight = weight } ∷ [] }

-- the dispatch leaves the recalled set
abbrev pub without_recalled : ℕ → State → State
without_recalled d s = record s { recalled = λ e. not (e == d) && s.recalled e }

-- the dispatch is among the named
abbrev pub is_named : ℕ → List ReportEntry → Bool
is_named d ns = list_any (λ n. nat_eq n.dispatch d) ns

-- the claim of a dispatch on a section for a use
abbrev pub claim_of : ℕ → ℕ → ℕ → Claim
claim_of d section mode = record { dispatch = d; section = section; mode = mode }

-- all that a call gives
pub record Outcome : Type 0 where
  pub state : State
  pub answer : ModelAnswer
  pub recalls : List ReportEntry
  pub wakes : List ReportEntry

-- the report of a call
abbrev pub report : Outcome → Report
report x = report_of x.recalls x.wakes

module _ (u : Relations) where
  -- what a claimant is told: that it was recalled, else that it waits, else that it is granted
  abbrev pub claim_answer : ℕ → Recalled → ModelAnswer
  claim_answer d r =
      if is_named d r.recalls then answer_recalled
      else if dispatch_waits u r.state.claims d then answer_waits
      else answer_granted

  -- a claim that was entered has this effect
  abbrev pub claimed : ℕ → Recalled → Effect
  claimed d r = record { state = r.state; answer = claim_answer d r; recalls = r.recalls }

  -- who waited in the first state and runs in the second, in order of opening, each with the
  -- section for which it waited
  abbrev pub woken : State → State → List ReportEntry
  woken s t =
      let woke : ℕ → Bool = λ d. dispatch_waits u s.claims d && not (dispatch_waits u t.claims d) in
      map (entry_of u s) (filter woke (numbers t.opened))

  -- an effect, with who is woken by it
  abbrev pub with_wakes : State → Effect → Outcome
  with_wakes s e = record {
    state = e.state;
    answer = e.answer;
    recalls = e.recalls;
    wakes = woken s e.state;
  }

module _ (u : Relations) (o : Order) where
  -- the recalling that follows the entry of a claim: in a continuous book, not in a periodic one
  abbrev pub after_entry : Detection → State → Recalled
  after_entry Continuous s = recall_result u o s
  after_entry Periodic s = nobody s

  -- what a call does that is not refused
  abbrev pub accepted : State → Call → Effect
  accepted s (call.Open d weight) = plain (with_open d weight s) answer_ok
  accepted s (call.Claim d section mode) =
      if is_covered u s.claims d section mode then plain s answer_covered
      else claimed u d (after_entry s.detection (state_with_claim (claim_of d section mode) s))
  accepted s (call.Close d) = plain (state_without d s) answer_ok
  accepted s (call.Withdraw d) = plain (state_without d s) answer_ok
  accepted s (call.Acknowledge d) = plain (without_recalled d s) answer_ok
  accepted s call.Sweep = swept (recall_result u o s)

  -- what a call does: a refused one changes nothing and recalls nobody
  abbrev pub effect_by : State → Call → Option ℕ → Effect
  effect_by s c None = accepted s c
  effect_by s c (Some n) = plain s (answer_refused n)

  -- a call in a state
  unfoldable pub step : State → Call → Outcome
  step s c = with_wakes u s (effect_by s c (refusal (checks u s c)))
