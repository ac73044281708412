-- The theorems, each for every use table and every recall order that keeps its laws.
use Rattle.std.specs.Prelude.{◌≡◌, ℕ, ◌+◌, ◌≤◌, ◌↔◌, Bool, true, false, List, [], ◌∷◌, ◌++◌, length, IsTrue, Some, None, filter}
use Rattle.std.specs.List.{AllByRecursion, list_any}
use Rattle.uses.specs.Relations.{Relations, UseLaws}
use Rattle.orders.specs.Laws.{OrderLaws}
use Rattle.model.specs.Graph.{OnCycle, LeadsInto, on_cycle}
use Rattle.model.specs.Claims.{blocks, dispatch_waits, waits_for, is_covered}
use Rattle.model.specs.State.{State, new, numbers}
use Rattle.model.specs.Recalling.{Order, first}
use Rattle.model.specs.Calls.{Outcome, checks, entry_checks, refusal, step, answer_covered, answer_refused}
use Rattle.model.specs.Changes.{IsExactChange}
use Rattle.model.specs.Invariant.{WellFormed, Invariant}
use Rattle.model.specs.Firsts.{IsFirst}
use Rattle.model.specs.Runs.{Run, HasRun}
use Rattle.model.specs.Law.{Law}
use Rattle.model.specs.Examples.{examples, IsRight}
use Rattle.model.specs.declared.call.Call.{Call}
use Rattle.model.specs.declared.call.Call.TheVariants as call
use Rattle.model.specs.declared.limits.TheConstants.{DISPATCHES, SECTIONS, CLAIMS, HEAVIEST}
use Rattle.model.specs.declared.state.Claim.{Claim}
use Rattle.model.specs.declared.state.Detection.{Detection}

-- the law holds of every run
abbrev pub LawOverRuns : Type 0
LawOverRuns = (u : Relations) → UseLaws u → (o : Order) → OrderLaws o → (r : Run) → Law u o r

-- every call keeps the invariant
abbrev pub CallsKeepInvariant : Relations → Order → Type 0
CallsKeepInvariant u o = (s : State) → Invariant u s → (c : Call) → Invariant u (step u o s c).state

-- the invariant holds of a new book, and every call keeps it
abbrev pub InvariantKept : Type 0
InvariantKept =
    (u : Relations)
    → ((detection : Detection) → Invariant u (new detection))
    × (UseLaws u → (o : Order) → OrderLaws o → CallsKeepInvariant u o)

-- the invariant holds of every state to which a run leads
abbrev pub InvariantHolds : Type 0
InvariantHolds =
    (u : Relations) → UseLaws u → (o : Order) → OrderLaws o
    → (s : State) → HasRun u o s → Invariant u s

-- the test for being on a cycle agrees with the inductive definition
abbrev pub CycleTestExact : Type 0
CycleTestExact =
    (ks : List ℕ) (r : ℕ → ℕ → Bool) → LeadsInto ks r
    → (a : ℕ) → (IsTrue (on_cycle ks r a) ↔ OnCycle r a)

-- every step of waiting leads to an open dispatch
abbrev pub StepsLeadToOpen : Type 0
StepsLeadToOpen =
    (u : Relations) (s : State) → WellFormed u s
    → LeadsInto (numbers s.opened) (waits_for u s.claims)

-- the open dispatches that pass a test, in order of opening
abbrev pub open_passing : State → (ℕ → Bool) → List ℕ
open_passing s passes = filter passes (numbers s.opened)

-- of every set of open dispatches, the first is as it should be; so there is only one
abbrev pub FirstExact : Type 0
FirstExact =
    (u : Relations) (o : Order) → OrderLaws o → (s : State) → WellFormed u s
    → (among : ℕ → Bool) (d : ℕ)
    → ((first u o s (open_passing s among) ≡ Some d) ↔ IsFirst u o s (open_passing s among) d)

-- who is recalled and who is woken by one call are together at most 64
abbrev pub ReportFits : Type 0
ReportFits =
    (u : Relations) → UseLaws u → (o : Order) → OrderLaws o
    → (s : State) → Invariant u s → (c : Call)
    → length (step u o s c).recalls + length (step u o s c).wakes ≤ DISPATCHES

-- a call is answered by a refusal exactly when a check applies, by the first that does
abbrev pub RefusedByFirst : Type 0
RefusedByFirst =
    (u : Relations) (o : Order) (s : State) (c : Call) (n : ℕ)
    → ((step u o s c).answer ≡ answer_refused n ↔ refusal (checks u s c) ≡ Some n)

-- an outcome leaves the state as it was, and names nobody
pub record ChangesNothing (s : State) (x : Outcome) : Type 0 where
  pub left : x.state ≡ s
  pub recalls : x.recalls ≡ []
  pub wakes : x.wakes ≡ []

-- a refused call changes nothing
abbrev pub RefusedChangesNothing : Type 0
RefusedChangesNothing =
    (u : Relations) (o : Order) (s : State) (c : Call) (n : ℕ)
    → (step u o s c).answer ≡ answer_refused n → ChangesNothing s (step u o s c)

-- a claim is refused for want of room exactly where it passes all other checks, 512 claims stand
-- and none covers it
abbrev pub RefusedWhenFull : Type 0
RefusedWhenFull =
    (u : Relations) (o : Order) (s : State) → Invariant u s → (d section mode : ℕ)
    → (((step u o s (call.Claim d section mode)).answer ≡ answer_refused 9)
    ↔ ((refusal (entry_checks u s d section mode) ≡ None)
    × (length s.claims ≡ CLAIMS) × (is_covered u s.claims d section mode ≡ false)))

-- a claim is answered covered exactly where it passes all checks but the last and a claim covers it,
-- however many stand
abbrev pub CoveredExact : Type 0
CoveredExact =
    (u : Relations) (o : Order) (s : State) (d section mode : ℕ)
    → (((step u o s (call.Claim d section mode)).answer ≡ answer_covered)
    ↔ ((refusal (entry_checks u s d section mode) ≡ None)
    × (is_covered u s.claims d section mode ≡ true)))

-- the limits that the definitions cite from the code are those of the rules
pub record LimitsRight : Type 0 where
  pub dispatches : DISPATCHES ≡ 64
  pub sections : SECTIONS ≡ 1024
  pub claims : CLAIMS ≡ 512
  pub heaviest : HEAVIEST ≡ 1000

-- what a call changes follows from its answer and from whom it recalls
abbrev pub ChangesExact : Type 0
ChangesExact =
    (u : Relations) (o : Order) (s : State) (c : Call) → IsExactChange s c (step u o s c)

-- a claim that nothing blocks adds no step of waiting
abbrev pub NoNewStep : Type 0
NoNewStep =
    (u : Relations) (cs : List Claim) (c : Claim) → list_any (λ b. blocks u b c) cs ≡ false
    → (d e : ℕ) → waits_for u (cs ++ c ∷ []) d e ≡ waits_for u cs d e

-- a claim of a dispatch that runs, which nothing blocks, closes no cycle: whoever is on one once
-- it is entered was on one before
abbrev pub NoNewCycle : Type 0
NoNewCycle =
    (u : Relations) (cs : List Claim) (c : Claim) → dispatch_waits u cs c.dispatch ≡ false
    → list_any (λ b. blocks u b c) cs ≡ false
    → (d : ℕ) → OnCycle (waits_for u (cs ++ c ∷ [])) d → OnCycle (waits_for u cs) d

-- the worked examples are right
abbrev pub ExamplesRight : Type 0
ExamplesRight = AllByRecursion IsRight examples
