-- The law over runs: exclusion, progress and recall.
-- `u` is the meaning of the use table, `o` that of the recall order.
use Rattle.std.specs.Prelude.{◌≡◌, ◌≢◌, ℕ, ◌<◌, true, false, ⊤, ◌⊎◌, ◌↔◌, List, [], ◌∷◌, ◌++◌, length}
use Rattle.uses.specs.Relations.{Relations}
use Rattle.model.specs.Graph.{OnCycle, HasCycle, Chain, end_of}
use Rattle.model.specs.Claims.{dispatch_waits, waits_for}
use Rattle.model.specs.State.{State, is_open, recall, state_with_claim}
use Rattle.model.specs.Recalling.{Order, strictly_before}
use Rattle.model.specs.Calls.{ModelAnswer, answer_granted, answer_waits, answer_recalled, claim_of, Outcome}
use Rattle.model.specs.Runs.{Run, at, outcome, EachMoment, EachCall, HasGrant}
use Rattle.model.specs.declared.call.Call.{Call}
use Rattle.model.specs.declared.call.Call.TheVariants as call
use Rattle.model.specs.declared.limits.TheConstants.{DISPATCHES}
use Rattle.model.specs.declared.report.ReportEntry.{ReportEntry}
use Rattle.model.specs.declared.state.Detection.TheVariants.{Continuous}

-- the answer to a claim that is entered: neither covered nor a refusal
abbrev pub IsEntered : ModelAnswer → Type 0
IsEntered answer_granted = ⊤
IsEntered answer_waits = ⊤
IsEntered answer_recalled = ⊤
IsEntered _ = ⊥

-- the call is a claim, and it is entered
abbrev pub EntersClaim : Call → ModelAnswer → Type 0
EntersClaim (call.Claim d section mode) a = IsEntered a
EntersClaim _ a = ⊥

-- the state once the call's claim, if it has one, is entered
abbrev pub once_entered : Call → State → State
once_entered (call.Claim d section mode) s = state_with_claim (claim_of d section mode) s
once_entered _ s = s

-- the state once the named are recalled, one after another
abbrev pub once_recalled : List ReportEntry → State → State
once_recalled [] s = s
once_recalled (n ∷ ns) s = once_recalled ns (recall n.dispatch s)

module _ (u : Relations) (s : State) where
  -- the dispatch is open, and no claim of it waits
  abbrev pub IsRunning : ℕ → Type 0
  IsRunning d = (is_open s d ≡ true) × (dispatch_waits u s.claims d ≡ false)

  -- a chain of waits: from an open dispatch, each step to one for which the one before it waits
  abbrev pub ChainOfWaits : ℕ → List ℕ → Type 0
  ChainOfWaits d es = (is_open s d ≡ true) × Chain (waits_for u s.claims) d es

  -- a chain is complete when it cannot be prolonged: where it ends, nobody is waited for
  abbrev pub IsComplete : ℕ → List ℕ → Type 0
  IsComplete d es = (f : ℕ) → waits_for u s.claims (end_of d es) f ≡ false

  -- waits end: every chain of waits has at most 63 steps, and if complete ends at one that runs
  pub record WaitsEnd : Type 0 where
    pub short : (d : ℕ) (es : List ℕ) → ChainOfWaits d es → length es < DISPATCHES
    pub ends_running :
        (d : ℕ) (es : List ℕ) → ChainOfWaits d es → IsComplete d es → IsRunning (end_of d es)

-- where two different dispatches have grants of one section, since opening, the uses do not
-- conflict
abbrev pub Exclusion : Relations → Order → Run → Type 0
Exclusion u o r =
    (d e section mode_d mode_e : ℕ) → d ≢ e
    → HasGrant u o r d section mode_d → HasGrant u o r e section mode_e
    → u.conflict mode_d mode_e ≡ false

-- below, `before` is the state before a call, and `x` what the call gives
module _ (u : Relations) (before : State) (c : Call) (x : Outcome) where
  -- waits end after every call to a continuous book, and after every sweep of a periodic one
  abbrev pub Progress : Type 0
  Progress = (before.detection ≡ Continuous) ⊎ (c ≡ call.Sweep) → WaitsEnd u x.state

  -- the call recalls somebody
  abbrev pub RecallsSomebody : Type 0
  RecallsSomebody = x.recalls ≢ []

  -- the call enters a claim, and the book is continuous
  abbrev pub IsContinuousEntry : Type 0
  IsContinuousEntry = (before.detection ≡ Continuous) × EntersClaim c x.answer

  -- when a call recalls somebody
  pub record RecallWhen : Type 0 where
    -- an entry in a continuous book: exactly when a cycle stands once the claim is entered
    pub by_claim :
        IsContinuousEntry
        → (RecallsSomebody ↔ HasCycle (waits_for u (once_entered c before).claims))
    -- a sweep, in either detection: exactly when a cycle stood before it
    pub by_sweep : c ≡ call.Sweep → (RecallsSomebody ↔ HasCycle (waits_for u before.claims))
    -- no other call
    pub by_no_other : RecallsSomebody → (c ≡ call.Sweep) ⊎ IsContinuousEntry

module _ (u : Relations) (o : Order) where
  -- the right dispatch to recall in a state: a deadlock victim, the first by the recall order
  pub record IsRightVictim (s : State) (d : ℕ) : Type 0 where
    -- it is on a cycle of waits
    pub on_cycle : OnCycle (waits_for u s.claims) d
    -- and nobody on a cycle goes strictly before it, by the summaries of the state
    pub none_before :
        (e : ℕ) → OnCycle (waits_for u s.claims) e → strictly_before u o s e d ≡ false

  -- the state just before a recall: the call's claim, if it has one, is entered, and those whom
  -- the call recalled earlier are gone
  abbrev pub just_before : State → Call → List ReportEntry → State
  just_before before c earlier = once_recalled earlier (once_entered c before)

  -- whom a call recalls: each was the right one just before its recall
  abbrev pub RecallWhom : State → Call → Outcome → Type 0
  RecallWhom before c x =
      (earlier later : List ReportEntry) (n : ReportEntry) → x.recalls ≡ earlier ++ n ∷ later
      → IsRightVictim (just_before before c earlier) n.dispatch

  -- the fact holds of every call of the run: of the state before it, the call, and what it gives
  abbrev pub EachOutcome :
      (Run → Call → Outcome) → (State → Call → Outcome → Type 0) → Run → Type 0
  EachOutcome gives P = EachCall (λ r c. P (at u o r) c (gives r c))

  -- the law over runs, where `gives r c` is what call c is said to give after run r; the states
  -- between the calls, and what was granted, are the model's
  pub record LawOf (gives : Run → Call → Outcome) (r : Run) : Type 0 where
    -- exclusion: two open dispatches never hold grants of one section whose uses conflict
    pub exclusion : EachMoment (Exclusion u o) r
    -- progress: waits end
    pub progress : EachOutcome gives (Progress u) r
    -- recall: exactly when a claim that is entered closes a cycle, or a sweep finds one
    pub recall_when : EachOutcome gives (RecallWhen u) r
    -- recall: the right dispatch
    pub recall_whom : EachOutcome gives RecallWhom r

  -- the law over runs: of what every call gives
  abbrev pub Law : Run → Type 0
  Law = LawOf (outcome u o)
