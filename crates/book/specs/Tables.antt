-- The book's tables as the model's state, and what is done to them within a call.
use Rattle.std.specs.Prelude.{◌≡◌, ℕ, Bool, not, ◌&&◌, if◌then◌else◌, List, [], ◌++◌, map, filter, Some, None, Ok, Option}
use Rattle.dispatch_set.specs.DispatchSet.{contains}
use Rattle.uses.specs.Relations.{Relations}
use Rattle.model.specs.Claims.{dispatch_waits}
use Rattle.model.specs.State.{State, is_open, state_with_claim}
use Rattle.model.specs.Recalling.{Order, Recalled, entry_of, summary, first, on_cycles, recall_result}
use Rattle.model.specs.Calls.{ModelAnswer, answer_granted, answer_waits, answer_recalled, after_entry, claim_answer, report_of, woken}
use Rattle.model.specs.declared.report.Report.{Report}
use Rattle.model.specs.declared.report.ReportEntry.{ReportEntry}
use Rattle.model.specs.declared.state.Claim.{Claim}
use Rattle.model.specs.declared.state.Condition.{Condition}
use Rattle.model.specs.declared.state.Condition.TheVariants.{Free, Running, Waiting, Recalled as RecalledCondition}
use Rattle.claims.specs.ClaimTable.{AreWaitingSections}
use Rattle.book.specs.Answer.{answer_of}
use Rattle.book.specs.declared.answer.Answer.{Answer}
use Rattle.book.specs.declared.deadlock.Candidate.{Candidate}
use Rattle.book.specs.declared.policy.Policy.{Policy}
use Rattle.book.specs.declared.tables.Tables.{Tables}

-- the model's state, read off the tables
abbrev pub state : Tables → State
state t = record {
  opened = t.opened;
  recalled = contains t.recalled;
  claims = t.claims;
  detection = t.detection;
}

-- how a dispatch stands, where it is known whether it waits
abbrev pub condition_by : Bool → State → ℕ → Condition
condition_by waits s d =
    if s.recalled d then RecalledCondition
    else if is_open s d then (if waits then Waiting else Running) else Free

-- the better of two candidates in the recall order: the one that comes later, if it goes no later
abbrev pub better : Order → Option Candidate → Candidate → Candidate
better o None c = c
better o (Some b) c = if o c.summary b.summary then c else b

-- below, `uses` and `orders` give the meanings of tables and orders, and `p` is the book's policy
module _ {T O : Type 0} (uses : T → Relations) (orders : O → Order) (p : Policy T O) where
  -- the dispatch to be recalled in a state (the deadlock victim), if a cycle stands
  abbrev pub victim_of : State → Option ℕ
  victim_of s = first (uses p.table) (orders p.order) s (on_cycles (uses p.table) s)

  -- what recalling until no cycle stands comes to
  abbrev pub recalls_of : State → Recalled
  recalls_of s = recall_result (uses p.table) (orders p.order) s

  -- the second state is what recalling leaves of the first
  abbrev pub IsCleared : State → State → Type 0
  IsCleared before after = after ≡ (recalls_of before).state

  -- the report names whom recalling recalls in the state before, and nobody as woken
  abbrev pub NamesRecalled : State → Report → Type 0
  NamesRecalled before report = report ≡ report_of (recalls_of before).recalls []

  -- the report names the recalled, and the woken of those who waited, by these sections
  abbrev pub ReportsRecalls : State → List (Option ℕ) → Report → Type 0
  ReportsRecalls before sections report =
      (s : State) → AreWaitingSections (uses p.table) s.claims sections
      → report ≡ report_of (recalls_of before).recalls
      (woken (uses p.table) s (recalls_of before).state)

  -- the tables are swept: the report names the recalled and the woken, and no cycle is left
  pub record IsSwept (before : State) (report : Report) (after : State) : Type 0 where
    pub left : IsCleared before after
    pub reported :
        report ≡ report_of (recalls_of before).recalls
        (woken (uses p.table) before (recalls_of before).state)

-- below, `u` is the meaning of the use table
module _ (u : Relations) where
  -- the answer to a claimant whose claim was entered, by how it stands
  abbrev pub claimant_answer : State → ℕ → ModelAnswer
  claimant_answer s d =
      if is_open s d then (if dispatch_waits u s.claims d then answer_waits else answer_granted)
      else answer_recalled

  -- a dispatch with what the recall order sees of it
  abbrev pub candidate : State → ℕ → Candidate
  candidate s d = record { dispatch = d; summary = summary u s d }

  -- of the listed dispatches, those who waited in the first state and do not in the second
  abbrev pub woken_among : State → State → List ℕ → List ReportEntry
  woken_among s t ds =
      map (entry_of u s)
      (filter (λ d. dispatch_waits u s.claims d && not (dispatch_waits u t.claims d)) ds)

  -- the report names the woken of the listed too, by the sections for which one waited before
  abbrev pub NamesWoken : State → List ℕ → List (Option ℕ) → Report → Report → Type 0
  NamesWoken t ds sections old new =
      (s : State) (rs ws : List ReportEntry) → AreWaitingSections u s.claims sections
      → old ≡ report_of rs ws → new ≡ report_of rs (ws ++ woken_among s t ds)

  -- a claim was entered in the state before, and this recalling followed
  pub record EntryLeads (before : State) (c : Claim) (r : Recalled)
      (answer : Answer) (report : Report) (after : State) : Type 0 where
    pub answered : answer_of (Ok answer) ≡ claim_answer u c.dispatch r
    pub reported : report ≡ report_of r.recalls (woken u before r.state)
    pub left : after ≡ r.state

  -- the claim is entered, with the recalling that follows in a continuous book
  abbrev pub EntersClaim : Order → State → Claim → Answer → Report → State → Type 0
  EntersClaim o before c =
      EntryLeads before c (after_entry u o before.detection (state_with_claim c before))
