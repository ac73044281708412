-- Runs: finite lists of calls from the state of a new book, and what was granted in them.
-- `u` is the meaning of the use table, `o` that of the recall order.
use Rattle.std.specs.Prelude.{◌≡◌, ℕ, true, ◌&&◌, List, ◌==◌}
use Rattle.std.specs.List.{list_any}
use Rattle.uses.specs.Relations.{Relations}
use Rattle.model.specs.Claims.{claim_waits}
use Rattle.model.specs.State.{State, new, is_open}
use Rattle.model.specs.Recalling.{Order}
use Rattle.model.specs.Calls.{Outcome, step, answer_granted, answer_covered}
use Rattle.model.specs.declared.call.Call.{Call}
use Rattle.model.specs.declared.call.Call.TheVariants as call
use Rattle.model.specs.declared.report.ReportEntry.{ReportEntry}
use Rattle.model.specs.declared.state.Detection.{Detection}

-- a run: the making of a book, and calls one after another
pub data Run : Type 0 where
  start : Detection → Run
  next : Run → Call → Run

-- the fact holds at every moment: at the start of the run, and at the end of each of its calls
abbrev pub EachMoment : (Run → Type 0) → Run → Type 0
EachMoment P (start detection) = P (start detection)
EachMoment P (next r c) = EachMoment P r × P (next r c)

-- the fact holds of every call of the run, with the run before the call
abbrev pub EachCall : (Run → Call → Type 0) → Run → Type 0
EachCall P (start detection) = Unit {0}
EachCall P (next r c) = EachCall P r × P r c

-- the list names the dispatch with the section
abbrev pub Names : List ReportEntry → ℕ → ℕ → Type 0
Names ns d section = list_any (λ n. (n.dispatch == d) && n.section == section) ns ≡ true

module _ (u : Relations) (o : Order) where
  -- the state at the end of a run
  abbrev pub at : Run → State
  at (start detection) = new detection
  at (next r c) = (step u o (at r) c).state

  -- some run leads to the state; which one is not kept
  abbrev pub HasRun : State → Type 0
  HasRun s = ∥ ((r : Run) × (at r ≡ s)) ∥₁

  -- what a run's last call gives, after the run before it
  abbrev pub outcome : Run → Call → Outcome
  outcome r c = step u o (at r) c

  -- a call grants a dispatch a use of a section
  pub data Grants (r : Run) (c : Call) (d section mode : ℕ) : Type 0 where
    -- by its answer
    by_grant :
        c ≡ call.Claim d section mode → (outcome r c).answer ≡ answer_granted
        → Grants r c d section mode
    by_cover :
        c ≡ call.Claim d section mode → (outcome r c).answer ≡ answer_covered
        → Grants r c d section mode
    -- by naming the dispatch as woken, for the claim that waited
    by_wake :
        Names (outcome r c).wakes d section → claim_waits u (at r).claims d section mode ≡ true
        → Grants r c d section mode

  -- the dispatch was granted the use of the section, and has been open at every moment since
  pub data HasGrant : Run → ℕ → ℕ → ℕ → Type 0 where
    just_now :
        {r : Run} {c : Call} {d section mode : ℕ} → Grants r c d section mode
        → is_open (at (next r c)) d ≡ true → HasGrant (next r c) d section mode
    before :
        {r : Run} {c : Call} {d section mode : ℕ} → HasGrant r d section mode
        → is_open (at (next r c)) d ≡ true → HasGrant (next r c) d section mode
