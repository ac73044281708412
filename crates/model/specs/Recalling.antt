-- Recalling: who is on a cycle of waits, who of them goes first, and who goes until none is left.
-- `u` is the meaning of the use table, `o` that of the recall order.
use Rattle.std.specs.Prelude.{ℕ, zero, suc, Bool, if◌then◌else◌, not, List, [], ◌∷◌, length, Some, None, filter, Option, ◌==◌}
use Rattle.std.specs.Option.{unwrap_or}
use Rattle.std.specs.List.{list_all}
use Rattle.uses.specs.Relations.{Relations}
use Rattle.orders.specs.declared.order.Summary.{Summary}
use Rattle.model.specs.Search.{last}
use Rattle.model.specs.Graph.{on_cycle}
use Rattle.model.specs.Claims.{waits_for, waiting_section, held_count}
use Rattle.model.specs.State.{State, numbers, recall}
use Rattle.model.specs.declared.report.TheConstants.{UNUSED_SECTION}
use Rattle.model.specs.declared.report.ReportEntry.{ReportEntry}
use Rattle.model.specs.declared.state.OpenEntry.{OpenEntry}

-- a recall order, by which deadlock victims are chosen: whether the first summary goes no later
-- than the second
abbrev pub Order : Type 0
Order = Summary → Summary → Bool

-- how many open dispatches were opened before the dispatch
abbrev pub standing : List OpenEntry → ℕ → ℕ
standing [] d = 0
standing (e ∷ es) d = if e.dispatch == d then 0 else suc (standing es d)

-- the weight of the dispatch
abbrev pub weight : List OpenEntry → ℕ → ℕ
weight [] d = 0
weight (e ∷ es) d = if e.dispatch == d then e.weight else weight es d

-- who was recalled, in order of recall, and the state left
pub record Recalled : Type 0 where
  pub recalls : List ReportEntry
  pub state : State

-- nobody is recalled
abbrev pub nobody : State → Recalled
nobody s = record { recalls = []; state = s }

module _ (u : Relations) where
  -- what the recall order sees of an open dispatch
  abbrev pub summary : State → ℕ → Summary
  summary s d = record {
    standing = standing s.opened d;
    weight = weight s.opened d;
    held = held_count u s.claims d;
  }

  -- all open dispatches that are on cycles, in order of opening
  unfoldable pub on_cycles : State → List ℕ
  on_cycles s = filter (on_cycle (numbers s.opened) (waits_for u s.claims)) (numbers s.opened)

  -- the dispatch, with the section of its claim that waits, if one does
  abbrev pub entry_of : State → ℕ → ReportEntry
  entry_of s d = record {
    dispatch = d;
    section = unwrap_or (waiting_section u s.claims d) UNUSED_SECTION;
  }

  -- the victim, if there is one, is recalled, and one looks again
  abbrev pub recall_and : (State → Recalled) → State → Option ℕ → Recalled
  recall_and again s None = nobody s
  recall_and again s (Some d) = record {
    recalls = entry_of s d ∷ (again (recall d s)).recalls;
    state = (again (recall d s)).state;
  }

module _ (u : Relations) (o : Order) where
  -- the first goes strictly before the second: the second does not go no later than it
  abbrev pub strictly_before : State → ℕ → ℕ → Bool
  strictly_before s d e = not (o (summary u s e) (summary u s d))

  -- nobody of the set goes strictly before the dispatch
  abbrev pub unbeaten : State → List ℕ → ℕ → Bool
  unbeaten s ds d = list_all (λ e. not (strictly_before s e d)) ds

  -- the first of a set, which is listed in order of opening: of those whom nobody of the set goes
  -- strictly before, the one of greatest standing
  abbrev pub first : State → List ℕ → Option ℕ
  first s ds = last (filter (unbeaten s ds) ds)

-- at most n times, while a dispatch is on a cycle: the first of those on cycles is recalled
unfoldable pub recall_result_within : ℕ → Relations → Order → State → Recalled
recall_result_within zero u o s = nobody s
recall_result_within (suc n) u o s =
    recall_and u (recall_result_within n u o) s (first u o s (on_cycles u s))

-- while a dispatch is on a cycle, the first of those on cycles is recalled; each recall takes an
-- open dispatch out, so there are no more turns than open dispatches
unfoldable pub recall_result : Relations → Order → State → Recalled
recall_result u o s = recall_result_within (length s.opened) u o s
