-- What is read off a claim table for all dispatches at once.
use Rattle.std.specs.Prelude.{◌≡◌, ℕ, ◌<◌, if◌then◌else◌, is_some, List, Some, None, Option, slice_index_or}
use Rattle.uses.specs.Relations.{Relations}
use Rattle.model.specs.Claims.{InLine, waits, waiting_section}
use Rattle.model.specs.declared.limits.TheConstants.{DISPATCHES}
use Rattle.model.specs.declared.state.Claim.{Claim}

-- place d of the list has the section for which dispatch d waits, if it waits
abbrev pub AreWaitingSections : Relations → List Claim → List (Option ℕ) → Type 0
AreWaitingSections u cs sections =
    (d : ℕ) → d < DISPATCHES → slice_index_or sections d None ≡ waiting_section u cs d

-- a section that was found, or else that of the claim, if it waits
abbrev pub or_waiting_section : Relations → Option ℕ → InLine → Option ℕ
or_waiting_section u found c =
    if is_some found then found else if waits u c then Some c.claim.section else None
