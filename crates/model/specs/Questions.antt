-- The three questions. They change nothing. `u` is the meaning of the use table.
use Rattle.std.specs.Prelude.{ℕ, Bool, if◌then◌else◌, not, ◌&&◌, Ok, Err, Option, Result}
use Rattle.uses.specs.Relations.{Relations}
use Rattle.model.specs.Claims.{dispatch_waits, waits_for, waiting_section, holds}
use Rattle.model.specs.State.{State, is_open}
use Rattle.model.specs.Calls.{number_too_high, section_too_high}
use Rattle.model.specs.declared.state.Condition.{Condition}
use Rattle.model.specs.declared.state.Condition.TheVariants.{Free, Running, Waiting, Recalled}

module _ (u : Relations) (s : State) where
  -- how a dispatch stands
  abbrev pub condition : ℕ → Condition
  condition d =
      if s.recalled d then Recalled
      else if is_open s d then (if dispatch_waits u s.claims d then Waiting else Running)
      else Free

  -- a dispatch's condition and the section for which it waits, if it waits; refused by 1
  abbrev pub condition_asked : ℕ → Result (Condition × Option ℕ) ℕ
  condition_asked d =
      if (number_too_high d).0 then Err (number_too_high d).1
      else Ok (condition d, waiting_section u s.claims d)

  -- the dispatches for which a dispatch waits; refused by 1, with all marks off
  abbrev pub waited_for : ℕ → ℕ → Bool
  waited_for d e = not (number_too_high d).0 && waits_for u s.claims d e

  -- the dispatches with a held claim on a section; refused by 2, with all marks off
  abbrev pub holders : ℕ → ℕ → Bool
  holders section e = not (section_too_high section).0 && holds u s.claims section e
