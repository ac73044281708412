-- The theorem on the form of lines.
use Rattle.std.specs.Prelude.{◌≡◌, ℕ, List, Result}
use Rattle.model.specs.declared.call.Call.{Call}
use Rattle.protocol.specs.Reading.{Reading}
use Rattle.protocol.specs.declared.fault.Fault.{Fault}

-- a line is read in one way: as one call, or as one fault at one place
abbrev pub ReadingUnique : Type 0
ReadingUnique =
    (line : List ℕ) (one other : Result Call Fault)
    → Reading line one → Reading line other → one ≡ other
