-- The answer to a code that is checked against a table, and to one that is read as a use.
use Rattle.std.specs.Prelude.{◌≡◌, ℕ, Bool, false, if◌then◌else◌, Ok, Err, Result, MatchResult}
use Rattle.uses.specs.Relations.{Relations}
use Rattle.uses.specs.declared.table.UnknownUse.{UnknownUse}

-- a known code passes, an unknown one is refused
abbrev pub checked : Relations → ℕ → Result (Unit {0}) UnknownUse
checked m a = if m.known a then Ok tt else Err (record {})

-- a code is read as the use that has it, and refused where it is unknown
abbrev pub Decodes : {U : Type 0} → (U → ℕ) → (ℕ → Bool) → ℕ → Result U UnknownUse → Type 0
Decodes {U} code_of known code r =
    MatchResult r (λ mode. code_of mode ≡ code) (λ _. known code ≡ false)
