-- A state with one part in place of another.
use Rattle.std.proofs.Common.{ℕ, Bool, List}
use Rattle.model.specs.State.{State}
use Rattle.model.specs.declared.state.Claim.{Claim}
use Rattle.model.specs.declared.state.OpenEntry.{OpenEntry}

-- with other claims
abbrev pub with_claims : State → List Claim → State
with_claims s cs = record { opened = s.opened; recalled = s.recalled; claims = cs; detection = s.detection }

-- with another open list
abbrev pub with_opened : State → List OpenEntry → State
with_opened s es = record { opened = es; recalled = s.recalled; claims = s.claims; detection = s.detection }

-- with another recalled set
abbrev pub with_recalled_set : State → (ℕ → Bool) → State
with_recalled_set s r = record { opened = s.opened; recalled = r; claims = s.claims; detection = s.detection }
