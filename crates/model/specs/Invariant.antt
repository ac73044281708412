-- What holds of the state.
use Rattle.std.specs.Prelude.{◌≡◌, ℕ, ◌<◌, ◌≤◌, Bool, true, false, ◌&&◌, length, nat_eq, nat_le, nat_lt}
use Rattle.std.specs.List.{list_all}
use Rattle.uses.specs.Relations.{Relations}
use Rattle.model.specs.Search.{is_distinct}
use Rattle.model.specs.Graph.{OnCycle}
use Rattle.model.specs.Claims.{waits_for, waiting_claims}
use Rattle.model.specs.State.{State, numbers, is_open}
use Rattle.model.specs.declared.limits.TheConstants.{DISPATCHES, SECTIONS, CLAIMS, HEAVIEST}
use Rattle.model.specs.declared.state.Claim.{Claim}
use Rattle.model.specs.declared.state.OpenEntry.{OpenEntry}
use Rattle.model.specs.declared.state.Detection.TheVariants.{Continuous}

-- an open entry in range
abbrev pub entry_in_range : OpenEntry → Bool
entry_in_range e = nat_lt e.dispatch DISPATCHES && nat_le e.weight HEAVIEST

-- a claim of an open dispatch, on a section in range
abbrev pub claim_in_range : State → Claim → Bool
claim_in_range s c = is_open s c.dispatch && nat_lt c.section SECTIONS

-- the parts of a state fit one another; this needs no use table, and holds within a call too
pub record IsConsistent (s : State) : Type 0 where
  -- open numbers differ
  pub distinct : is_distinct nat_eq (numbers s.opened) ≡ true
  -- open numbers and weights are in range
  pub entries : list_all entry_in_range s.opened ≡ true
  -- recalled numbers are in range
  pub recalled_below : (d : ℕ) → s.recalled d ≡ true → d < DISPATCHES
  -- nobody is open and recalled
  pub disjoint : (d : ℕ) → s.recalled d ≡ true → is_open s d ≡ false
  -- every claim is of an open dispatch, on a section in range
  pub claims_in_range : list_all (claim_in_range s) s.claims ≡ true
  -- no more claims stand than a book holds
  pub few_claims : length s.claims ≤ CLAIMS

-- below, `u` is the meaning of the use table
module _ (u : Relations) where
  -- what every call keeps, and every recall within a call
  pub record WellFormed (s : State) : Type 0 where
    pub consistent : IsConsistent s
    -- the use of every claim is known
    pub uses_known : list_all (λ c. u.known c.mode) s.claims ≡ true
    -- at most one claim of a dispatch waits
    pub one_waits : (d : ℕ) → waiting_claims u s.claims d ≤ 1

  -- no cycle of waits stands
  abbrev pub NoCycle : State → Type 0
  NoCycle s = (d : ℕ) → ¬ OnCycle (waits_for u s.claims) d

  -- the invariant: the state is well formed, and in a continuous book no cycle stands
  pub record Invariant (s : State) : Type 0 where
    pub well_formed : WellFormed s
    pub no_cycle : s.detection ≡ Continuous → NoCycle s
