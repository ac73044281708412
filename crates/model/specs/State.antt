-- The abstract state of the book.
use Rattle.std.specs.Prelude.{ℕ, Bool, false, not, ◌&&◌, ◌||◌, List, [], ◌∷◌, ◌++◌, map, filter, ◌==◌}
use Rattle.model.specs.Search.{member}
use Rattle.model.specs.Claims.{without}
use Rattle.model.specs.declared.state.Claim.{Claim}
use Rattle.model.specs.declared.state.Detection.{Detection}
use Rattle.model.specs.declared.state.OpenEntry.{OpenEntry}

-- all that a book keeps
pub record State : Type 0 where
  -- the open list: the open dispatches (active transactions) with weights, in order of opening
  pub opened : List OpenEntry
  -- the recalled set: the victims of deadlocks that have not been acknowledged yet
  pub recalled : ℕ → Bool
  -- the claim list: the claims (lock requests), in order of arrival
  pub claims : List Claim
  -- when cycles are looked for; fixed at the making
  pub detection : Detection

-- the state of a new book
abbrev pub new : Detection → State
new detection = record { opened = []; recalled = λ d. false; claims = []; detection = detection }

-- the numbers of the open dispatches, in order of opening
abbrev pub numbers : List OpenEntry → List ℕ
numbers es = map (λ e. e.dispatch) es

-- the dispatch is open
abbrev pub is_open : State → ℕ → Bool
is_open s d = member d (numbers s.opened)

-- who is neither open nor recalled is free
abbrev pub is_free : State → ℕ → Bool
is_free s d = not (is_open s d) && not (s.recalled d)

-- the open list without the dispatch
abbrev pub entries_without : ℕ → List OpenEntry → List OpenEntry
entries_without d es = filter (λ e. not (e.dispatch == d)) es

-- the dispatch's claims and its open entry are taken out
abbrev pub state_without : ℕ → State → State
state_without d s = record s { opened = entries_without d s.opened; claims = without d s.claims }

-- the dispatch joins the recalled set
abbrev pub with_recalled : ℕ → State → State
with_recalled d s = record s { recalled = λ e. (e == d) || s.recalled e }

-- the dispatch is recalled: it is taken out and joins the recalled set
abbrev pub recall : ℕ → State → State
recall d s = with_recalled d (state_without d s)

-- the claim is entered at the end of the claim list
abbrev pub state_with_claim : Claim → State → State
state_with_claim c s = record s { claims = s.claims ++ c ∷ [] }
