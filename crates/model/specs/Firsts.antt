-- What it is to be the first of a set of dispatches.
-- `u` is the meaning of the use table, `o` that of the recall order.
use Rattle.std.specs.Prelude.{◌≡◌, ℕ, ◌≤◌, true, false, List}
use Rattle.uses.specs.Relations.{Relations}
use Rattle.model.specs.Search.{member}
use Rattle.model.specs.State.{State}
use Rattle.model.specs.Recalling.{Order, strictly_before, standing}

module _ (u : Relations) (o : Order) (s : State) (ds : List ℕ) where
  -- nobody of the set goes strictly before the dispatch
  abbrev pub IsUnbeaten : ℕ → Type 0
  IsUnbeaten d = (e : ℕ) → member e ds ≡ true → strictly_before u o s e d ≡ false

  -- the first of the set: unbeaten, and of all who are, the one of greatest standing
  pub record IsFirst (d : ℕ) : Type 0 where
    pub inside : member d ds ≡ true
    pub unbeaten : IsUnbeaten d
    pub newest :
        (e : ℕ) → member e ds ≡ true → IsUnbeaten e → standing s.opened e ≤ standing s.opened d
