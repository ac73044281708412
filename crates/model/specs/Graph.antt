-- Graphs: a relation on numbers, where it leads, its cycles and its chains.
use Rattle.std.specs.Prelude.{◌≡◌, ℕ, Bool, true, ◌&&◌, ◌||◌, List, [], ◌∷◌}
use Rattle.model.specs.Search.{member}

-- one or more steps of the relation lead from the first number to the second
pub data Leads (r : ℕ → ℕ → Bool) : ℕ → ℕ → Type 0 where
  one : {a b : ℕ} → r a b ≡ true → Leads r a b
  more : {a b c : ℕ} → r a b ≡ true → Leads r b c → Leads r a c

module _ (r : ℕ → ℕ → Bool) where
  -- one or more steps lead from the number back to it
  abbrev pub OnCycle : ℕ → Type 0
  OnCycle a = Leads r a a

  -- some number is on a cycle
  abbrev pub HasCycle : Type 0
  HasCycle = (a : ℕ) × OnCycle a

  -- no number is on a cycle
  abbrev pub IsAcyclic : Type 0
  IsAcyclic = (a : ℕ) → ¬ OnCycle a

  -- a chain: from a number a step to the first of the list, from there to the next, and so on
  abbrev pub Chain : ℕ → List ℕ → Type 0
  Chain a [] = Unit {0}
  Chain a (b ∷ bs) = (r a b ≡ true) × Chain b bs

-- every step of the relation leads to a listed number
abbrev pub LeadsInto : List ℕ → (ℕ → ℕ → Bool) → Type 0
LeadsInto ks r = (a b : ℕ) → r a b ≡ true → member b ks ≡ true

-- where a chain ends
abbrev pub end_of : ℕ → List ℕ → ℕ
end_of a [] = a
end_of a (b ∷ bs) = end_of b bs

-- the relation, with steps by way of k
abbrev pub by_way_of : ℕ → (ℕ → ℕ → Bool) → ℕ → ℕ → Bool
by_way_of k r a b = r a b || (r a k && r k b)

-- the relation, with steps by way of any of the listed numbers
unfoldable pub closure : List ℕ → (ℕ → ℕ → Bool) → ℕ → ℕ → Bool
closure [] r = r
closure (k ∷ ks) r = closure ks (by_way_of k r)

-- the test whether a number is on a cycle, where every step leads to a listed number
abbrev pub on_cycle : List ℕ → (ℕ → ℕ → Bool) → ℕ → Bool
on_cycle ks r a = closure ks r a a
