-- A set of dispatch numbers, by membership.
use Rattle.std.specs.Prelude.{◌≡◌, ℕ, ◌<◌, Bool, true, false, ◌&&◌, ◌==◌, nat_lt, List, [], ◌∷◌, ◌++◌, filter, codes, decimal}
use Rattle.std.specs.Int.{bit_at}
use Rattle.std.specs.List.{range_with_len, flat_map}
use Rattle.dispatch_set.specs.declared.DispatchSet.{DispatchSet}
use Rattle.dispatch_set.specs.declared.TheConstants.{LIMIT}

-- the number is in the set: it is below the limit and its bit is set
unfoldable pub contains : DispatchSet → ℕ → Bool
contains s k = nat_lt k LIMIT && bit_at s.bits k == 1

-- no number is in the set
abbrev pub empty_set : DispatchSet
empty_set = record { bits = 0 }

-- the numbers in the set, in ascending order
unfoldable pub numbers_in : DispatchSet → List ℕ
numbers_in s = filter (contains s) (range_with_len 0 LIMIT)

-- the number is the least in the set
abbrev pub IsLeast : DispatchSet → ℕ → Type 0
IsLeast s k = (contains s k ≡ true) × ((j : ℕ) → j < k → contains s j ≡ false)

-- a number behind another, as it is printed
abbrev pub other_text : ℕ → List ℕ
other_text k = codes ", " ++ decimal k

-- numbers, as they are printed: with a comma and a space between two
abbrev pub numbers_text : List ℕ → List ℕ
numbers_text [] = []
numbers_text (k ∷ ks) = decimal k ++ flat_map other_text ks

-- a set, as it is printed: its numbers in braces
abbrev pub set_text : DispatchSet → List ℕ
set_text s = codes "{" ++ (numbers_text (numbers_in s) ++ codes "}")
