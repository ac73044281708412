-- Rows of numbers as a relation.
use Rattle.std.specs.Prelude.{ℕ, Bool, List, slice_index_or}
use Rattle.dispatch_set.specs.declared.DispatchSet.{DispatchSet}
use Rattle.dispatch_set.specs.DispatchSet.{contains, empty_set}

-- a step leads from a to each number of row a
abbrev pub relation : List DispatchSet → ℕ → ℕ → Bool
relation rows a b = contains (slice_index_or rows a empty_set) b
