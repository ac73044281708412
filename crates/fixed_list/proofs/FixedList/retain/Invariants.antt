use Rattle.std.proofs.Common.{◌≡◌, ◌≤◌, Bool, length}
use Rattle.std.specs.Fn.{FnReturnsAt}
use Rattle.std.proofs.lemmas.List.Filters.{FiltersInPlace}
use Rattle.fixed_list.proofs.FixedList.retain.Given as goal

abbrev pub invariant-loop-i : goal.invariant-loop-i
invariant-loop-i g l =
    ((passes : g.row.X.Denot → Bool) → ((x : g.row.X.Denot) (answer : Bool) → FnReturnsAt g.F.Fn l.test x answer → answer ≡ passes x) → FiltersInPlace passes l.initial.self-inside.items l.self-inside.items l.remaining l.i)
    × (l.remaining ≤ l.i)
    × (l.self-inside.count ≡ l.initial.self-inside.count)
    × (length l.self-inside.items ≡ g.row.N)
