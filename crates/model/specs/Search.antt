-- Looking through a list.
use Rattle.std.specs.Prelude.{ℕ, Bool, true, not, ◌&&◌, List, [], ◌∷◌, Some, None, Option, nat_eq}
use Rattle.std.specs.List.{list_all}
-- some element passes; the first element that passes
pub use Rattle.std.specs.List.{list_any as any, find}

-- the last element
abbrev pub last : {X : Type 0} → List X → Option X
last [] = None
last (x ∷ []) = Some x
last (x ∷ (y ∷ ys)) = last (y ∷ ys)

-- the number is in the list
abbrev pub member : ℕ → List ℕ → Bool
member n ns = any (λ m. nat_eq m n) ns

-- no element is the same as a later one
abbrev pub is_distinct : {X : Type 0} → (X → X → Bool) → List X → Bool
is_distinct same [] = true
is_distinct same (x ∷ xs) = list_all (λ y. not (same x y)) xs && is_distinct same xs
