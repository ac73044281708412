-- Whether some element of a list passes: lists put together, mapped and filtered, and an element
-- that passes.
use Rattle.std.proofs.Common.{◌≡◌, Bool, true, false, ◌&&◌, List, [], ◌∷◌, map, is_some, filter, refl, inl, inr, arith}
use Rattle.std.specs.List.{AllByRecursion}
use Rattle.std.proofs.lemmas.Bool.{or_cases, or_left, or_right, false≢true}
use Rattle.model.specs.Search.{any, find}
-- some element of two lists put together passes exactly when one of the first or one of the second
-- does
pub use Rattle.std.proofs.lemmas.List.Folds.{list_any-append as any_append}

-- what passes a test passes a wider one
pub any_wider :
    {X : Type 0} (p q : X → Bool) → ((x : X) → p x ≡ true → q x ≡ true) → (xs : List X)
    → any p xs ≡ true → any q xs ≡ true
any_wider p q wider [] = λ h. h
any_wider p q wider (x ∷ xs) = λ h. grind (arith, wider x, any_wider p q wider xs)

-- two tests with the same answers find the same
pub any_same :
    {X : Type 0} (p q : X → Bool) → ((x : X) → p x ≡ q x) → (xs : List X) → any p xs ≡ any q xs
any_same p q same [] = refl
any_same p q same (x ∷ xs) = rw (same x, any_same p q same xs)

-- some image passes exactly when some element's image does
pub any_map :
    {X Y : Type 0} (f : X → Y) (p : Y → Bool) (xs : List X)
    → any p (map f xs) ≡ any (λ x. p (f x)) xs
any_map f p [] = refl
any_map f p (x ∷ xs) = rw (any_map f p xs)

-- some kept element passes exactly when some element is kept and passes
pub any_kept_by :
    {X : Type 0} (p q : X → Bool) (xs : List X) → any q (filter p xs) ≡ any (λ x. p x && q x) xs
any_kept_by p q [] = refl
any_kept_by p q (x ∷ xs) = grind (arith, any_kept_by p q xs)

-- if some element passes, there is one that passes, and that has whatever all elements have
pub any_all :
    {X : Type 0} (p : X → Bool) (P : X → Type 0) (xs : List X) → AllByRecursion P xs
    → any p xs ≡ true → (x : X) × P x × (p x ≡ true)
any_all p P [] all = λ h. absurd (false≢true h)
any_all p P (x ∷ xs) all = λ h. elim (or_cases (p x) (any p xs) h) [
  | inl here ↦ (x, all.0, here)
  | inr behind ↦ any_all p P xs all.1 behind
]

-- if some element passes, there is one that passes, and whatever test it passes, some element
-- passes
pub any_found :
    {X : Type 0} (p : X → Bool) (xs : List X) → any p xs ≡ true
    → (x : X) × (p x ≡ true) × ((q : X → Bool) → q x ≡ true → any q xs ≡ true)
any_found p [] = λ h. absurd (false≢true h)
any_found p (x ∷ xs) = λ h. elim (or_cases (p x) (any p xs) h) [
  | inl here ↦ (x, here, λ q passes. or_left (q x) (any q xs) passes)
  | inr behind ↦ let found = any_found p xs behind in (found.0, found.1, λ q passes. or_right (q x) (any q xs) (found.2 q passes))
]

-- if some element passes, there is one that passes
pub any_witness :
    {X : Type 0} (p : X → Bool) (xs : List X) → any p xs ≡ true → (x : X) × (p x ≡ true)
any_witness p xs h = let found = any_found p xs h in (found.0, found.1)

-- where nothing passes nothing is kept
pub kept_nothing : {X : Type 0} (p : X → Bool) (xs : List X) → any p xs ≡ false → filter p xs ≡ []
kept_nothing p [] = λ h. refl
kept_nothing p (x ∷ xs) = λ h. grind (arith, kept_nothing p xs)

-- the search finds an element exactly when some element passes
pub find_any : {X : Type 0} (p : X → Bool) (xs : List X) → is_some (find p xs) ≡ any p xs
find_any p [] = refl
find_any p (x ∷ xs) = grind (arith, find_any p xs)
