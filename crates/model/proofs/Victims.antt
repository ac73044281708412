-- The first of a set.
use Rattle.std.proofs.Common.{◌≡◌, ℕ, Bool, true, ◌&&◌, ◌||◌, eqb, List, [], ◌∷◌, Some, None, filter, refl, ap, subst, ⊎_elim, arith}
use Rattle.std.specs.List.{list_all, AllByRecursion}
use Rattle.std.proofs.ByRecursion.{All-weaker}
use Rattle.std.proofs.lemmas.Bool.{or_cases, or_left, or_right, eq-eqb}
use Rattle.std.proofs.lemmas.Bool.Decides.{nat_tests}
use Rattle.model.specs.Search.{member, last}
use Rattle.model.proofs.Numbers.{all_pass_wider}

-- the last of a list has what all of the list have
pub last_all :
    {X : Type 0} (P : X → Type 0) (xs : List X) (x : X) → AllByRecursion P xs → last xs ≡ Some x
    → P x
last_all P [] x h e = cc
last_all P (y ∷ []) x h e = let same : y ≡ x = cc in subst P same h.0
last_all P (y ∷ (z ∷ zs)) x h e = last_all P (z ∷ zs) x h.1 e

-- only the empty list has no last
pub last_none : {X : Type 0} (xs : List X) → last xs ≡ None → xs ≡ []
last_none [] e = refl
last_none (y ∷ []) e = cc
last_none (y ∷ (z ∷ zs)) e = let none = last_none (z ∷ zs) e in cc

-- each of a list is in it
pub all_members : (xs : List ℕ) → AllByRecursion (λ x. member x xs ≡ true) xs
all_members [] = tt
all_members (x ∷ xs) = (or_left (eqb x x) (member x xs) (eq-eqb x x refl), All-weaker (λ y. member y xs ≡ true) (λ y. member y (x ∷ xs) ≡ true) (λ y h. or_right (eqb x y) (member y xs) h) xs (all_members xs))

-- what is in a list and passes is in what a filter keeps
pub member_kept :
    (p : ℕ → Bool) (d : ℕ) (xs : List ℕ) → member d (filter p xs) ≡ (p d && member d xs)
member_kept p d [] = grind (arith, nat_tests)
member_kept p d (x ∷ xs) = grind (arith, nat_tests, member_kept p d xs)

-- a filter that keeps nothing found nobody who passes
pub kept_none :
    (p : ℕ → Bool) (d : ℕ) (xs : List ℕ) → filter p xs ≡ [] → p d ≡ true → member d xs ≡ true → ⊥
kept_none p d xs empty passes inside = grind (arith, ap (member d) empty, member_kept p d xs, passes, inside)

module _ (no_later : ℕ → ℕ → Bool) (total : (a b : ℕ) → (no_later a b || no_later b a) ≡ true) (transitive : (a b c : ℕ) → no_later a b ≡ true → no_later b c ≡ true → no_later a c ≡ true) where
  -- of a list that is not empty, some number goes no later than all
  pub some_first :
      (x : ℕ) (xs : List ℕ)
      → (d : ℕ) × (member d (x ∷ xs) ≡ true) × (list_all (no_later d) (x ∷ xs) ≡ true)
  some_first x [] = (x, grind (arith, nat_tests), grind (arith, total x x))
  some_first x (y ∷ ys) =
      let best = some_first y ys in
      ⊎_elim
      (λ h. (best.0, or_right (eqb x best.0) (member best.0 (y ∷ ys)) best.1, grind (arith, h, best.2)))
      (λ h. (x, or_left (eqb x x) (member x (y ∷ ys)) (eq-eqb x x refl), grind (arith, total x x, all_pass_wider (no_later best.0) (no_later x) (λ z. transitive x best.0 z h) (y ∷ ys) best.2)))
      (or_cases (no_later best.0 x) (no_later x best.0) (total best.0 x))
