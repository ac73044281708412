-- The open list and its numbers.
use Rattle.std.proofs.Common.{◌≡◌, ℕ, suc, ◌≤◌, Bool, true, false, not, ◌&&◌, ◌||◌, eqb, List, [], ◌∷◌, ◌++◌, length, filter, refl, ⊎_elim, arith}
use Rattle.std.specs.List.{list_all}
use Rattle.std.proofs.lemmas.List.Folds.{list_all-append}
use Rattle.std.proofs.lemmas.List.Sums.{length-filter, count_by-le-length}
use Rattle.std.proofs.lemmas.Bool.{and_parts, or_cases, or_right, false≢true}
use Rattle.std.proofs.lemmas.Bool.Decides.{nat_tests}
use Rattle.model.specs.Search.{any, member, is_distinct}
use Rattle.model.specs.State.{numbers, entries_without}
use Rattle.model.specs.declared.state.OpenEntry.{OpenEntry}

-- what a filter keeps of those who all pass a test passes another
pub all_pass_filter : {X : Type 0} (p r q : X → Bool) → ((x : X) → p x ≡ true → r x ≡ true → q x ≡ true) → (xs : List X) → list_all p xs ≡ true → list_all q (filter r xs) ≡ true
all_pass_filter p r q w [] h = refl
all_pass_filter p r q w (x ∷ xs) h = grind (arith, h, w x, all_pass_filter p r q w xs)

-- who all pass a test pass a weaker one
pub all_pass_wider : {X : Type 0} (p q : X → Bool) → ((x : X) → p x ≡ true → q x ≡ true) → (xs : List X) → list_all p xs ≡ true → list_all q xs ≡ true
all_pass_wider p q w [] h = refl
all_pass_wider p q w (x ∷ xs) h = grind (arith, h, w x, all_pass_wider p q w xs)

-- where all pass one test and some pass another, somebody passes both
pub any_passes : {X : Type 0} (p q : X → Bool) (xs : List X) → list_all p xs ≡ true → any q xs ≡ true → (x : X) × (p x ≡ true) × (q x ≡ true)
any_passes p q [] h k = absurd (false≢true k)
any_passes p q (x ∷ xs) h k =
    let parts = and_parts (p x) (list_all p xs) h in
    ⊎_elim (λ here. (x, parts.0, here)) (λ later. any_passes p q xs parts.1 later) (or_cases (q x) (any q xs) k)

-- what all pass, and one more
pub all_pass_push : {X : Type 0} (p : X → Bool) (xs : List X) (x : X) → list_all p xs ≡ true → p x ≡ true → list_all p (xs ++ x ∷ []) ≡ true
all_pass_push p xs x h k = grind (arith, h, k, list_all-append p xs (x ∷ []))

-- what all of a list pass, each member passes
pub all_pass_member : (p : ℕ → Bool) (d : ℕ) (xs : List ℕ) → list_all p xs ≡ true → member d xs ≡ true → p d ≡ true
all_pass_member p d [] h k = absurd (false≢true k)
all_pass_member p d (x ∷ xs) h k = grind (arith, nat_tests, all_pass_member p d xs)

-- what each member passes, all of a list pass
pub all_pass_from : (p : ℕ → Bool) (xs : List ℕ) → ((d : ℕ) → member d xs ≡ true → p d ≡ true) → list_all p xs ≡ true
all_pass_from p [] h = refl
all_pass_from p (x ∷ xs) h = grind (arith, nat_tests, h x, all_pass_from p xs (λ d m. h d (or_right (eqb x d) (member d xs) m)))

-- a filter leaves no more
pub kept_by_shorter : {X : Type 0} (p : X → Bool) (xs : List X) → length (filter p xs) ≤ length xs
kept_by_shorter p xs = omega (arith, length-filter p xs, count_by-le-length p xs)

-- who is open once one is taken out
pub open_closed : (x d : ℕ) (es : List OpenEntry) → member d (numbers (entries_without x es)) ≡ (not (eqb d x) && member d (numbers es))
open_closed x d [] = grind (arith, nat_tests)
open_closed x d (e ∷ es) = grind (arith, nat_tests, open_closed x d es)

-- taking out an open dispatch shortens the open list
pub closed_shorter : (x : ℕ) (es : List OpenEntry) → member x (numbers es) ≡ true → suc (length (entries_without x es)) ≤ length es
closed_shorter x [] h = absurd (false≢true h)
closed_shorter x (e ∷ es) h =
    grind (arith, nat_tests, kept_by_shorter (λ f. not (eqb f.dispatch x)) es, closed_shorter x es)

-- who is open once one has joined
pub open_push : (e : OpenEntry) (d : ℕ) (es : List OpenEntry) → member d (numbers (es ++ e ∷ [])) ≡ (member d (numbers es) || eqb e.dispatch d)
open_push e d [] = grind (arith, nat_tests)
open_push e d (f ∷ es) = grind (arith, nat_tests, open_push e d es)

-- numbers that differ from one differ from it once others are taken out
differs_closed : (x d : ℕ) (es : List OpenEntry) → list_all (λ y. not (eqb d y)) (numbers es) ≡ true → list_all (λ y. not (eqb d y)) (numbers (entries_without x es)) ≡ true
differs_closed x d [] h = refl
differs_closed x d (e ∷ es) h = grind (arith, nat_tests, differs_closed x d es)

-- open numbers still differ once one is taken out
pub distinct_closed : (x : ℕ) (es : List OpenEntry) → is_distinct eqb (numbers es) ≡ true → is_distinct eqb (numbers (entries_without x es)) ≡ true
distinct_closed x [] h = refl
distinct_closed x (e ∷ es) h =
    grind (arith, nat_tests, distinct_closed x es, differs_closed x e.dispatch es)

differs_push : (e : OpenEntry) (d : ℕ) (es : List OpenEntry) → list_all (λ y. not (eqb d y)) (numbers es) ≡ true → eqb d e.dispatch ≡ false → list_all (λ y. not (eqb d y)) (numbers (es ++ e ∷ [])) ≡ true
differs_push e d [] h k = grind (arith, nat_tests)
differs_push e d (f ∷ es) h k = grind (arith, nat_tests, differs_push e d es)

-- open numbers differ when one joins that was not open
pub distinct_push : (e : OpenEntry) (es : List OpenEntry) → is_distinct eqb (numbers es) ≡ true → member e.dispatch (numbers es) ≡ false → is_distinct eqb (numbers (es ++ e ∷ [])) ≡ true
distinct_push e [] h k = refl
distinct_push e (f ∷ es) h k =
    grind (arith, nat_tests, distinct_push e es, differs_push e f.dispatch es)
