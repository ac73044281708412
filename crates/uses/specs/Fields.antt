-- Sharing a field and having all fields of another span.
use Rattle.std.specs.Prelude.{◌≡◌, ℕ, ◌<◌, ◌↔◌, Bool, true, not, ◌&&◌, ◌||◌, IsTrue, refl}
use Rattle.std.proofs.Common.{arith}
use Rattle.std.proofs.lemmas.Bool.Decides.{Decides-below_and, Decides-below_or, nat_tests}
use Rattle.uses.specs.Spans.{some_field, each_field, takes, share_a_field, has_all_fields_of}
use Rattle.uses.specs.declared.spans.Span.{Span}

-- the test of some field below n is right
some_field_decides :
    (n : ℕ) (p : ℕ → Bool) → (IsTrue (some_field n p) ↔ ((k : ℕ) × (k < n) × (p k ≡ true)))
unfolding some_field
some_field_decides n p =
    Decides-below_or p (λ k. p k ≡ true) (λ m. some_field m p) (λ k. (λ h. h, λ h. h))
    refl (λ _. refl) n

-- the test of each field below n is right
each_field_decides :
    (n : ℕ) (p : ℕ → Bool) → (IsTrue (each_field n p) ↔ ((k : ℕ) → k < n → p k ≡ true))
unfolding each_field
each_field_decides n p =
    Decides-below_and p (λ k. p k ≡ true) (λ m. each_field m p) (λ k. (λ h. h, λ h. h))
    refl (λ _. refl) n

-- two spans share a field exactly when both take one of the fields
pub sharing :
    (s t : Span)
    → (IsTrue (share_a_field s t) ↔ ((k : ℕ) × (k < 255) × ((takes s k && takes t k) ≡ true)))
sharing s t = some_field_decides 255 (λ field. takes s field && takes t field)

-- a span has all fields of another exactly when it takes each that the other takes
pub having :
    (s t : Span)
    → (IsTrue (has_all_fields_of s t)
    ↔ ((k : ℕ) → k < 255 → (not (takes t k) || takes s k) ≡ true))
having s t = each_field_decides 255 (λ field. not (takes t field) || takes s field)

-- sharing a field is symmetric
pub share_symmetric : (s t : Span) → share_a_field s t ≡ true → share_a_field t s ≡ true
share_symmetric s t h =
    let shared = (sharing s t).0 h in
    (sharing t s).1 (shared.0, shared.1, grind (arith, nat_tests, shared.2))

-- a span has all its own fields
pub has_its_own : (s : Span) → has_all_fields_of s s ≡ true
has_its_own s = (having s s).1 (λ k below. grind (arith, nat_tests))

-- what shares a field with t shares one with every span that has all fields of t
pub share_more :
    (s t u : Span) → has_all_fields_of s t ≡ true → share_a_field u t ≡ true
    → share_a_field u s ≡ true
share_more s t u all h =
    let shared = (sharing u t).0 h in
    let has = (having s t).0 all shared.0 shared.1 in
    (sharing u s).1 (shared.0, shared.1, grind (arith, nat_tests, shared.2, has))
