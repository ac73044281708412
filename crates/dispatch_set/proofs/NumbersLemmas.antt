-- The numbers of a set in ascending order, by induction over the range that they are taken from.
use Rattle.std.proofs.Common.{◌≡◌, ℕ, ◌+◌, ◌<◌, ◌≤◌, ◌/◌, ◌%◌, ◌^◌, Bool, true, false, not, ◌&&◌, ◌==◌, List, [], ◌∷◌, length, zero, suc, refl, ap, ◌∙◌, arith}
use Rattle.std.proofs.Math.Logic.{inl, inr}
use Rattle.std.proofs.Math.Nat.{eq-or-lt_of_le}
use Rattle.std.specs.List.{filter, range_with_len, All}
use Rattle.std.specs.Int.{bit_at}
use Rattle.std.specs.Int.Count.{ones, ones_step}
use Rattle.std.proofs.lemmas.Bool.Decides.{nat_tests}
use Rattle.std.proofs.lemmas.List.Elements.{filter_passes}
use Rattle.std.proofs.lemmas.Nat.Bits.{bit_at-suc, bit_at_lowest}
use Rattle.dispatch_set.specs.declared.DispatchSet.{DispatchSet}
use Rattle.dispatch_set.specs.declared.TheConstants.{LIMIT}
use Rattle.dispatch_set.specs.DispatchSet.{contains, numbers_in, IsLeast}
use Rattle.dispatch_set.proofs.Bits.{marked_below}

-- where no number passes, none is kept
filter_none : (p : ℕ → Bool) (xs : List ℕ) → p ≡ (λ k. false) → filter p xs ≡ []
filter_none p [] none = refl
filter_none p (x ∷ xs) none = rw (none, filter_none p xs none) refl

module _ (p q : ℕ → Bool) where
  -- two tests that agree from a on keep the same numbers from there
  agree_from : (a n : ℕ) → ((j : ℕ) → a ≤ j → q j ≡ p j) → filter q (range_with_len a n) ≡ filter p (range_with_len a n)
  agree_from a zero same = refl
  agree_from a (suc n) same = rw (same a (omega arith), agree_from (a + 1) n (λ j from. same j (omega arith))) refl

  module _ (k : ℕ) (yes : p k ≡ true) (none : (j : ℕ) → j < k → p j ≡ false) (without : (j : ℕ) → q j ≡ (not (j == k) && p j)) where
    -- the first number that passes, and behind it those that pass without it
    filter_first : (a n : ℕ) → a ≤ k → k < a + n → filter p (range_with_len a n) ≡ k ∷ filter q (range_with_len a n)
    filter_first a zero from to = absurd (omega arith)
    filter_first a (suc n) from to = elim (eq-or-lt_of_le from) [
      | inl here ↦
          let there : p a ≡ true = rw (here) yes in
          let gone : q a ≡ false = grind (arith, nat_tests, without a, here) in
          rw (there, gone, here, agree_from (k + 1) n (λ j behind. grind (arith, nat_tests, without j))) refl
      | inr before ↦
          let not_yet : p a ≡ false = none a before in
          let not_here : q a ≡ false = grind (arith, nat_tests, without a, not_yet) in
          rw (not_yet, not_here) (filter_first (a + 1) n (omega arith) (omega arith))
    ]

-- no number is in order where none is in the set
pub numbers_in-none : (s : DispatchSet) → contains s ≡ (λ k. false) → numbers_in s ≡ []
unfolding numbers_in
numbers_in-none s none = filter_none (contains s) (range_with_len 0 LIMIT) none

-- the least number of a set, and then those of the set without it
pub numbers_in-first : (s t : DispatchSet) (k : ℕ) → IsLeast s k → contains t ≡ (λ j. not (j == k) && contains s j) → numbers_in s ≡ k ∷ numbers_in t
unfolding numbers_in
numbers_in-first s t k least without =
    filter_first (contains s) (contains t) k least.0 least.1 (λ j. ap (λ f. f j) without) 0 LIMIT (omega arith) (omega (arith, marked_below s k least.0))

-- each of them is in the set
pub numbers_in-contains : (s : DispatchSet) → All (λ k. contains s k ≡ true) (numbers_in s)
unfolding numbers_in
numbers_in-contains s = filter_passes (contains s) (range_with_len 0 LIMIT)

-- the numbers whose digit is set, from a on, are as many as the digits of what stands there
count_from : (p : ℕ → Bool) (n a m : ℕ) → ((j : ℕ) → j < m → p (a + j) ≡ (bit_at n j == 1)) → n < 2 ^ m → length (filter p (range_with_len a m)) ≡ ones n
unfolding ones
count_from p n a zero digits small = let nothing : n ≡ 0 = grind (arith) in rw (nothing) refl
count_from p n a (suc m) digits small =
    let here : p a ≡ (n % 2 == 1) = ap p (omega arith) ∙ digits 0 (omega arith) ∙ ap (λ b. b == 1) (bit_at_lowest n) in
    let others = count_from p (n / 2) (a + 1) m (λ j in_range. ap p (omega arith) ∙ digits (suc j) (omega arith) ∙ ap (λ b. b == 1) (bit_at-suc n j)) (grind (arith)) in
    grind (arith, nat_tests, here, others, ones_step n)

-- there are as many as bits are set
pub length-numbers_in : (s : DispatchSet) → s.bits < 2 ^ 64 → length (numbers_in s) ≡ ones s.bits
unfolding numbers_in contains
length-numbers_in s small = count_from (contains s) s.bits 0 LIMIT (λ j in_range. grind (arith, nat_tests)) small
