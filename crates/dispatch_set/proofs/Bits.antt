-- What is in a word.
use Rattle.std.proofs.Common.{◌≡◌, ℕ, ◌<◌, ◌^◌, true, false, arith}
use Rattle.std.proofs.Math.Path.{fun_ext}
use Rattle.std.specs.Int.{w64, trailing_zeros}
use Rattle.std.proofs.lemmas.Bool.Decides.{nat_tests}
use Rattle.std.proofs.lemmas.Nat.Bits.{bit_at_or, bit_at-trailing_zeros}
use Rattle.dispatch_set.specs.declared.DispatchSet.{DispatchSet}
use Rattle.dispatch_set.specs.DispatchSet.{contains, empty_set, IsLeast}

-- only numbers below 64 are in a set
pub marked_below : (m : DispatchSet) (k : ℕ) → contains m k ≡ true → k < 64
unfolding contains
marked_below m k h = grind (arith, nat_tests)

-- no number is in the empty set
pub none_marked : contains empty_set ≡ (λ k. false)
unfolding contains
none_marked = fun_ext (λ k. grind (arith, nat_tests))

-- in a word that is not 0 the lowest bit gives the least number
pub lowest_is_least : (s : DispatchSet) → 0 < s.bits → s.bits < 2 ^ 64 → IsLeast s (trailing_zeros w64 s.bits)
unfolding contains
lowest_is_least s some small =
    let lowest = bit_at-trailing_zeros w64 s.bits some small in
    (grind (arith, nat_tests, lowest.0, lowest.1), (λ j before. grind (arith, nat_tests, lowest.2 j before)))

-- what `grind` needs of the operations on a word
pub ruleset bits = (nat_tests, fun_ext, bit_at_or)
