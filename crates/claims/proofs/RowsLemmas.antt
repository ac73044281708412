-- Rows of marks while they are worked on, one after the other.
use Rattle.std.proofs.Common.{replicate, ⊎_elim, ◌≡◌, ℕ, ◌≤◌, false, cond, ◌&&◌, ltb, List, length, ap, ◌∙◌, arith}
use lib.ListN.{get_or-eq_default}
use Rattle.std.proofs.lemmas.Bool.{cases_lt}
use Rattle.std.proofs.lemmas.List.{get_or-replicate, length-replicate}
use Rattle.std.proofs.lemmas.Bool.Decides.{nat_tests}
use Rattle.dispatch_set.specs.declared.DispatchSet.{DispatchSet}
use Rattle.dispatch_set.specs.DispatchSet.{contains, empty_set}
use Rattle.dispatch_set.proofs.Bits.{none_marked}
use Rattle.model.specs.Graph.{by_way_of}
use Rattle.claims.specs.Rows.{relation}

-- the rows before a have the steps by way of k too, and the others are as they were
abbrev pub Stepped : ℕ → List DispatchSet → ℕ → List DispatchSet → Type 0
Stepped k old a rows =
    (length old ≡ 64) × (length rows ≡ 64)
    × ((j b : ℕ) → relation rows j b ≡ cond (ltb j a) (by_way_of k (relation old) j b) (relation old j b))

-- own marks the numbers before a whose own row marks them
abbrev pub Collected : List DispatchSet → ℕ → DispatchSet → Type 0
Collected rows a own = (length rows ≡ 64) × ((j : ℕ) → contains own j ≡ (ltb j a && relation rows j j))

-- no step leads from a number that has no row
no_row : (rows : List DispatchSet) (j b : ℕ) → length rows ≤ j → relation rows j b ≡ false
no_row rows j b h = ap (λ m. contains m b) (get_or-eq_default rows empty_set h) ∙ (λ i. none_marked i b)

-- once every row has the steps by way of k, the relation has them
pub all_stepped : (k : ℕ) (old : List DispatchSet) (a : ℕ) (rows : List DispatchSet) → 64 ≤ a → Stepped k old a rows → relation rows ≡ by_way_of k (relation old)
all_stepped k old a rows h s =
    λ i j b. at j b i
  where
    at : (j b : ℕ) → relation rows j b ≡ by_way_of k (relation old) j b
    at j b = grind (arith, nat_tests, s.2 j b, no_row old j b, no_row old j k)

-- once every row is looked at, own marks each number whose own row marks it
pub all_collected : (rows : List DispatchSet) (a : ℕ) (own : DispatchSet) → 64 ≤ a → Collected rows a own → (j : ℕ) → contains own j ≡ relation rows j j
all_collected rows a own h s j = grind (arith, nat_tests, s.1 j, no_row rows j j)

-- rows of one set: from each number that has a row lead the same steps, from the others none
pub same_rows : (m : DispatchSet) → contains m ≡ (λ k. false) → (a b : ℕ) → relation (replicate 64 m) a b ≡ false
same_rows m none a b =
    ⊎_elim (λ low. ap (λ s. contains s b) (get_or-replicate 64 a m empty_set low) ∙ (λ i. none i b))
    (λ high. no_row (replicate 64 m) a b (omega (arith, high, length-replicate 64 m))) (cases_lt a 64)
