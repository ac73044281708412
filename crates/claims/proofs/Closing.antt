-- The closure over the numbers below 64, one after the other.
use Rattle.std.proofs.Common.{◌≡◌, ℕ, zero, suc, ◌+◌, ◌<◌, ◌≤◌, Bool, true, List, [], ◌∷◌, ◌++◌, get_or, Decides, sym, refl, ap, ◌∙◌, add-one, arith}
use Rattle.std.specs.List.{range_with_len}
use Rattle.std.proofs.lemmas.Bool.Decides.{nat_tests, Decides-at}
use Rattle.dispatch_set.specs.declared.DispatchSet.{DispatchSet}
use Rattle.dispatch_set.specs.DispatchSet.{contains, empty_set}
use Rattle.dispatch_set.proofs.Bits.{marked_below}
use Rattle.model.specs.Search.{member}
use Rattle.model.specs.Graph.{OnCycle, by_way_of, closure}
use Rattle.model.proofs.Graphs.{on_cycle_exact}
use Rattle.claims.specs.Rows.{relation}

-- the closure over one number more has the steps by way of it too
closure_last : (ks : List ℕ) (k : ℕ) (r : ℕ → ℕ → Bool) → closure (ks ++ (k ∷ [])) r ≡ by_way_of k (closure ks r)
unfolding closure
closure_last [] k r = refl
closure_last (j ∷ ks) k r = closure_last ks k (by_way_of j r)

-- over no number the closure is the relation
pub none_yet : (r : ℕ → ℕ → Bool) → r ≡ closure [] r
unfolding closure
none_yet r = refl

-- the numbers from a on, and one more
range_more : (a n : ℕ) → range_with_len a (suc n) ≡ range_with_len a n ++ (a + n) ∷ []
range_more a zero = let same : a ≡ a + 0 = omega arith in ap (λ k. k ∷ []) same
range_more a (suc n) =
    let same : (a + 1) + n ≡ a + suc n = omega arith in
    ap (λ ks. a ∷ ks) (range_more (a + 1) n ∙ ap (λ k. range_with_len (a + 1) n ++ k ∷ []) same)

-- with the steps by way of k, the closure over the numbers below k is that over the numbers below k + 1
pub one_more : (k : ℕ) (r q s : ℕ → ℕ → Bool) → q ≡ closure (range_with_len 0 k) r → s ≡ by_way_of k q → s ≡ closure (range_with_len 0 (k + 1)) r
one_more k r q s h e =
    let same : 0 + k ≡ k = omega arith in
    let more = range_more 0 k ∙ ap (λ j. range_with_len 0 k ++ j ∷ []) same in
    rw add-one (e ∙ ap (by_way_of k) h ∙ sym (ap (λ ks. closure ks r) more ∙ closure_last (range_with_len 0 k) k r))

-- each number of a range is in it
range_member : (a n b : ℕ) → a ≤ b → b < a + n → member b (range_with_len a n) ≡ true
range_member a zero b low high = absurd (omega (arith, low, high))
range_member a (suc n) b low high = grind (arith, nat_tests, range_member (a + 1) n b)

-- whose own row marks them once the rows are closed are on a cycle of the rows
pub closed_exact : (rows closed : List DispatchSet) (own : DispatchSet) → relation closed ≡ closure (range_with_len 0 64) (relation rows) → ((a : ℕ) → contains own a ≡ relation closed a a) → (a : ℕ) → Decides (contains own a) (OnCycle (relation rows) a)
closed_exact rows closed own e h a =
    Decides-at (contains own a) (closure ((range_with_len 0 64)) (relation rows) a a) (h a ∙ (λ i. e i a a))
    (on_cycle_exact ((range_with_len 0 64)) (relation rows) (λ c b s. range_member 0 64 b (omega arith) (marked_below (get_or rows c empty_set) b s)) a)
