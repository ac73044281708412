-- Graphs: the closure of a relation is what it leads to, and chains without a cycle are short.
use Rattle.std.proofs.Common.{◌≡◌, ℕ, ◌<◌, ◌≤◌, Bool, true, false, not, ◌&&◌, eqb, List, [], ◌∷◌, length, Decides, sym, refl, ◌∙◌, subst, inl, inr, arith}
use Rattle.std.specs.List.{list_all, list_any, AllByRecursion, IsDistinct}
use Rattle.std.specs.Set.{is_member}
use Rattle.std.proofs.ByRecursion.{All-weaker, Decides-by_and}
use Rattle.std.proofs.lemmas.Cmp.{nat_eq_equiv}
use Rattle.std.proofs.lemmas.Map.Made.{length-le_from_is_member}
use Rattle.std.proofs.lemmas.Map.Steps.{length-le_from_distinct_below}
use Rattle.std.proofs.lemmas.Bool.{false≢true, not-true, not_from_false, and_parts, and_from, or_cases, or_left, eqb-true}
use Rattle.std.proofs.lemmas.Bool.Decides.{nat_tests, Decides-eqb, Decides-not}
use Rattle.model.specs.Search.{member, is_distinct}
use Rattle.model.specs.Graph.{Leads, OnCycle, IsAcyclic, LeadsInto, Chain, end_of, by_way_of, closure, on_cycle}
use Rattle.model.specs.Graph.Leads.{one, more}
use Rattle.model.proofs.Anys.{any_same, any_all}

-- leading on from where one leads is leading there from the start
pub leads_join : (r : ℕ → ℕ → Bool) {a b c : ℕ} → Leads r a b → Leads r b c → Leads r a c
leads_join r (one h) l = more h l
leads_join r (more h k) l = more h (leads_join r k l)

-- where r leads along each step of q, it leads wherever q leads
leads_expand :
    (q r : ℕ → ℕ → Bool) → ((a b : ℕ) → q a b ≡ true → Leads r a b) → {a b : ℕ} → Leads q a b
    → Leads r a b
leads_expand q r f (one h) = f _ _ h
leads_expand q r f (more h l) = leads_join r (f _ _ h) (leads_expand q r f l)

-- a relation with more steps leads at least as far
pub leads_wider :
    (r q : ℕ → ℕ → Bool) → ((a b : ℕ) → r a b ≡ true → q a b ≡ true) → {a b : ℕ} → Leads r a b
    → Leads q a b
leads_wider r q f l = leads_expand r q (λ a b h. one (f a b h)) l

-- what leads anywhere has a first step
pub first_step : (r : ℕ → ℕ → Bool) {a b : ℕ} → Leads r a b → (c : ℕ) × (r a c ≡ true)
first_step r (one h) = (_, h)
first_step r (more h l) = (_, h)

-- what leads anywhere has a last step
pub last_step : (r : ℕ → ℕ → Bool) {a b : ℕ} → Leads r a b → (c : ℕ) × (r c b ≡ true)
last_step r (one h) = (_, h)
last_step r (more h l) = last_step r l

-- a step by way of k is one step or two
by_way_of_leads : (k : ℕ) (r : ℕ → ℕ → Bool) (a b : ℕ) → by_way_of k r a b ≡ true → Leads r a b
by_way_of_leads k r a b h =
    elim (or_cases (r a b) (r a k && r k b) h)
    [ inl s ↦ one s | inr t ↦ let p = and_parts (r a k) (r k b) t in more p.0 (one p.1) ]

-- the closure holds only where the relation leads
pub closure_sound :
    (ks : List ℕ) (r : ℕ → ℕ → Bool) (a b : ℕ) → closure ks r a b ≡ true → Leads r a b
unfolding closure
closure_sound [] r a b h = one h
closure_sound (k ∷ ks) r a b h = leads_expand (by_way_of k r) r (by_way_of_leads k r) (closure_sound ks (by_way_of k r) a b h)

-- the closure keeps each step
closure_keeps : (ks : List ℕ) (r : ℕ → ℕ → Bool) (a b : ℕ) → r a b ≡ true → closure ks r a b ≡ true
unfolding closure
closure_keeps [] r a b h = h
closure_keeps (k ∷ ks) r a b h = closure_keeps ks (by_way_of k r) a b (or_left (r a b) (r a k && r k b) h)

-- two steps that meet at k make one step
abbrev TransitiveAt : ℕ → (ℕ → ℕ → Bool) → Type 0
TransitiveAt k r = (a b : ℕ) → r a k ≡ true → r k b ≡ true → r a b ≡ true

-- with steps by way of k, a relation is transitive at k
by_way_of_transitive : (k : ℕ) (r : ℕ → ℕ → Bool) → TransitiveAt k (by_way_of k r)
by_way_of_transitive k r a b h i = grind (arith, nat_tests)

-- a relation that is transitive at k stays so in the closure
transitive_kept :
    (ks : List ℕ) (k : ℕ) (r : ℕ → ℕ → Bool) → TransitiveAt k r → TransitiveAt k (closure ks r)
unfolding closure
transitive_kept [] k r t = t
transitive_kept (j ∷ ks) k r t =
    transitive_kept ks k (by_way_of j r) (λ a b h i. grind (arith, nat_tests, t a b, t a j, t j b))

-- the closure is transitive at each listed number
closure_transitive :
    (ks : List ℕ) (k : ℕ) (r : ℕ → ℕ → Bool) → member k ks ≡ true → TransitiveAt k (closure ks r)
unfolding closure
closure_transitive [] k r h = absurd (false≢true h)
closure_transitive (j ∷ ks) k r h =
    elim (or_cases (eqb j k) (member k ks) h) [
      | inl e ↦ transitive_kept ks k (by_way_of j r) (rw (eqb-true j k e) (by_way_of_transitive k r))
      | inr m ↦ closure_transitive ks k (by_way_of j r) m
    ]

-- the closure holds wherever the relation leads, if each step leads to a listed number
pub closure_complete :
    (ks : List ℕ) (r : ℕ → ℕ → Bool) → LeadsInto ks r → {a b : ℕ} → Leads r a b
    → closure ks r a b ≡ true
closure_complete ks r listed (one h) = closure_keeps ks r _ _ h
closure_complete ks r listed (more h l) =
    closure_transitive ks _ r (listed _ _ h) _ _ (closure_keeps ks r _ _ h) (closure_complete ks r listed l)

-- the test for a cycle holds exactly on cycles
pub on_cycle_exact :
    (ks : List ℕ) (r : ℕ → ℕ → Bool) → LeadsInto ks r → (a : ℕ)
    → Decides (on_cycle ks r a) (OnCycle r a)
on_cycle_exact ks r listed a = (closure_sound ks r a a, λ l. closure_complete ks r listed l)

-- a list has a number, by the library's word
member_is : (x : ℕ) (ys : List ℕ) → is_member eqb ys x ≡ member x ys
member_is x ys = any_same (eqb x) (λ y. eqb y x) (λ y. grind (arith, nat_tests)) ys

-- what all of a list have, each member has
of_all :
    (P : ℕ → Type 0) (xs : List ℕ) → AllByRecursion P xs → (q : ℕ) → list_any (eqb q) xs ≡ true
    → P q
of_all P xs h q m = let x = any_all (eqb q) P xs h m in subst P (sym (eqb-true q x.0 x.2)) x.1

-- numbers are distinct, by the library's word
distinct_is : (xs : List ℕ) → is_distinct eqb xs ≡ true → IsDistinct eqb xs
unfolding IsDistinct
distinct_is [] d = tt
distinct_is (x ∷ xs) d =
    let p = and_parts (list_all (λ y. not (eqb x y)) xs) (is_distinct eqb xs) d in
    ((differs x xs).0 p.0, distinct_is xs p.1)
  where
    differs :
        (a : ℕ) (bs : List ℕ)
        → Decides (list_all (λ b. not (eqb a b)) bs) (AllByRecursion (λ b. eqb a b ≡ false) bs)
    differs a bs = Decides-by_and (λ b. not (eqb a b)) (λ b. eqb a b ≡ false) (list_all (λ b. not (eqb a b))) (λ b. (not-true (eqb a b), not_from_false (eqb a b))) refl (λ _ _. refl) bs

-- distinct numbers that are all members of a list are no more than its places
pub pigeonhole :
    (xs ys : List ℕ) → is_distinct eqb xs ≡ true → AllByRecursion (λ x. member x ys ≡ true) xs
    → length xs ≤ length ys
pigeonhole xs ys d h = length-le_from_is_member nat_eq_equiv xs ys (distinct_is xs d) (λ q m. member_is q ys ∙ of_all (λ x. member x ys ≡ true) xs h q m)

-- distinct numbers below n are at most n
pub at_most :
    (n : ℕ) (xs : List ℕ) → is_distinct eqb xs ≡ true → AllByRecursion (λ x. x < n) xs
    → length xs ≤ n
at_most n xs d h = length-le_from_distinct_below xs n (distinct_is xs d) (of_all (λ x. x < n) xs h)

-- each number that a chain steps to is listed
pub chain_members :
    (ks : List ℕ) (r : ℕ → ℕ → Bool) → LeadsInto ks r → (a : ℕ) (bs : List ℕ) → Chain r a bs
    → AllByRecursion (λ b. member b ks ≡ true) bs
chain_members ks r listed a [] c = tt
chain_members ks r listed a (b ∷ bs) c = (listed a b c.0, chain_members ks r listed b bs c.1)

-- a chain from a listed number ends at one
pub end_member :
    (ks : List ℕ) (r : ℕ → ℕ → Bool) → LeadsInto ks r → (a : ℕ) (bs : List ℕ) → member a ks ≡ true
    → Chain r a bs → member (end_of a bs) ks ≡ true
end_member ks r listed a [] h c = h
end_member ks r listed a (b ∷ bs) h c = end_member ks r listed b bs (listed a b c.0) c.1

-- a chain leads to each of its numbers
chain_leads :
    (r : ℕ → ℕ → Bool) (a : ℕ) (bs : List ℕ) → Chain r a bs → AllByRecursion (Leads r a) bs
chain_leads r a [] c = tt
chain_leads r a (b ∷ bs) c = (one c.0, All-weaker (Leads r b) (Leads r a) (λ x l. more c.0 l) bs (chain_leads r b bs c.1))

-- the test whether a number differs from each of a list is exact
differs_from_all :
    (a : ℕ) (bs : List ℕ)
    → Decides (list_all (λ b. not (eqb a b)) bs) (AllByRecursion (λ b. a ≡ b → ⊥) bs)
differs_from_all a bs =
    Decides-by_and (λ b. not (eqb a b)) (λ b. a ≡ b → ⊥) (list_all (λ b. not (eqb a b))) (λ b. Decides-not (eqb a b) (Decides-eqb a b)) refl (λ _ _. refl) bs

-- without a cycle the numbers of a chain are distinct
pub chain_distinct :
    (r : ℕ → ℕ → Bool) → IsAcyclic r → (a : ℕ) (bs : List ℕ) → Chain r a bs
    → is_distinct eqb (a ∷ bs) ≡ true
chain_distinct r acyclic a [] c = refl
chain_distinct r acyclic a (b ∷ bs) c =
    and_from (list_all (λ y. not (eqb a y)) (b ∷ bs)) (is_distinct eqb (b ∷ bs))
    ((differs_from_all a (b ∷ bs)).1 (All-weaker (Leads r a) (λ y. a ≡ y → ⊥) (λ y l e. acyclic a (subst (Leads r a) (sym e) l)) (b ∷ bs) (chain_leads r a (b ∷ bs) c)))
    (chain_distinct r acyclic b bs c.1)

-- without a cycle a chain among listed numbers has fewer steps than there are places in the list
pub chain_short :
    (ks : List ℕ) (r : ℕ → ℕ → Bool) → LeadsInto ks r → IsAcyclic r → (a : ℕ) (bs : List ℕ)
    → member a ks ≡ true → Chain r a bs → length bs < length ks
chain_short ks r listed acyclic a bs h c =
    pigeonhole (a ∷ bs) ks (chain_distinct r acyclic a bs c) (h, chain_members ks r listed a bs c)
