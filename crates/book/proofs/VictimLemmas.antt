-- Who goes first of those on a cycle.
use Rattle.std.proofs.Common.{◌≡◌, ℕ, ◌+◌, ◌<◌, Bool, true, false, cond, List, [], ◌∷◌, ◌++◌, length, get_or, take, Some, None, Decides, filter, Option, sym, refl, ap, ◌∙◌, append-nil}
use Rattle.std.specs.Option.{option_map}
use Rattle.std.proofs.lemmas.List.{map_more}
use Rattle.std.proofs.lemmas.List.Elements.{filter-append}
use Rattle.std.proofs.lemmas.Bool.{cond_both, cond-true, cond-false}
use Rattle.std.proofs.lemmas.Bool.Decides.{same_from_decides}
use Rattle.uses.specs.Relations.{Relations}
use Rattle.orders.specs.Laws.{OrderLaws}
use Rattle.dispatch_set.specs.DispatchSet.{contains}
use Rattle.dispatch_set.specs.declared.DispatchSet.{DispatchSet}
use Rattle.model.specs.Graph.{OnCycle, on_cycle}
use Rattle.model.specs.Claims.{waits_for}
use Rattle.model.specs.Invariant.{IsConsistent}
use Rattle.model.specs.State.{State, numbers}
use Rattle.model.specs.Recalling.{Order, summary, first, on_cycles}
use Rattle.model.proofs.Graphs.{on_cycle_exact}
use Rattle.model.proofs.Keeps.{consistent_grounded}
use Rattle.model.proofs.Recalls.{steps_open}
use Rattle.model.proofs.Turns.{kept_same, first_push, better as better_number}
use Rattle.model.specs.declared.state.OpenEntry.{OpenEntry}
use Rattle.book.specs.Tables.{better, candidate}

-- a set that is exact on cycles picks out those on cycles
pub filter-on_cycles : (u : Relations) (s : State) → IsConsistent s → (m : DispatchSet) → ((d : ℕ) → Decides (contains m d) (OnCycle (waits_for u s.claims) d)) → filter (contains m) (numbers s.opened) ≡ on_cycles u s
unfolding on_cycles
filter-on_cycles u s w m exact =
    let ks = numbers s.opened in
    let r = waits_for u s.claims in
    kept_same (contains m) (on_cycle ks r) ks
    (λ x here. same_from_decides (contains m x) (on_cycle ks r x) (exact x) (on_cycle_exact ks r (steps_open u s (consistent_grounded s w)) x))

-- an entry to read past the end
abbrev pub no_entry : OpenEntry
no_entry = record { dispatch = 0; weight = 0 }

-- one more of the open list, filtered
pub numbers_more : (m : ℕ → Bool) (es : List OpenEntry) (i : ℕ) (x : OpenEntry) → i < length es → filter m (numbers (take (i + 1) es)) ≡ filter m (numbers (take i es)) ++ cond (m (get_or es i x).dispatch) ((get_or es i x).dispatch ∷ []) []
numbers_more m es i x h =
    ap (filter m) (map_more (λ e. e.dispatch) es i x h) ∙ (filter-append m (numbers (take i es)) ((get_or es i x).dispatch ∷ []))

module _ (u : Relations) (o : Order) (lawful : OrderLaws o) (s : State) (m : ℕ → Bool) (es : List OpenEntry) (i : ℕ) (x : OpenEntry) (h : i < length es) where
  -- the candidate of the first so far, with one more that is in the set
  pub first_more : m (get_or es i x).dispatch ≡ true → Some (better o (option_map (candidate u s) (first u o s (filter m (numbers (take i es))))) (candidate u s (get_or es i x).dispatch)) ≡ option_map (candidate u s) (first u o s (filter m (numbers (take (i + 1) es))))
  first_more k =
      let d = (get_or es i x).dispatch in
      let ds = filter m (numbers (take i es)) in
      let more : filter m (numbers (take (i + 1) es)) ≡ ds ++ d ∷ [] = numbers_more m es i x h ∙ ap (λ b. ds ++ cond b (d ∷ []) []) k in
      some_better (first u o s ds) d ∙ ap (option_map (candidate u s)) (sym (first_push u o lawful s ds d) ∙ ap (first u o s) (sym more))
    where
      some_better : (v : Option ℕ) (d : ℕ) → Some (better o (option_map (candidate u s) v) (candidate u s d)) ≡ option_map (candidate u s) (better_number u o s d v)
      some_better None d = refl
      some_better (Some b) d =
          let first_is_later = o (summary u s d) (summary u s b) in
          cond_both first_is_later (candidate u s d) (candidate u s b) (λ c. Some c ≡ option_map (candidate u s) (cond first_is_later (Some d) (Some b)))
          (λ t. ap (option_map (candidate u s)) (sym (cond-true first_is_later (Some d) (Some b) t)))
          (λ t. ap (option_map (candidate u s)) (sym (cond-false first_is_later (Some d) (Some b) t)))

  -- the first so far, with one more that is not in the set
  pub first_same : m (get_or es i x).dispatch ≡ false → first u o s (filter m (numbers (take i es))) ≡ first u o s (filter m (numbers (take (i + 1) es)))
  first_same k =
      let ds = filter m (numbers (take i es)) in
      let more : filter m (numbers (take (i + 1) es)) ≡ ds = numbers_more m es i x h ∙ (ap (λ b. ds ++ cond b ((get_or es i x).dispatch ∷ []) []) k ∙ append-nil ds) in
      ap (first u o s) (sym more)

-- the number of a candidate that was made of one
pub candidate_number : (u : Relations) (s : State) (v : Option ℕ) → option_map (λ c. c.dispatch) (option_map (candidate u s) v) ≡ v
candidate_number u s None = refl
candidate_number u s (Some d) = refl

-- nothing is kept by a test that nothing passes
filter-nothing : (ns : List ℕ) → filter (λ n. false) ns ≡ []
filter-nothing [] = refl
filter-nothing (n ∷ ns) = filter-nothing ns

-- an empty set that is exact on cycles leaves nobody to be first
pub first_of_none : (u : Relations) (o : Order) (s : State) → IsConsistent s → (m : DispatchSet) → ((d : ℕ) → Decides (contains m d) (OnCycle (waits_for u s.claims) d)) → contains m ≡ (λ k. false) → None ≡ first u o s (on_cycles u s)
first_of_none u o s w m exact none =
    ap (first u o s) (sym (sym (filter-on_cycles u s w m exact) ∙ (ap (λ q. filter q (numbers s.opened)) none ∙ filter-nothing (numbers s.opened))))
