-- Recalling, as a relation: from one state to another the named are recalled, each the first of
-- those on cycles, until no cycle stands.
use Rattle.std.proofs.Common.{◌≡◌, ℕ, zero, suc, ◌≤◌, Bool, true, false, not, ◌&&◌, eqb, List, [], ◌∷◌, ◌++◌, length, Some, None, Decides, filter, Option, sym, refl, ap, ◌∙◌, subst, arith}
use Rattle.std.proofs.ByRecursion.{kept_by_passes, all_kept_by}
use Rattle.std.proofs.lemmas.List.{nil_from_length}
use Rattle.std.proofs.lemmas.Bool.{and_parts, and_from, false≢true, not-true}
use Rattle.std.proofs.lemmas.Bool.Decides.{nat_tests}
use Rattle.uses.specs.Relations.{Relations}
use Rattle.orders.specs.Laws.{OrderLaws}
use Rattle.model.specs.Search.{any, member}
use Rattle.model.specs.Graph.{OnCycle, HasCycle, on_cycle}
use Rattle.model.specs.Claims.{of, without, waits_for}
use Rattle.model.specs.State.{State, numbers, is_open, recall}
use Rattle.model.specs.Recalling.{Order, Recalled, summary, strictly_before, unbeaten, first, on_cycles, recall_and, recall_result_within, recall_result}
use Rattle.model.specs.Invariant.{NoCycle}
use Rattle.model.specs.Law.{once_recalled, IsRightVictim}
use Rattle.model.specs.declared.report.ReportEntry.{ReportEntry}
use Rattle.model.specs.declared.state.Claim.{Claim}
use Rattle.model.proofs.Graphs.{on_cycle_exact, first_step}
use Rattle.model.proofs.ClaimLists.{waits_for_ends}
use Rattle.model.proofs.Numbers.{all_pass_member, open_closed, closed_shorter}
use Rattle.model.proofs.Victims.{last_all, last_none, all_members, member_kept, kept_none, some_first}

-- a list with an element after others is not empty
pub some_after : {X : Type 0} (xs : List X) (y : X) (ys : List X) → ◌≡◌ {A = List X} [] (xs ++ y ∷ ys) → ⊥
some_after [] y ys e = cc
some_after (x ∷ xs) y ys e = cc

-- every claim is of an open dispatch
abbrev pub Grounded : State → Type 0
Grounded s = (d : ℕ) → any (of d) s.claims ≡ true → is_open s d ≡ true

-- from the first state to the second the named are recalled: each was on a cycle just before,
-- nobody on a cycle went strictly before it, and at the end no cycle stands
pub data Recalls (u : Relations) (o : Order) : State → List ReportEntry → State → Type 0 where
  done : {s : State} → NoCycle u s → Recalls u o s [] s
  next :
      {s t : State} {n : ReportEntry} {ns : List ReportEntry}
      → OnCycle (waits_for u s.claims) n.dispatch
      → ((e : ℕ) → OnCycle (waits_for u s.claims) e → strictly_before u o s e n.dispatch ≡ false)
      → Recalls u o (recall n.dispatch s) ns t → Recalls u o s (n ∷ ns) t

-- who has claims once a dispatch is taken out
pub any_of_without :
    (x d : ℕ) (cs : List Claim) → any (of d) (without x cs) ≡ (not (eqb d x) && any (of d) cs)
any_of_without x d [] = grind (arith, nat_tests)
any_of_without x d (c ∷ cs) = grind (arith, nat_tests, any_of_without x d cs)

-- a recall leaves every claim with an open dispatch
pub grounded_recall : (s : State) (x : ℕ) → Grounded s → Grounded (recall x s)
grounded_recall s x g d h =
    let parts = and_parts (not (eqb d x)) (any (of d) s.claims) (sym (any_of_without x d s.claims) ∙ h) in
    open_closed x d s.opened ∙ and_from (not (eqb d x)) (is_open s d) parts.0 (g d parts.1)

module _ (u : Relations) (s : State) (g : Grounded s) where
  -- every step of waiting leads to an open dispatch
  pub steps_open : (a b : ℕ) → waits_for u s.claims a b ≡ true → is_open s b ≡ true
  steps_open a b h = g b (waits_for_ends u s.claims a b h).1

  -- who is on a cycle is open
  pub cycle_open : (d : ℕ) → OnCycle (waits_for u s.claims) d → is_open s d ≡ true
  cycle_open d c =
      let out = first_step (waits_for u s.claims) c in g d (waits_for_ends u s.claims d out.0 out.1).0

  -- the list of those on cycles is exact
  pub in_cycles : (d : ℕ) → Decides (member d (on_cycles u s)) (OnCycle (waits_for u s.claims) d)
  unfolding on_cycles
  in_cycles d =
      let r = waits_for u s.claims in
      let ks = numbers s.opened in
      let kept = member_kept (on_cycle ks r) d ks in
      let exact = on_cycle_exact ks r steps_open d in (
        (λ h. exact.0 (and_parts (on_cycle ks r d) (member d ks) (sym kept ∙ h)).0),
        λ c. kept ∙ and_from (on_cycle ks r d) (member d ks) (exact.1 c) (cycle_open d c),
      )

-- the first goes no later than the second
abbrev pub no_later : Relations → Order → State → ℕ → ℕ → Bool
no_later u o s d e = not (strictly_before u o s e d)

module _ (u : Relations) (o : Order) (lawful : OrderLaws o) (s : State) where
  -- a set that is not empty has a first
  pub first_none : (ds : List ℕ) → first u o s ds ≡ None → ds ≡ []
  first_none [] e = refl
  first_none (x ∷ xs) e =
      let best =
      some_first (no_later u o s) (λ a b. grind (arith, lawful.total (summary u s a) (summary u s b)))
      (λ a b c h k. grind (arith, lawful.transitive (summary u s a) (summary u s b) (summary u s c)))
      x xs
      in
      absurd
      (kept_none (unbeaten u o s (x ∷ xs)) best.0 (x ∷ xs) (last_none (filter (unbeaten u o s (x ∷ xs)) (x ∷ xs)) e) best.2 best.1)

  -- the first of a set is in it, and nobody in it goes strictly before
  pub first_some :
      (ds : List ℕ) (d : ℕ) → first u o s ds ≡ Some d
      → (unbeaten u o s ds d ≡ true) × (member d ds ≡ true)
  first_some ds d e = (
    last_all (λ x. unbeaten u o s ds x ≡ true) (filter (unbeaten u o s ds) ds) d (kept_by_passes (unbeaten u o s ds) ds) e,
    last_all (λ x. member x ds ≡ true) (filter (unbeaten u o s ds) ds) d (all_kept_by (unbeaten u o s ds) (λ x. member x ds ≡ true) ds (all_members ds)) e,
  )

module _ (u : Relations) (o : Order) (lawful : OrderLaws o) where
  -- one turn: the first of those on cycles is recalled, and the rest follows
  turn :
      (s : State) (again : State → Recalled) → Grounded s
      → ((x : ℕ) → is_open s x ≡ true → Recalls u o (recall x s) (again (recall x s)).recalls (again (recall x s)).state)
      → (v : Option ℕ) → first u o s (on_cycles u s) ≡ v
      → Recalls u o s (recall_and u again s v).recalls (recall_and u again s v).state
  turn s again g rest None e =
      done (λ d c. false≢true (sym (ap (member d) (first_none u o lawful s (on_cycles u s) e)) ∙ (in_cycles u s g d).1 c))
  turn s again g rest (Some x) e =
      let chosen = first_some u o lawful s (on_cycles u s) x e in
      let cycle = (in_cycles u s g x).0 chosen.1 in
      next cycle
      (λ d c. not-true (strictly_before u o s d x) (all_pass_member (no_later u o s x) d (on_cycles u s) chosen.0 ((in_cycles u s g d).1 c)))
      (rest x (cycle_open u s g x cycle))

  -- with as many turns as open dispatches, recalling ends where no cycle stands
  recalls_at_most :
      (n : ℕ) (s : State) → Grounded s → length s.opened ≤ n
      → Recalls u o s (recall_result_within n u o s).recalls (recall_result_within n u o s).state
  unfolding recall_result_within
  recalls_at_most zero s g few =
      done
      (λ d c. false≢true (sym (ap (λ es. member d (numbers es)) (nil_from_length s.opened (omega arith))) ∙ cycle_open u s g d c))
  recalls_at_most (suc n) s g few =
      turn s (recall_result_within n u o) g
      (λ x here. recalls_at_most n (recall x s) (grounded_recall s x g) (omega (arith, closed_shorter x s.opened here)))
      (first u o s (on_cycles u s)) refl

  -- recalling recalls the first of those on cycles until no cycle stands
  pub recalling_recalls :
      (s : State) → Grounded s
      → Recalls u o s (recall_result u o s).recalls (recall_result u o s).state
  unfolding recall_result
  recalling_recalls s g = recalls_at_most (length s.opened) s g (omega arith)

module _ (u : Relations) (o : Order) where
  -- at the end no cycle stands
  pub recalls_clear : {s t : State} {ns : List ReportEntry} → Recalls u o s ns t → NoCycle u t
  recalls_clear (done clear) = clear
  recalls_clear (next cycle best rest) = recalls_clear rest

  -- the state at the end is the one with the named recalled
  pub recalls_state :
      {s t : State} {ns : List ReportEntry} → Recalls u o s ns t → once_recalled ns s ≡ t
  recalls_state (done clear) = refl
  recalls_state (next cycle best rest) = recalls_state rest

  -- where a cycle stands, somebody is recalled
  pub recalls_some :
      {s t : State} {ns : List ReportEntry} → Recalls u o s ns t → (d : ℕ)
      → OnCycle (waits_for u s.claims) d → ns ≡ [] → ⊥
  recalls_some (done clear) d c e = clear d c
  recalls_some (next cycle best rest) d c e = cc

  -- where somebody is recalled, a cycle stood
  pub recalls_cycle :
      {s t : State} {ns : List ReportEntry} → Recalls u o s ns t → (ns ≡ [] → ⊥)
      → HasCycle (waits_for u s.claims)
  recalls_cycle (done clear) some = absurd (some refl)
  recalls_cycle (next {n = n} cycle best rest) some = (n.dispatch, cycle)

  -- each of the named was the right one just before its recall
  pub recalls_right :
      {s t : State} {ns : List ReportEntry} → Recalls u o s ns t
      → (earlier later : List ReportEntry) (n : ReportEntry) → ns ≡ earlier ++ n ∷ later
      → IsRightVictim u o (once_recalled earlier s) n.dispatch
  recalls_right (done clear) earlier later n e = absurd (some_after earlier n later e)
  recalls_right {s} (next {n = k} cycle best rest) [] later n e =
      let same : k ≡ n = cc in subst (λ (m : ReportEntry). IsRightVictim u o s m.dispatch) same (record { on_cycle = cycle; none_before = best })
  recalls_right {s} (next {n = k} {ns = ks} cycle best rest) (m ∷ ms) later n e =
      let same : k ≡ m = cc in
      let tail : ks ≡ ms ++ n ∷ later = cc in
      subst (λ (j : ReportEntry). IsRightVictim u o (once_recalled ms (recall j.dispatch s)) n.dispatch) same (recalls_right rest ms later n tail)
