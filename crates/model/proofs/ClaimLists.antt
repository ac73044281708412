-- Claim lists with a claim pushed, or without a dispatch: who waits, who waits for whom, and who holds what.
use Rattle.std.proofs.Common.{◌≡◌, ℕ, ◌+◌, ◌≤◌, Bool, true, false, cond, not, ◌&&◌, ◌||◌, eqb, List, [], ◌∷◌, ◌++◌, map, length, is_some, Some, None, filter, Option, sym, refl, ap, ◌∙◌, inl, inr, append_assoc, append-nil, arith, length-append}
use mathlib.Core.Bool.{and_assoc, or-false}
use Rattle.std.specs.Option.{option_map}
use Rattle.std.proofs.lemmas.List.Elements.{filter-append}
use Rattle.std.proofs.lemmas.Bool.{and_parts, and_from, or_left, eq-eqb, not-true, not_from_false, cases_Bool, both_ways}
use Rattle.std.proofs.lemmas.Bool.Decides.{nat_tests}
use Rattle.uses.specs.Relations.{Relations, UseLaws}
use Rattle.model.specs.Search.{any, find}
use Rattle.model.specs.Graph.{OnCycle}
use Rattle.model.specs.Claims.{InLine, in_line_behind, in_line, of, blocks, waits, dispatch_waits, waits_for, waiting_section, waiting_claims, is_covered, claim_waits, without}
use Rattle.model.specs.declared.state.Claim.{Claim}
use Rattle.model.proofs.Graphs.{leads_wider}
use Rattle.model.proofs.Anys.{any_append, any_wider, any_map, any_found, kept_nothing, find_any}

-- the claim in its place, with the claims of the dispatch taken out before it
abbrev pub strip : ℕ → InLine → InLine
strip d p = record { earlier = without d p.earlier; claim = p.claim }

-- a claim pushed to claims that stand behind others
placed_behind_push : (earlier cs : List Claim) (c : Claim) → in_line_behind earlier (cs ++ c ∷ []) ≡ in_line_behind earlier cs ++ record { earlier = earlier ++ cs; claim = c } ∷ []
placed_behind_push earlier [] c = rw append-nil
placed_behind_push earlier (b ∷ cs) c = rw (placed_behind_push (earlier ++ b ∷ []) cs c, append_assoc)

-- a pushed claim stands behind all others
pub placed_push : (cs : List Claim) (c : Claim) → in_line (cs ++ c ∷ []) ≡ in_line cs ++ record { earlier = cs; claim = c } ∷ []
placed_push cs c = placed_behind_push [] cs c

-- a dispatch taken out of claims that stand behind others, and out of those
placed_behind_without : (d : ℕ) (earlier cs : List Claim) → in_line_behind (without d earlier) (without d cs) ≡ map (strip d) (filter (λ p. not (of d p.claim)) (in_line_behind earlier cs))
placed_behind_without d earlier [] = refl
placed_behind_without d earlier (c ∷ cs) = grind (arith, placed_behind_without d (earlier ++ c ∷ []) cs, filter-append (λ b. not (of d b)) earlier (c ∷ []), append-nil (without d earlier))

-- taking a dispatch out takes its claims out of their places and out of what stands before the others
pub placed_without : (d : ℕ) (cs : List Claim) → in_line (without d cs) ≡ map (strip d) (filter (λ p. not (of d p.claim)) (in_line cs))
placed_without d cs = placed_behind_without d [] cs

-- a test of placed claims on a list with a claim pushed
any_push : (q : InLine → Bool) (cs : List Claim) (c : Claim) → any q (in_line (cs ++ c ∷ [])) ≡ (any q (in_line cs) || q (record { earlier = cs; claim = c }))
any_push q cs c = rw (placed_push cs c, any_append q (in_line cs) (record { earlier = cs; claim = c } ∷ []), or-false)

-- where the claims of x are filtered out, a claim of d passes exactly when d is not x and it passed before
any_of_kept : {X : Type 0} (g : X → Claim) (d x : ℕ) (r : X → Bool) (ps : List X) → any (λ p. of d (g p) && r p) (filter (λ p. not (of x (g p))) ps) ≡ (not (eqb d x) && any (λ p. of d (g p) && r p) ps)
any_of_kept g d x r [] = grind (arith, nat_tests)
any_of_kept g d x r (p ∷ ps) = grind (arith, nat_tests, any_of_kept g d x r ps)

-- a test that does not look at the element comes out of the search
any_out : {X : Type 0} (t : Bool) (f g : X → Bool) (xs : List X) → any (λ x. f x && (t && g x)) xs ≡ (t && any (λ x. f x && g x) xs)
any_out t f g [] = grind (arith, nat_tests)
any_out t f g (x ∷ xs) = grind (arith, nat_tests, any_out t f g xs)

-- what is found among the kept is found among all
any_fewer : {X : Type 0} (p q : X → Bool) (xs : List X) → any q (filter p xs) ≡ true → any q xs ≡ true
any_fewer p q [] = λ h. h
any_fewer p q (x ∷ xs) = λ h. grind (arith, any_fewer p q xs)

-- a test of the claims alone may be made in their places
pub any_claims : (q : Claim → Bool) (earlier cs : List Claim) → any (λ p. q p.claim) (in_line_behind earlier cs) ≡ any q cs
any_claims q earlier [] = refl
any_claims q earlier (c ∷ cs) = rw (any_claims q (earlier ++ c ∷ []) cs)

-- a claim of d on a list without x, in its place, passes exactly when d is not x and it passes with x taken out before it
any_of_without : (d x : ℕ) (r : InLine → Bool) (cs : List Claim) → any (λ p. of d p.claim && r p) (in_line (without x cs)) ≡ (not (eqb d x) && any (λ p. of d p.claim && r (strip x p)) (in_line cs))
any_of_without d x r cs = rw (placed_without x cs, any_map) (any_of_kept (λ p. p.claim) d x (λ p. r (strip x p)) (in_line cs))

-- fewer are kept after a filter and a change, where what passes changed passes unchanged
kept_fewer : {X : Type 0} (q k : X → Bool) (f : X → X) → ((x : X) → q (f x) ≡ true → q x ≡ true) → (xs : List X) → length (filter q (map f (filter k xs))) ≤ length (filter q xs)
kept_fewer q k f back [] = omega arith
kept_fewer q k f back (x ∷ xs) = grind (arith, back x, kept_fewer q k f back xs)

-- what is found earlier is found in the whole list
any_earlier : (r : Claim → Bool) (earlier cs : List Claim) → any (λ p. any r p.earlier) (in_line_behind earlier cs) ≡ true → any r (earlier ++ cs) ≡ true
any_earlier r earlier [] = λ h. grind arith
any_earlier r earlier (c ∷ cs) = λ h. grind (arith, any_earlier r (earlier ++ c ∷ []) cs, any_append r earlier (c ∷ cs), append_assoc earlier (c ∷ []) cs)

-- a mapped option has a value exactly when the option has
some_mapped : {X Y : Type 0} (f : X → Y) (o : Option X) → is_some (option_map f o) ≡ is_some o
some_mapped f None = refl
some_mapped f (Some x) = refl

-- the dispatch has a held claim on the section that covers the use
abbrev pub backed : Relations → List Claim → ℕ → ℕ → ℕ → Bool
backed u cs d section mode = any (λ p. of d p.claim && (eqb p.claim.section section && (u.cover p.claim.mode mode && not (waits u p)))) (in_line cs)

module _ (u : Relations) where
  -- the claim is the dispatch's, is on the section, and covers the use
  abbrev covers : ℕ → ℕ → ℕ → Claim → Bool
  covers d s m c = of d c && (eqb c.section s && u.cover c.mode m)

  -- the placed claim is the dispatch's and waits
  abbrev waiting : ℕ → InLine → Bool
  waiting d p = of d p.claim && waits u p

  -- a claim of the dispatch blocks the placed claim
  abbrev blocked_by : ℕ → InLine → Bool
  blocked_by e p = any (λ b. of e b && blocks u b p.claim) p.earlier

  -- who is blocked by a dispatch's claim waits
  blocked_waits : (e : ℕ) (p : InLine) → blocked_by e p ≡ true → waits u p ≡ true
  blocked_waits e p h = any_wider _ _ (λ b k. (and_parts _ _ k).1) p.earlier h

  -- a pushed claim adds the steps from its dispatch to those whose claims block it
  pub waits_for_push : (cs : List Claim) (c : Claim) (d e : ℕ) → waits_for u (cs ++ c ∷ []) d e ≡ (waits_for u cs d e || (of d c && any (λ b. of e b && blocks u b c) cs))
  waits_for_push cs c d e = any_push (λ p. of d p.claim && blocked_by e p) cs c

  -- with x taken out, a claim of e blocks exactly when e is not x and it blocked before
  blocked_without : (e x : ℕ) (p : InLine) → blocked_by e (strip x p) ≡ (not (eqb e x) && blocked_by e p)
  blocked_without e x p = any_of_kept (λ b. b) e x (λ b. blocks u b p.claim) p.earlier

  -- taking a dispatch out takes exactly the steps from it and to it away
  pub waits_for_without : (x : ℕ) (cs : List Claim) (d e : ℕ) → waits_for u (without x cs) d e ≡ ((not (eqb d x) && not (eqb e x)) && waits_for u cs d e)
  waits_for_without x cs d e = rw (any_of_without d x (blocked_by e) cs) (simp (blocked_without, any_out, and_assoc))

  -- a dispatch waits after a push if it waited, or if the claim is its own and is blocked
  pub dispatch_waits_push : (cs : List Claim) (c : Claim) (d : ℕ) → dispatch_waits u (cs ++ c ∷ []) d ≡ (dispatch_waits u cs d || (of d c && any (λ b. blocks u b c) cs))
  dispatch_waits_push cs c d = any_push (waiting d) cs c

  -- with fewer claims before it a claim waits less
  waits_less : (x : ℕ) (p : InLine) → waits u (strip x p) ≡ true → waits u p ≡ true
  waits_less x p h = any_fewer (λ b. not (of x b)) (λ b. blocks u b p.claim) p.earlier h

  -- who waits without a dispatch waited with it, and is another
  pub dispatch_waits_without : (cs : List Claim) (x d : ℕ) → dispatch_waits u (without x cs) d ≡ true → (dispatch_waits u cs d ≡ true) × (eqb d x ≡ false)
  dispatch_waits_without cs x d h =
      let parts = and_parts (not (eqb d x)) (any (λ p. of d p.claim && waits u (strip x p)) (in_line cs)) (rw (any_of_without d x (waits u) cs) at h) in
      (any_wider _ _ (λ p k. grind (arith, waits_less x p)) (in_line cs) parts.1, not-true _ parts.0)

  -- who waits for a dispatch waits
  pub waits_for_waits : (cs : List Claim) (d e : ℕ) → waits_for u cs d e ≡ true → dispatch_waits u cs d ≡ true
  waits_for_waits cs d e h = any_wider _ _ (λ p k. grind (arith, blocked_waits e p)) (in_line cs) h

  -- who waits waits for some dispatch
  pub waits_waits_for : (cs : List Claim) (d : ℕ) → dispatch_waits u cs d ≡ true → (e : ℕ) × (waits_for u cs d e ≡ true)
  waits_waits_for cs d h =
      let p = any_found (waiting d) (in_line cs) h in
      let parts = and_parts (of d p.0.claim) (waits u p.0) p.1 in
      let b = any_found (λ b. blocks u b p.0.claim) p.0.earlier parts.1 in
      let e = b.0.dispatch in
      (e, p.2 (λ q. of d q.claim && blocked_by e q) (and_from _ _ parts.0 (b.2 (λ c. of e c && blocks u c p.0.claim) (and_from _ _ (eq-eqb e e refl) b.1))))

  -- both ends of a step have claims
  pub waits_for_ends : (cs : List Claim) (d e : ℕ) → waits_for u cs d e ≡ true → (any (of d) cs ≡ true) × (any (of e) cs ≡ true)
  waits_for_ends cs d e h = (
    rw (any_claims (of d) [] cs) at (any_wider _ (λ p. of d p.claim) (λ p k. (and_parts _ _ k).0) (in_line cs) h),
    any_earlier (of e) [] cs (any_wider _ (λ p. any (of e) p.earlier) (λ p k. any_wider _ (of e) (λ b l. (and_parts _ _ l).0) p.earlier (and_parts _ _ k).1) (in_line cs) h),
  )

  -- a push adds one waiting claim if the claim is blocked
  pub waiting_claims_push : (cs : List Claim) (c : Claim) (d : ℕ) → waiting_claims u (cs ++ c ∷ []) d ≡ waiting_claims u cs d + cond (of d c && any (λ b. blocks u b c) cs) 1 0
  waiting_claims_push cs c d = rw (placed_push cs c, filter-append (waiting d) (in_line cs) (record { earlier = cs; claim = c } ∷ []), length-append) (grind arith)

  -- taking a dispatch out makes no claim wait
  pub waiting_claims_without : (cs : List Claim) (x d : ℕ) → waiting_claims u (without x cs) d ≤ waiting_claims u cs d
  waiting_claims_without cs x d = rw (placed_without x cs) (kept_fewer (waiting d) (λ p. not (of x p.claim)) (strip x) (λ p k. grind (arith, waits_less x p)) (in_line cs))

  -- who does not wait has no waiting claim
  pub waiting_claims_none : (cs : List Claim) (d : ℕ) → dispatch_waits u cs d ≡ false → waiting_claims u cs d ≡ 0
  waiting_claims_none cs d h = ap (λ (ps : List InLine). length ps) (kept_nothing (waiting d) (in_line cs) h)

  -- there is a section waited for exactly when the dispatch waits
  pub waiting_section_some : (cs : List Claim) (d : ℕ) → is_some (waiting_section u cs d) ≡ dispatch_waits u cs d
  waiting_section_some cs d = some_mapped (λ p. p.claim.section) (find (waiting d) (in_line cs)) ∙ find_any (waiting d) (in_line cs)

  -- a push takes nothing that is held
  pub backed_push : (cs : List Claim) (c : Claim) (d s m : ℕ) → backed u cs d s m ≡ true → backed u (cs ++ c ∷ []) d s m ≡ true
  backed_push cs c d s m h = rw (any_push _ cs c) (or_left _ _ h)

  -- taking another dispatch out takes nothing that is held
  pub backed_without : (cs : List Claim) (x d s m : ℕ) → eqb d x ≡ false → backed u cs d s m ≡ true → backed u (without x cs) d s m ≡ true
  backed_without cs x d s m other h =
      rw (any_of_without d x (λ p. eqb p.claim.section s && (u.cover p.claim.mode m && not (waits u p))) cs)
      (and_from _ _ (not_from_false _ other) (any_wider _ _ (λ p k. grind (arith, waits_less x p)) (in_line cs) h))

  -- who does not wait holds every use that its claims cover
  pub backed_covered : (cs : List Claim) (d s m : ℕ) → dispatch_waits u cs d ≡ false → is_covered u cs d s m ≡ true → backed u cs d s m ≡ true
  backed_covered cs d s m ready h =
      let p = any_found (λ p. covers d s m p.claim) (in_line cs) (any_claims (covers d s m) [] cs ∙ h) in
      p.2 (λ q. of d q.claim && (eqb q.claim.section s && (u.cover q.claim.mode m && not (waits u q)))) (grind (arith, p.1, p.2 (waiting d)))

  -- behind a claim of the first kind, which blocks each of the second, none of the second is held
  none_held : (A B : Claim → Bool) → ((a b : Claim) → A a ≡ true → B b ≡ true → blocks u a b ≡ true) → (earlier cs : List Claim) → any A earlier ≡ true → any (λ p. B p.claim && not (waits u p)) (in_line_behind earlier cs) ≡ false
  none_held A B clash earlier [] = λ h. refl
  none_held A B clash earlier (c ∷ cs) = λ h.
      let blocked : B c ≡ true → any (λ b. blocks u b c) earlier ≡ true = λ k. any_wider A (λ b. blocks u b c) (λ a l. clash a c l k) earlier h in
      grind (arith, blocked, none_held A B clash (earlier ++ c ∷ []) cs, any_append A earlier (c ∷ []))

  -- of two kinds that block each other, one is not held
  not_both : (A B : Claim → Bool) → ((a b : Claim) → A a ≡ true → B b ≡ true → (blocks u a b ≡ true) × (blocks u b a ≡ true)) → (earlier cs : List Claim) →
      (any (λ p. A p.claim && not (waits u p)) (in_line_behind earlier cs) && any (λ p. B p.claim && not (waits u p)) (in_line_behind earlier cs)) ≡ false
  not_both A B clash earlier [] = refl
  not_both A B clash earlier (c ∷ cs) =
      grind (
        arith,
        nat_tests,
        clash c c,
        not_both A B clash (earlier ++ c ∷ []) cs,
        any_append A earlier (c ∷ []),
        any_append B earlier (c ∷ []),
        none_held A B (λ a b k l. (clash a b k l).0) (earlier ++ c ∷ []) cs,
        none_held B A (λ b a l k. (clash a b k l).1) (earlier ++ c ∷ []) cs,
      )

  -- what covers conflicting uses conflicts
  conflict_covers : UseLaws u → (a b m n : ℕ) → u.cover a m ≡ true → u.cover b n ≡ true → u.conflict m n ≡ true → u.conflict a b ≡ true
  conflict_covers laws a b m n over_m over_n h =
      laws.symmetric b a (laws.dominates a m b over_m (laws.symmetric m b (laws.dominates b n m over_n h)))

  -- the uses that two dispatches hold on one section do not conflict
  pub backed_apart : (cs : List Claim) (d e s m n : ℕ) → UseLaws u → eqb d e ≡ false → backed u cs d s m ≡ true → backed u cs e s n ≡ true → u.conflict m n ≡ false
  backed_apart cs d e s m n laws other first second = elim (cases_Bool (u.conflict m n)) [
    | inl h ↦ absurd (both_ways _ (not_both (covers d s m) (covers e s n)
        (λ a b k l. let c = conflict_covers laws a.mode b.mode m n in let turned = laws.symmetric a.mode b.mode in (grind (arith, nat_tests), grind (arith, nat_tests))) [] cs)
        (and_from _ _ (any_wider _ _ (λ p k. grind arith) (in_line cs) first) (any_wider _ _ (λ p k. grind arith) (in_line cs) second)))
    | inr apart ↦ apart
  ]

  -- a pushed claim covers its use
  pub covered_push_new : (cs : List Claim) (d s m : ℕ) → u.cover m m ≡ true → is_covered u (cs ++ record { dispatch = d; section = s; mode = m } ∷ []) d s m ≡ true
  covered_push_new cs d s m itself = rw any_append (grind (arith, nat_tests))

  -- a push leaves covered what was covered
  pub covered_push : (cs : List Claim) (c : Claim) (d s m : ℕ) → is_covered u cs d s m ≡ true → is_covered u (cs ++ c ∷ []) d s m ≡ true
  covered_push cs c d s m h = rw any_append (or_left _ _ h)

  -- taking another dispatch out changes nothing that is covered
  pub covered_without : (cs : List Claim) (x d s m : ℕ) → eqb d x ≡ false → is_covered u (without x cs) d s m ≡ is_covered u cs d s m
  covered_without cs x d s m other = any_of_kept (λ c. c) d x (λ c. eqb c.section s && u.cover c.mode m) cs ∙ rw other

  -- a waiting claim covers its use
  pub covered_waiting : (cs : List Claim) (d s m : ℕ) → u.cover m m ≡ true → claim_waits u cs d s m ≡ true → is_covered u cs d s m ≡ true
  covered_waiting cs d s m itself h = rw (any_claims (covers d s m) [] cs) at (any_wider _ (λ p. covers d s m p.claim) (λ p k. grind (arith, nat_tests)) (in_line cs) h)

  -- a claim that nothing blocks adds no step
  pub no_edge : (cs : List Claim) (c : Claim) → any (λ b. blocks u b c) cs ≡ false → (d e : ℕ) → waits_for u (cs ++ c ∷ []) d e ≡ waits_for u cs d e
  no_edge cs c free d e = rw (waits_for_push cs c d e) (grind (arith, blocked_waits e (record { earlier = cs; claim = c })))

  -- so it closes no cycle
  pub no_new_cycle : (cs : List Claim) (c : Claim) → dispatch_waits u cs c.dispatch ≡ false → any (λ b. blocks u b c) cs ≡ false → (d : ℕ) → OnCycle (waits_for u (cs ++ c ∷ [])) d → OnCycle (waits_for u cs) d
  no_new_cycle cs c runs free d = leads_wider (waits_for u (cs ++ c ∷ [])) (waits_for u cs) (λ a b h. sym (no_edge cs c free a b) ∙ h)
