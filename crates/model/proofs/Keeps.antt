-- What each change of the state keeps.
use Rattle.std.proofs.Common.{◌≡◌, ℕ, ◌<◌, ◌≤◌, Bool, true, false, not, eqb, List, [], ◌∷◌, ◌++◌, length, refl, ap, ◌∙◌, ⊎_elim, arith}
use Rattle.std.specs.List.{list_all, AllByRecursion}
use Rattle.std.proofs.lemmas.List.{length-map, length_push}
use Rattle.std.proofs.lemmas.Bool.{cases_eq, false≢true}
use Rattle.std.proofs.lemmas.Bool.Decides.{nat_tests}
use Rattle.uses.specs.Relations.{Relations}
use Rattle.model.specs.Search.{member}
use Rattle.model.specs.Claims.{of, dispatch_waits, waiting_claims}
use Rattle.model.specs.State.{State, new, numbers, is_open, state_without, with_recalled, recall, state_with_claim}
use Rattle.model.specs.Calls.{with_open, without_recalled}
use Rattle.model.specs.Invariant.{entry_in_range, claim_in_range, IsConsistent, WellFormed}
use Rattle.model.specs.declared.state.Claim.{Claim}
use Rattle.model.specs.declared.state.Detection.{Detection}
use Rattle.model.specs.declared.state.OpenEntry.{OpenEntry}
use Rattle.model.proofs.ClaimLists.{waiting_claims_push, waiting_claims_without, waiting_claims_none}
use Rattle.model.proofs.Numbers.{all_pass_filter, all_pass_wider, all_pass_push, any_passes, kept_by_shorter, open_closed, open_push, distinct_closed, distinct_push}
use Rattle.model.proofs.Graphs.{at_most}
use Rattle.model.proofs.Recalls.{Grounded}

entries_below : (d : ℕ) (es : List OpenEntry) → list_all entry_in_range es ≡ true → member d (numbers es) ≡ true → d < 64
entries_below d [] h k = absurd (false≢true k)
entries_below d (e ∷ es) h k = grind (arith, nat_tests, entries_below d es)

-- the state of a new book is consistent
pub new_consistent : (detection : Detection) → IsConsistent (new detection)
new_consistent detection = record {
  distinct = refl;
  entries = refl;
  recalled_below = λ d h. absurd (false≢true h);
  disjoint = λ d h. refl;
  claims_in_range = refl;
  few_claims = omega arith;
}

module _ (s : State) (w : IsConsistent s) where
  -- every claim is of an open dispatch
  pub consistent_grounded : Grounded s
  consistent_grounded d h =
      let found = any_passes (claim_in_range s) (of d) s.claims w.claims_in_range h in
      grind (arith, nat_tests, found.1, found.2)

  -- an open number is below 64
  pub consistent_below : (d : ℕ) → is_open s d ≡ true → d < 64
  consistent_below d h = entries_below d s.opened w.entries h

  -- taking out
  pub without_consistent : (d : ℕ) → IsConsistent (state_without d s)
  without_consistent d = record {
    distinct = distinct_closed d s.opened w.distinct;
    entries = all_pass_filter entry_in_range (λ e. not (eqb e.dispatch d)) entry_in_range (λ e h k. h) s.opened w.entries;
    recalled_below = w.recalled_below;
    disjoint = λ e h. open_closed d e s.opened ∙ grind (arith, nat_tests, w.disjoint e h);
    claims_in_range = all_pass_filter (claim_in_range s) (λ c. not (of d c)) (claim_in_range (state_without d s)) (λ c h k. grind (arith, nat_tests, open_closed d c.dispatch s.opened)) s.claims w.claims_in_range;
    few_claims = omega (arith, kept_by_shorter (λ c. not (of d c)) s.claims, w.few_claims);
  }

  -- another recalled set, of numbers below 64 that are not open
  recalled_consistent : (recalled : ℕ → Bool) → ((d : ℕ) → recalled d ≡ true → d < 64) → ((d : ℕ) → recalled d ≡ true → is_open s d ≡ false) → IsConsistent (record { opened = s.opened; recalled = recalled; claims = s.claims; detection = s.detection })
  recalled_consistent recalled below out = record {
    distinct = w.distinct;
    entries = w.entries;
    recalled_below = below;
    disjoint = out;
    claims_in_range = w.claims_in_range;
    few_claims = w.few_claims;
  }

  -- joining the recalled set, by one who is not open
  pub joined_consistent : (d : ℕ) → d < 64 → is_open s d ≡ false → IsConsistent (with_recalled d s)
  joined_consistent d low out =
      recalled_consistent (with_recalled d s).recalled (λ e h. grind (arith, nat_tests, w.recalled_below e)) (λ e h. grind (arith, nat_tests, w.disjoint e))

  -- leaving the recalled set
  pub acknowledged_consistent : (d : ℕ) → IsConsistent (without_recalled d s)
  acknowledged_consistent d =
      recalled_consistent (without_recalled d s).recalled (λ e h. grind (arith, nat_tests, w.recalled_below e)) (λ e h. grind (arith, nat_tests, w.disjoint e))

  -- opening, of one who is free
  pub open_consistent : (d weight : ℕ) → d < 64 → weight ≤ 1000 → s.recalled d ≡ false → is_open s d ≡ false → IsConsistent (with_open d weight s)
  open_consistent d weight low light free out = record {
    distinct = distinct_push (record { dispatch = d; weight = weight }) s.opened w.distinct out;
    entries = all_pass_push entry_in_range s.opened (record { dispatch = d; weight = weight }) w.entries (grind (arith, nat_tests));
    recalled_below = w.recalled_below;
    disjoint = λ e h. grind (arith, nat_tests, w.disjoint e h, open_push (record { dispatch = d; weight = weight }) e s.opened);
    claims_in_range = all_pass_wider (claim_in_range s) (claim_in_range (with_open d weight s)) (λ c h. grind (arith, nat_tests, open_push (record { dispatch = d; weight = weight }) c.dispatch s.opened)) s.claims w.claims_in_range;
    few_claims = w.few_claims;
  }

  -- entering a claim in range
  pub entered_consistent : (c : Claim) → claim_in_range s c ≡ true → length s.claims < 512 → IsConsistent (state_with_claim c s)
  entered_consistent c right room = record {
    distinct = w.distinct;
    entries = w.entries;
    recalled_below = w.recalled_below;
    disjoint = w.disjoint;
    claims_in_range = all_pass_push (claim_in_range s) s.claims c w.claims_in_range right;
    few_claims = omega (arith, length_push s.claims c);
  }

-- a recall, of one who is open
pub recall_consistent : (s : State) → IsConsistent s → (d : ℕ) → is_open s d ≡ true → IsConsistent (recall d s)
recall_consistent s w d here =
    joined_consistent (state_without d s) (without_consistent s w d) d (consistent_below s w d here) (open_closed d d s.opened ∙ grind (arith, nat_tests))

numbers_below : (es : List OpenEntry) → list_all entry_in_range es ≡ true → AllByRecursion (λ n. n < 64) (numbers es)
numbers_below [] h = tt
numbers_below (e ∷ es) h = (grind (arith, nat_tests, h), numbers_below es (grind (arith, h)))

-- at most 64 are open
pub consistent_few : (s : State) → IsConsistent s → length s.opened ≤ 64
consistent_few s w =
    let few = at_most 64 (numbers s.opened) w.distinct (numbers_below s.opened w.entries) in
    let same = length-map s.opened (λ e. e.dispatch) in
    omega arith

-- where somebody who is free can be opened, there is room
pub consistent_room : (s : State) → IsConsistent s → (d weight : ℕ) → d < 64 → weight ≤ 1000 → s.recalled d ≡ false → is_open s d ≡ false → length s.opened < 64
consistent_room s w d weight low light free out =
    omega (arith, consistent_few (with_open d weight s) (open_consistent s w d weight low light free out), length_push s.opened (record { dispatch = d; weight = weight }))

module _ (u : Relations) where
  -- the state of a new book is well formed
  pub new_kept : (detection : Detection) → WellFormed u (new detection)
  new_kept detection = record { consistent = new_consistent detection; uses_known = refl; one_waits = λ d. omega arith }

module _ (u : Relations) (s : State) (w : WellFormed u s) where
  -- every claim is of an open dispatch
  pub grounded : Grounded s
  grounded = consistent_grounded s w.consistent

  -- an open number is below 64
  pub open_below : (d : ℕ) → is_open s d ≡ true → d < 64
  open_below d h = consistent_below s w.consistent d h

  -- taking out
  pub taken_out_kept : (d : ℕ) → WellFormed u (state_without d s)
  taken_out_kept d = record {
    consistent = without_consistent s w.consistent d;
    uses_known = all_pass_filter (λ c. u.known c.mode) (λ c. not (of d c)) (λ c. u.known c.mode) (λ c h k. h) s.claims w.uses_known;
    one_waits = λ e. omega (arith, waiting_claims_without u s.claims d e, w.one_waits e);
  }

  -- joining the recalled set, by one who is not open
  pub joined_kept : (d : ℕ) → d < 64 → is_open s d ≡ false → WellFormed u (with_recalled d s)
  joined_kept d low out = record { consistent = joined_consistent s w.consistent d low out; uses_known = w.uses_known; one_waits = w.one_waits }

  -- leaving the recalled set
  pub acknowledged_kept : (d : ℕ) → WellFormed u (without_recalled d s)
  acknowledged_kept d = record { consistent = acknowledged_consistent s w.consistent d; uses_known = w.uses_known; one_waits = w.one_waits }

  -- opening, of one who is free
  pub opening_kept : (d weight : ℕ) → d < 64 → weight ≤ 1000 → s.recalled d ≡ false → is_open s d ≡ false → WellFormed u (with_open d weight s)
  opening_kept d weight low light free out = record { consistent = open_consistent s w.consistent d weight low light free out; uses_known = w.uses_known; one_waits = w.one_waits }

  one_waits_entered : (c : Claim) → dispatch_waits u s.claims c.dispatch ≡ false → (e : ℕ) → waiting_claims u (s.claims ++ c ∷ []) e ≤ 1
  one_waits_entered c runs e =
      let pushed = waiting_claims_push u s.claims c e in
      ⊎_elim
      (λ same. grind (arith, nat_tests, pushed, ap (waiting_claims u s.claims) same ∙ waiting_claims_none u s.claims c.dispatch runs))
      (λ other. grind (arith, nat_tests, pushed, other, w.one_waits e)) (cases_eq e c.dispatch)

  -- entering a claim in range for a known use, of one who does not wait
  pub entered_kept : (c : Claim) → claim_in_range s c ≡ true → u.known c.mode ≡ true → dispatch_waits u s.claims c.dispatch ≡ false → length s.claims < 512 → WellFormed u (state_with_claim c s)
  entered_kept c right known runs room = record {
    consistent = entered_consistent s w.consistent c right room;
    uses_known = all_pass_push (λ b. u.known b.mode) s.claims c w.uses_known known;
    one_waits = one_waits_entered c runs;
  }

-- a recall, of one who is open
pub recall_kept : (u : Relations) (s : State) → WellFormed u s → (d : ℕ) → is_open s d ≡ true → WellFormed u (recall d s)
recall_kept u s w d here =
    joined_kept u (state_without d s) (taken_out_kept u s w d) d (open_below u s w d here) (open_closed d d s.opened ∙ grind (arith, nat_tests))
