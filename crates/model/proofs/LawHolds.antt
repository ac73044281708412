-- The law holds of every run.
use Rattle.std.proofs.Common.{◌≡◌, ℕ, false, ◌≤◌, ◌⊎◌, ◌↔◌, ◌≢◌, List, [], ◌∷◌, ◌++◌, length, sym, ◌∙◌, subst, inl, inr, ⊎_elim, arith}
use Rattle.std.proofs.lemmas.Bool.{cases_Bool, both_ways}
use Rattle.std.proofs.lemmas.List.{length-map}
use Rattle.uses.specs.Relations.{Relations, UseLaws}
use Rattle.orders.specs.Laws.{OrderLaws}
use Rattle.model.specs.Claims.{waits_for, dispatch_waits}
use Rattle.model.specs.State.{State, numbers}
use Rattle.model.specs.Recalling.{Order}
use Rattle.model.specs.Calls.{Effect, Outcome, checks, refusal, effect_by, step}
use Rattle.model.specs.Invariant.{WellFormed, Invariant, NoCycle}
use Rattle.model.specs.Runs.{Run, start, next, at, outcome, EachMoment, EachCall}
use Rattle.model.specs.Graph.{HasCycle, LeadsInto, end_of}
use Rattle.model.specs.Law.{Exclusion, WaitsEnd, Progress, IsRightVictim, RecallWhen, RecallWhom, EntersClaim, once_entered, once_recalled, EachOutcome, Law}
use Rattle.model.specs.declared.call.Call.{Call}
use Rattle.model.specs.declared.call.Call.TheVariants as call
use Rattle.model.specs.declared.report.ReportEntry.{ReportEntry}
use Rattle.model.specs.declared.state.Detection.TheVariants.{Continuous}
use Rattle.model.proofs.Graphs.{chain_short, end_member}
use Rattle.model.proofs.ClaimLists.{waits_waits_for}
use Rattle.model.proofs.Recalls.{some_after, steps_open, recalls_clear, recalls_some, recalls_cycle, recalls_right}
use Rattle.model.proofs.Keeps.{grounded, consistent_few}
use Rattle.model.proofs.Steps.{Looked, looks, looks_not, looks_or_recalls_nobody, step_detection, step_invariant}
use Rattle.model.proofs.Grants.{run_invariant, exclusion}

module _ (u : Relations) (s : State) (w : WellFormed u s) where
  -- at most 64 dispatches are open
  pub few_open : length (numbers s.opened) ≤ 64
  few_open = omega (arith, consistent_few s w.consistent, length-map s.opened (λ e. e.dispatch))

  abbrev listed : LeadsInto (numbers s.opened) (waits_for u s.claims)
  listed = steps_open u s (grounded u s w)

  -- where nobody is waited for, no claim waits
  waits_for_nobody :
      (d : ℕ) → ((f : ℕ) → waits_for u s.claims d f ≡ false) → dispatch_waits u s.claims d ≡ false
  waits_for_nobody d last =
      ⊎_elim
      (λ waits. let on = waits_waits_for u s.claims d waits in absurd (both_ways _ (last on.0) on.1))
      (λ runs. runs)
      (cases_Bool (dispatch_waits u s.claims d))

  -- where no cycle stands, waits end
  pub waits_end : NoCycle u s → WaitsEnd u s
  waits_end clear = record {
    short = λ d es chain. omega (arith, few_open, chain_short (numbers s.opened) (waits_for u s.claims) listed clear d es chain.0 chain.1);
    ends_running = λ d es chain last. (end_member (numbers s.opened) (waits_for u s.claims) listed d es chain.0 chain.1, waits_for_nobody (end_of d es) last);
  }

module _ (u : Relations) (o : Order) (s : State) (c : Call) (e : Effect) where
  -- a sweep leaves no cycle
  sweep_clears : Looked u o s c e → c ≡ call.Sweep → NoCycle u e.state
  sweep_clears (looks g rs why) is = recalls_clear u o rs
  sweep_clears (looks_not none other quiet) is = absurd (other is)

  -- a call that looks recalls somebody exactly when a cycle stands
  looked_when :
      Looked u o s c e → (c ≡ call.Sweep) ⊎ ((s.detection ≡ Continuous) × EntersClaim c e.answer)
      → (e.recalls ≢ [] ↔ HasCycle (waits_for u (once_entered c s).claims))
  looked_when (looks g rs why) so = (recalls_cycle u o rs, λ cycle. recalls_some u o rs cycle.0 cycle.1)
  looked_when (looks_not none other quiet) so = absurd (⊎_elim other (λ p. quiet p.0 p.1) so)

  -- no other call recalls anybody
  looked_only :
      Looked u o s c e → e.recalls ≢ []
      → (c ≡ call.Sweep) ⊎ ((s.detection ≡ Continuous) × EntersClaim c e.answer)
  looked_only (looks g rs why) some = why
  looked_only (looks_not none other quiet) some = absurd (some none)

  -- whoever is recalled is the right one
  looked_right :
      Looked u o s c e → (earlier later : List ReportEntry) (n : ReportEntry)
      → e.recalls ≡ earlier ++ n ∷ later
      → IsRightVictim u o (once_recalled earlier (once_entered c s)) n.dispatch
  looked_right (looks g rs why) earlier later n is = recalls_right u o rs earlier later n is
  looked_right (looks_not none other quiet) earlier later n is = absurd (some_after earlier n later (sym none ∙ is))

module _ (u : Relations) (laws : UseLaws u) (o : Order) (lawful : OrderLaws o) (r : Run) (c : Call) where
  abbrev s : State
  s = at u o r

  abbrev i : Invariant u s
  i = run_invariant u laws o lawful r

  abbrev e : Effect
  e = effect_by u o s c (refusal (checks u s c))

  abbrev looked_at : Looked u o s c e
  looked_at = looks_or_recalls_nobody u o lawful s i.well_formed c

  abbrev x : Outcome
  x = step u o s c

  progress : Progress u s c x
  unfolding step
  progress why =
      let after = step_invariant u laws o lawful s i c in
      waits_end u x.state after.well_formed
      (⊎_elim (λ k. after.no_cycle (step_detection u o lawful s i.well_formed c ∙ k))
      (λ k. sweep_clears u o s c e looked_at k) why)

  recall_when : RecallWhen u s c x
  unfolding step
  recall_when = record {
    by_claim = λ entry. looked_when u o s c e looked_at (inr entry);
    by_sweep =
        λ is. subst (λ (x : Call). e.recalls ≢ [] ↔ HasCycle (waits_for u (once_entered x s).claims))
        is (looked_when u o s c e looked_at (inl is));
    by_no_other = looked_only u o s c e looked_at;
  }

  recall_whom : RecallWhom u o s c x
  unfolding step
  recall_whom = looked_right u o s c e looked_at

module _ (u : Relations) (laws : UseLaws u) (o : Order) (lawful : OrderLaws o) where
  -- what holds at the end of every run holds at every moment of a run
  each_moment : (P : Run → Type 0) → ((r : Run) → P r) → (r : Run) → EachMoment P r
  each_moment P always (start detection) = always (start detection)
  each_moment P always (next r c) = (each_moment P always r, always (next r c))

  -- what holds of every call holds of every call of a run
  each_call : (P : Run → Call → Type 0) → ((r : Run) (c : Call) → P r c) → (r : Run) → EachCall P r
  each_call P always (start detection) = tt
  each_call P always (next r c) = (each_call P always r, always r c)

  -- the same, of the state before it and what it gives
  each_outcome :
      (P : State → Call → Outcome → Type 0)
      → ((r : Run) (c : Call) → P (at u o r) c (outcome u o r c))
      → (r : Run) → EachOutcome u o (outcome u o) P r
  each_outcome P always r = each_call (λ r c. P (at u o r) c (outcome u o r c)) always r

  -- the law holds of every run
  pub law : (r : Run) → Law u o r
  law r = record {
    exclusion = each_moment (Exclusion u o) (exclusion u laws o lawful) r;
    progress = each_outcome (Progress u) (progress u laws o lawful) r;
    recall_when = each_outcome (RecallWhen u) (recall_when u laws o lawful) r;
    recall_whom = each_outcome (RecallWhom u o) (recall_whom u laws o lawful) r;
  }
