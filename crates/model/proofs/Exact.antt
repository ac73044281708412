-- The first of a set is the only one, and reports fit.
use Rattle.std.proofs.Common.{◌≡◌, ℕ, ◌+◌, ◌≤◌, Bool, true, false, not, ◌&&◌, eqb, ◌⊎◌, List, [], ◌∷◌, length, Some, None, filter, Option, sym, refl, ap, ◌∙◌, inl, inr, ⊎_elim, arith}
use Rattle.std.specs.List.{list_all}
use Rattle.std.proofs.lemmas.List.{length-map}
use Rattle.std.proofs.lemmas.Bool.{and_parts, and_from, or_left, or_right, eq-eqb, not-true, not_from_false, cond_both, false≢true}
use Rattle.std.proofs.lemmas.Bool.Decides.{nat_tests}
use Rattle.uses.specs.Relations.{Relations}
use Rattle.orders.specs.Laws.{OrderLaws}
use Rattle.model.specs.Search.{member, last, is_distinct}
use Rattle.model.specs.State.{State, numbers}
use Rattle.model.specs.Recalling.{Order, entry_of, standing, strictly_before, unbeaten, first}
use Rattle.model.specs.Claims.{dispatch_waits}
use Rattle.model.specs.Calls.{Effect, checks, refusal, effect_by, woken, step}
use Rattle.model.specs.Invariant.{WellFormed}
use Rattle.model.specs.Firsts.{IsFirst}
use Rattle.model.specs.Law.{once_entered}
use Rattle.model.specs.Theorems.{FirstExact, ReportFits}
use Rattle.model.specs.declared.call.Call.{Call}
use Rattle.model.specs.declared.call.Call.TheVariants as call
use Rattle.model.specs.declared.report.ReportEntry.{ReportEntry}
use Rattle.model.specs.declared.state.OpenEntry.{OpenEntry}
use Rattle.model.proofs.Numbers.{all_pass_member, all_pass_from, closed_shorter, kept_by_shorter}
use Rattle.model.proofs.Victims.{member_kept, kept_none}
use Rattle.model.proofs.Recalls.{Grounded, grounded_recall, Recalls, done, next, first_none, first_some, cycle_open}
use Rattle.model.proofs.Steps.{Looked, looks, looks_not, looks_or_recalls_nobody, step_invariant}
use Rattle.model.proofs.LawHolds.{few_open}

-- different open dispatches have different standings
standing_apart :
    (es : List OpenEntry) (d e : ℕ) → member d (numbers es) ≡ true → member e (numbers es) ≡ true
    → standing es d ≡ standing es e → d ≡ e
standing_apart [] d e h k same = absurd (false≢true h)
standing_apart (x ∷ xs) d e h k same = grind (arith, nat_tests, standing_apart xs d e)

-- a filter of a filter
kept_kept : (p q : ℕ → Bool) (xs : List ℕ) → filter q (filter p xs) ≡ filter (λ x. p x && q x) xs
kept_kept p q [] = refl
kept_kept p q (x ∷ xs) = grind (arith, kept_kept p q xs)

-- a number that differs from all is not among them
not_among :
    (x d : ℕ) (xs : List ℕ) → list_all (λ y. not (eqb x y)) xs ≡ true → member d xs ≡ true
    → eqb x d ≡ false
not_among x d xs h k = not-true (eqb x d) (all_pass_member (λ y. not (eqb x y)) d xs h k)

-- e, if it is open and passes, has no greater standing than d
abbrev Newest : (ℕ → Bool) → List OpenEntry → ℕ → ℕ → Type 0
Newest q es d e = member e (numbers es) ≡ true → q e ≡ true → standing es e ≤ standing es d

-- one more open dispatch in front, and d behind it
newest_behind :
    (q : ℕ → Bool) (x : OpenEntry) (es : List OpenEntry) (d e : ℕ)
    → list_all (λ y. not (eqb x.dispatch y)) (numbers es) ≡ true → member d (numbers es) ≡ true
    → Newest q es d e → Newest q (x ∷ es) d e
newest_behind q x es d e differs there rest m t = grind (arith, nat_tests, rest, not_among x.dispatch d (numbers es) differs there, m, t)

-- the last of a list is its only element, or the last of the rest
last_cases :
    (y d : ℕ) (ks : List ℕ) → last (y ∷ ks) ≡ Some d → ((ks ≡ []) × (y ≡ d)) ⊎ (last ks ≡ Some d)
last_cases y d [] l = inl (refl, cc)
last_cases y d (k ∷ ks) l = inr l

-- the one in front is the only one who passes
newest_alone :
    (q : ℕ → Bool) (x : OpenEntry) (es : List OpenEntry) (d e : ℕ) → filter q (numbers es) ≡ []
    → x.dispatch ≡ d → Newest q (x ∷ es) d e
newest_alone q x es d e none is m t = grind (arith, nat_tests, is, m, kept_none q e (numbers es) none t)

-- the last of those who pass is open, and has the greatest standing of those who pass
last_newest :
    (q : ℕ → Bool) (es : List OpenEntry) (d e : ℕ) → is_distinct eqb (numbers es) ≡ true
    → last (filter q (numbers es)) ≡ Some d → (member d (numbers es) ≡ true) × Newest q es d e
last_newest q [] d e h k = cc
last_newest q (x ∷ xs) d e h k =
    let parts = and_parts (list_all (λ y. not (eqb x.dispatch y)) (numbers xs)) (is_distinct eqb (numbers xs)) h in
    let behind : last (filter q (numbers xs)) ≡ Some d → (member d (numbers (x ∷ xs)) ≡ true) × Newest q (x ∷ xs) d e =
    λ l. let rest = last_newest q xs d e parts.1 l in (or_right (eqb x.dispatch d) (member d (numbers xs)) rest.0, newest_behind q x xs d e parts.0 rest.0 rest.1)
    in
    let K = filter q (numbers xs) in
    cond_both (q x.dispatch) (x.dispatch ∷ K) K (λ ks. last ks ≡ Some d → (member d (numbers (x ∷ xs)) ≡ true) × Newest q (x ∷ xs) d e)
    (λ t l. ⊎_elim (λ only. (or_left (eqb x.dispatch d) (member d (numbers xs)) (eq-eqb x.dispatch d only.1), newest_alone q x xs d e only.0 only.1)) behind (last_cases x.dispatch d K l)) (λ t. behind) k

module _ (u : Relations) (o : Order) (lawful : OrderLaws o) (s : State) (w : WellFormed u s) (among : ℕ → Bool) where
  abbrev ns : List ℕ
  ns = numbers s.opened

  abbrev ds : List ℕ
  ds = filter among ns

  -- who is of the set is open
  of_the_set : (d : ℕ) → member d ds ≡ true → (among d ≡ true) × (member d ns ≡ true)
  of_the_set d h = and_parts (among d) (member d ns) (sym (member_kept among d ns) ∙ h)

  first_is : (d : ℕ) → first u o s ds ≡ Some d → IsFirst u o s ds d
  first_is d h =
      let some = first_some u o lawful s ds d h in
      record {
        inside = some.1;
        unbeaten = λ e k. not-true (strictly_before u o s e d) (all_pass_member (λ y. not (strictly_before u o s y d)) e ds some.0 k);
        newest =
            λ e k best. (last_newest (λ x. among x && unbeaten u o s ds x) s.opened d e w.consistent.distinct (sym (ap last (kept_kept among (unbeaten u o s ds) ns)) ∙ h)
            ).1 (of_the_set e k).1
            (and_from (among e) (unbeaten u o s ds e) (of_the_set e k).0 (all_pass_from (λ y. not (strictly_before u o s y e)) ds (λ y m. not_from_false (strictly_before u o s y e) (best y m))));
      }

  only_first : (d e : ℕ) → IsFirst u o s ds d → IsFirst u o s ds e → d ≡ e
  only_first d e a b =
      let up = a.newest e b.inside b.unbeaten in
      let down = b.newest d a.inside a.unbeaten in
      standing_apart s.opened d e (of_the_set d a.inside).1 (of_the_set e b.inside).1 (omega arith)

  is_first :
      (d : ℕ) → IsFirst u o s ds d → (v : Option ℕ) → first u o s ds ≡ v → first u o s ds ≡ Some d
  is_first d a None h = absurd (false≢true (sym (ap (member d) (first_none u o lawful s ds h)) ∙ a.inside))
  is_first d a (Some e) h = h ∙ ap Some (only_first e d (first_is e h) a)

-- the first of a set is the only one
pub first_exact : FirstExact
first_exact u o lawful s w among d =
    (first_is u o lawful s w among d, λ a. is_first u o lawful s w among d a (first u o s (filter among (numbers s.opened))) refl)

-- each recall takes one open dispatch out
pub recalls_shorten :
    (u : Relations) (o : Order) {s t : State} {ns : List ReportEntry} → Recalls u o s ns t
    → Grounded s → length ns + length t.opened ≤ length s.opened
recalls_shorten u o (done clear) g = omega arith
recalls_shorten u o {s} (next {n = n} cycle best rest) g =
    let shorter = closed_shorter n.dispatch s.opened (cycle_open u s g n.dispatch cycle) in
    let others = recalls_shorten u o rest (grounded_recall s n.dispatch g) in
    omega arith

-- the woken are among the open
woken_few : (u : Relations) (s t : State) → length (woken u s t) ≤ length t.opened
woken_few u s t =
    let runs : ℕ → Bool = λ d. dispatch_waits u s.claims d && not (dispatch_waits u t.claims d) in
    let kept = kept_by_shorter runs (numbers t.opened) in
    let named_so = length-map (filter runs (numbers t.opened)) (entry_of u s) in
    let all = length-map t.opened (λ e. e.dispatch) in
    omega arith

-- at most 64 dispatches are open
open_few : (u : Relations) (s : State) → WellFormed u s → length s.opened ≤ 64
open_few u s w = omega (arith, few_open u s w, length-map s.opened (λ e. e.dispatch))

-- entering a claim opens nobody
once_entered_open : (c : Call) (s : State) → (once_entered c s).opened ≡ s.opened
once_entered_open (call.Open d weight) s = refl
once_entered_open (call.Claim d section mode) s = refl
once_entered_open (call.Close d) s = refl
once_entered_open (call.Withdraw d) s = refl
once_entered_open (call.Acknowledge d) s = refl
once_entered_open call.Sweep s = refl

module _ (u : Relations) (o : Order) (s : State) (c : Call) (e : Effect) (before : length s.opened ≤ 64) (after : length e.state.opened ≤ 64) where
  named_few : Looked u o s c e → length e.recalls + length (woken u s e.state) ≤ 64
  named_few (looks g rs why) = omega (arith, recalls_shorten u o rs g, ap length (once_entered_open c s), woken_few u s e.state)
  named_few (looks_not none other quiet) = omega (arith, ap length none, woken_few u s e.state)

-- who is recalled and who is woken are together at most 64
pub report_fits : ReportFits
unfolding step
report_fits u laws o lawful s i c =
    named_few u o s c (effect_by u o s c (refusal (checks u s c))) (open_few u s i.well_formed)
    (open_few u (effect_by u o s c (refusal (checks u s c))).state (step_invariant u laws o lawful s i c).well_formed) (looks_or_recalls_nobody u o lawful s i.well_formed c)
