-- Recalling, one turn at a time; and the first of a list that grows.
use Rattle.std.proofs.Common.{◌≡◌, ℕ, zero, suc, ◌≤◌, Bool, true, false, cond, ◌&&◌, eqb, List, [], ◌∷◌, ◌++◌, length, Some, None, filter, Option, sym, refl, ap, ◌∙◌, subst, arith}
use Rattle.std.specs.List.{list_all}
use Rattle.std.proofs.lemmas.List.Elements.{filter-append}
use Rattle.std.proofs.lemmas.List.Folds.{list_all-append}
use Rattle.std.proofs.lemmas.List.{nil_from_length, append-nil}
use Rattle.std.proofs.lemmas.Bool.{or_right, cond_both, false≢true}
use Rattle.std.proofs.lemmas.Bool.Decides.{nat_tests}
use Rattle.uses.specs.Relations.{Relations}
use Rattle.orders.specs.Laws.{OrderLaws}
use Rattle.model.specs.Search.{member, last}
use Rattle.model.specs.State.{State, numbers, is_open, recall}
use Rattle.model.specs.Recalling.{Order, Recalled, entry_of, nobody, recall_and, first, unbeaten, summary, on_cycles, recall_result_within, recall_result}
use Rattle.model.proofs.Numbers.{closed_shorter, all_pass_wider, all_pass_member}
use Rattle.model.proofs.Recalls.{Grounded, grounded_recall, in_cycles, cycle_open, no_later, first_some, first_none}

module _ (u : Relations) (o : Order) (lawful : OrderLaws o) where
  -- the first of those on cycles is open
  pub victim_open :
      (s : State) → Grounded s → (d : ℕ) → first u o s (on_cycles u s) ≡ Some d → is_open s d ≡ true
  victim_open s g d e = cycle_open u s g d ((in_cycles u s g d).0 (first_some u o lawful s (on_cycles u s) d e).1)

  -- one turn is the same, whatever follows gives the same
  same_turn :
      (s : State) (again again' : State → Recalled) → Grounded s
      → ((d : ℕ) → is_open s d ≡ true → again (recall d s) ≡ again' (recall d s)) → (v : Option ℕ)
      → first u o s (on_cycles u s) ≡ v → recall_and u again s v ≡ recall_and u again' s v
  same_turn s again again' g same None e = refl
  same_turn s again again' g same (Some d) e = grind (arith, same d (victim_open s g d e))

  -- where nobody is open, nobody is recalled
  nobody_open :
      (s : State) (again : State → Recalled) → Grounded s → length s.opened ≤ 0 → (v : Option ℕ)
      → first u o s (on_cycles u s) ≡ v → recall_and u again s v ≡ nobody s
  nobody_open s again g none None e = refl
  nobody_open s again g none (Some d) e =
      absurd (false≢true (sym (ap (λ es. member d (numbers es)) (nil_from_length s.opened (omega arith))) ∙ victim_open s g d e))

  -- with at least as many turns as open dispatches, recalling is the same
  enough_turns :
      (n m : ℕ) (s : State) → Grounded s → length s.opened ≤ n → length s.opened ≤ m
      → recall_result_within n u o s ≡ recall_result_within m u o s
  unfolding recall_result_within
  enough_turns zero zero s g few few' = refl
  enough_turns zero (suc m) s g few few' = sym (nobody_open s (recall_result_within m u o) g few (first u o s (on_cycles u s)) refl)
  enough_turns (suc n) zero s g few few' = nobody_open s (recall_result_within n u o) g few' (first u o s (on_cycles u s)) refl
  enough_turns (suc n) (suc m) s g few few' =
      same_turn s (recall_result_within n u o) (recall_result_within m u o) g
      (λ d here. let shorter = closed_shorter d s.opened here in enough_turns n m (recall d s) (grounded_recall s d g) (omega arith) (omega arith))
      (first u o s (on_cycles u s)) refl

  -- recalling is any number of turns that suffices
  pub recalling_turns :
      (n : ℕ) (s : State) → Grounded s → length s.opened ≤ n
      → recall_result u o s ≡ recall_result_within n u o s
  unfolding recall_result
  recalling_turns n s g few = enough_turns (length s.opened) n s g (omega arith) few

module _ (u : Relations) (o : Order) (n : ℕ) (s : State) where
  -- a turn without a victim
  pub turn_none : first u o s (on_cycles u s) ≡ None → recall_result_within (suc n) u o s ≡ nobody s
  unfolding recall_result_within
  turn_none e = ap (recall_and u (recall_result_within n u o) s) e

  -- a turn with a victim
  pub turn_some : (d : ℕ) → first u o s (on_cycles u s) ≡ Some d → recall_result_within (suc n) u o s ≡ record { recalls = entry_of u s d ∷ (recall_result_within n u o (recall d s)).recalls; state = (recall_result_within n u o (recall d s)).state }
  unfolding recall_result_within
  turn_some d e = ap (recall_and u (recall_result_within n u o) s) e

-- no turn at all
pub turn_last : (u : Relations) (o : Order) (s : State) → recall_result_within 0 u o s ≡ nobody s
unfolding recall_result_within
turn_last u o s = refl

-- the better of one more and the first so far
abbrev pub better : Relations → Order → State → ℕ → Option ℕ → Option ℕ
better u o s d None = Some d
better u o s d (Some b) = cond (o (summary u s d) (summary u s b)) (Some d) (Some b)

-- a test of all, of a list and one more
all_pass_more :
    {X : Type 0} (p : X → Bool) (xs : List X) (x : X)
    → list_all p (xs ++ x ∷ []) ≡ (list_all p xs && p x)
all_pass_more p xs x = grind (arith, list_all-append p xs (x ∷ []))

-- filters that agree on a list keep the same
pub kept_same :
    (p q : ℕ → Bool) (xs : List ℕ) → ((x : ℕ) → member x xs ≡ true → p x ≡ q x)
    → filter p xs ≡ filter q xs
kept_same p q [] same = refl
kept_same p q (x ∷ xs) same = grind (arith, nat_tests, same x, kept_same p q xs (λ y m. same y (or_right (eqb x y) (member y xs) m)))

-- the last of a list and one more
last_push : {X : Type 0} (xs : List X) (x : X) → last (xs ++ x ∷ []) ≡ Some x
last_push [] x = refl
last_push (y ∷ []) x = refl
last_push (y ∷ (z ∷ zs)) x = last_push (z ∷ zs) x

module _ (u : Relations) (o : Order) (lawful : OrderLaws o) (s : State) (ds : List ℕ) (d : ℕ) where
  abbrev more : List ℕ
  more = ds ++ d ∷ []

  unbeaten_more : (x : ℕ) → unbeaten u o s more x ≡ (unbeaten u o s ds x && no_later u o s x d)
  unbeaten_more x = all_pass_more (no_later u o s x) ds d

  -- a set and one more that goes no later than its first
  first_takes :
      (b : ℕ) → first u o s ds ≡ Some b → o (summary u s d) (summary u s b) ≡ true
      → first u o s more ≡ Some d
  first_takes b e h =
      let chosen = first_some u o lawful s ds b e in
      let all = all_pass_wider (no_later u o s b) (no_later u o s d) (λ y k. let through = lawful.transitive (summary u s d) (summary u s b) (summary u s y) h in grind (arith, through, k)) ds chosen.0 in
      let itself = lawful.total (summary u s d) (summary u s d) in
      let passes : unbeaten u o s more d ≡ true = unbeaten_more d ∙ grind (arith, all, itself) in
      let alone : filter (unbeaten u o s more) (d ∷ []) ≡ d ∷ [] = grind (arith, passes) in
      ap last (filter-append (unbeaten u o s more) ds (d ∷ []) ∙ ap (λ ks. filter (unbeaten u o s more) ds ++ ks) alone) ∙ last_push (filter (unbeaten u o s more) ds) d

  -- a set and one more that its first goes strictly before
  first_keeps :
      (b : ℕ) → first u o s ds ≡ Some b → o (summary u s d) (summary u s b) ≡ false
      → first u o s more ≡ Some b
  first_keeps b e h =
      let chosen = first_some u o lawful s ds b e in
      let ahead = lawful.total (summary u s d) (summary u s b) in
      let beaten : unbeaten u o s more d ≡ false = unbeaten_more d ∙ grind (arith, h, all_pass_member (no_later u o s d) b ds, chosen.1) in
      let alone : filter (unbeaten u o s more) (d ∷ []) ≡ [] = grind (arith, beaten) in
      let same =
      kept_same (unbeaten u o s more) (unbeaten u o s ds) ds
      (λ x m. let through = lawful.transitive (summary u s x) (summary u s b) (summary u s d) in let first_of_all = all_pass_member (no_later u o s x) b ds in unbeaten_more x ∙ grind (arith, through, ahead, h, first_of_all, chosen.1))
      in
      ap last (filter-append (unbeaten u o s more) ds (d ∷ []) ∙ (ap (λ ks. filter (unbeaten u o s more) ds ++ ks) alone ∙ (append-nil (filter (unbeaten u o s more) ds) ∙ same))) ∙ e

  -- the first of a set and one more
  pub first_push : first u o s more ≡ better u o s d (first u o s ds)
  first_push = by_first (first u o s ds) refl
    where
      by_first : (v : Option ℕ) → first u o s ds ≡ v → first u o s more ≡ better u o s d v
      by_first None e =
          let itself = lawful.total (summary u s d) (summary u s d) in
          subst (λ (es : List ℕ). first u o s (es ++ d ∷ []) ≡ Some d) (sym (first_none u o lawful s ds e)) (grind (arith, itself))
      by_first (Some b) e =
          cond_both (o (summary u s d) (summary u s b)) (Some d) (Some b) (λ v. first u o s more ≡ v) (first_takes b e) (first_keeps b e)
