-- Who is woken, where nobody is.
use Rattle.std.proofs.Common.{◌≡◌, ℕ, Bool, true, false, not, ◌&&◌, List, [], map, ap, subst, ⊎_elim, arith}
use Rattle.std.proofs.lemmas.Bool.{cases_Bool}
use Rattle.uses.specs.Relations.{Relations}
use Rattle.model.specs.Search.{any}
use Rattle.model.specs.Claims.{dispatch_waits}
use Rattle.model.specs.State.{State, numbers, state_with_claim}
use Rattle.model.specs.Recalling.{entry_of}
use Rattle.model.specs.Calls.{woken}
use Rattle.model.specs.declared.state.Claim.{Claim}
use Rattle.model.proofs.Anys.{any_witness, kept_nothing}
use Rattle.model.proofs.ClaimLists.{dispatch_waits_push}

module _ (u : Relations) (s t : State) where
  -- nobody is woken where whoever waited still waits
  pub woken_nobody :
      ((d : ℕ) → dispatch_waits u s.claims d ≡ true → dispatch_waits u t.claims d ≡ true)
      → woken u s t ≡ []
  woken_nobody still =
      let woke : ℕ → Bool = λ d. dispatch_waits u s.claims d && not (dispatch_waits u t.claims d) in
      let none : any woke (numbers t.opened) ≡ false =
      ⊎_elim (λ some. let found = any_witness woke (numbers t.opened) some in grind (arith, still found.0, found.1)) (λ none. none)
      (cases_Bool (any woke (numbers t.opened)))
      in
      ap (map (entry_of u s)) (kept_nothing woke (numbers t.opened) none)

  -- nobody is woken where the claims stay
  pub woken_same : s.claims ≡ t.claims → woken u s t ≡ []
  woken_same e = woken_nobody (λ d h. subst (λ (cs : List Claim). dispatch_waits u cs d ≡ true) e h)

-- nobody is woken by the entry of a claim
pub woken_entered : (u : Relations) (s : State) (c : Claim) → woken u s (state_with_claim c s) ≡ []
woken_entered u s c = woken_nobody u s (state_with_claim c s) (λ d h. grind (arith, dispatch_waits_push u s.claims c d, h))
