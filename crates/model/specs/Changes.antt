-- What a call changes: the state that it leaves follows from its answer and from whom it recalls.
use Rattle.std.specs.Prelude.{◌≡◌, ℕ, Bool, false, not, ◌&&◌, ◌||◌, List, [], ◌∷◌, ◌++◌, filter, ◌==◌}
use Rattle.model.specs.State.{State}
use Rattle.model.specs.Calls.{ModelAnswer, answer_ok, answer_granted, answer_waits, answer_recalled, is_named, claim_of, Outcome}
use Rattle.model.specs.declared.call.Call.{Call}
use Rattle.model.specs.declared.call.Call.TheVariants as call
use Rattle.model.specs.declared.state.Claim.{Claim}
use Rattle.model.specs.declared.state.OpenEntry.{OpenEntry}

-- what joins the open list: the entry of an opening
abbrev pub new_entries : ModelAnswer → Call → List OpenEntry
new_entries answer_ok (call.Open d weight) = record { dispatch = d; weight = weight } ∷ []
new_entries _ _ = []

-- what joins the claim list: a claim that is neither covered nor refused
abbrev pub new_claims : ModelAnswer → Call → List Claim
new_claims answer_granted (call.Claim d section mode) = claim_of d section mode ∷ []
new_claims answer_waits (call.Claim d section mode) = claim_of d section mode ∷ []
new_claims answer_recalled (call.Claim d section mode) = claim_of d section mode ∷ []
new_claims _ _ = []

-- the call ends the dispatch: a close or a withdrawal
abbrev pub ends : ModelAnswer → Call → ℕ → Bool
ends answer_ok (call.Close e) d = d == e
ends answer_ok (call.Withdraw e) d = d == e
ends _ _ d = false

-- the call acknowledges the recall of the dispatch
abbrev pub acknowledges : ModelAnswer → Call → ℕ → Bool
acknowledges answer_ok (call.Acknowledge e) d = d == e
acknowledges _ _ d = false

-- the call takes the dispatch out: it ends it, or recalls it
abbrev pub takes_out : Call → Outcome → ℕ → Bool
takes_out c x d = ends x.answer c d || is_named d x.recalls

-- the outcome of a call has these changes of the state before it, and no others
pub record IsExactChange (s : State) (c : Call) (x : Outcome) : Type 0 where
  -- the detection stays
  pub detection : x.state.detection ≡ s.detection
  -- the open list loses whom the call takes out; the others keep number, weight and order
  pub opened :
      x.state.opened
      ≡ filter (λ e. not (takes_out c x e.dispatch)) s.opened ++ new_entries x.answer c
  -- the claim list loses all their claims; the others stay as they are, in order
  pub claims :
      x.state.claims
      ≡ filter (λ b. not (takes_out c x b.dispatch)) (s.claims ++ new_claims x.answer c)
  -- the recalled set gets whom the call recalls, and loses whom it acknowledges
  pub recalled :
      (d : ℕ)
      → x.state.recalled d
      ≡ (not (acknowledges x.answer c d) && (is_named d x.recalls || s.recalled d))
