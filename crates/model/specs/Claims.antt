-- The claim list (lock requests): which claims block which, which wait, and who waits for whom.
use Rattle.std.specs.Prelude.{ℕ, Bool, not, ◌&&◌, List, [], ◌∷◌, ◌++◌, length, filter, Option, ◌==◌}
use Rattle.std.specs.Option.{option_map}
use Rattle.uses.specs.Relations.{Relations}
use Rattle.model.specs.Search.{any, find}
use Rattle.model.specs.declared.state.Claim.{Claim}

-- a claim in line: with the claims that stand earlier in the list
pub record InLine : Type 0 where
  pub earlier : List Claim
  pub claim : Claim

-- the claims of a list, each in line behind the given ones and those before it
abbrev pub in_line_behind : List Claim → List Claim → List InLine
in_line_behind earlier [] = []
in_line_behind earlier (c ∷ cs) =
    record { earlier = earlier; claim = c } ∷ in_line_behind (earlier ++ c ∷ []) cs

-- the claims of a list in line
abbrev pub in_line : List Claim → List InLine
in_line cs = in_line_behind [] cs

-- the claim is the dispatch's
abbrev pub of : ℕ → Claim → Bool
of d c = c.dispatch == d

-- the list without the claims of the dispatch
abbrev pub without : ℕ → List Claim → List Claim
without d cs = filter (λ c. not (of d c)) cs

-- below, `u` is the meaning of the use table
module _ (u : Relations) where
  -- claim b blocks claim c, which stands later: same section, another dispatch, conflicting uses
  abbrev pub blocks : Claim → Claim → Bool
  blocks b c =
      b.section == c.section && (not (b.dispatch == c.dispatch) && u.conflict b.mode c.mode)

  -- a claim waits when some earlier claim blocks it; otherwise it is held (granted)
  abbrev pub waits : InLine → Bool
  waits p = any (λ b. blocks b p.claim) p.earlier

  -- a dispatch waits when one of its claims waits
  abbrev pub dispatch_waits : List Claim → ℕ → Bool
  dispatch_waits cs d = any (λ p. of d p.claim && waits p) (in_line cs)

  -- the waits-for graph: d waits for e when a claim of e blocks a claim of d
  abbrev pub waits_for : List Claim → ℕ → ℕ → Bool
  waits_for cs d e =
      any (λ p. of d p.claim && any (λ b. of e b && blocks b p.claim) p.earlier) (in_line cs)

  -- the section of the claim for which the dispatch waits
  abbrev pub waiting_section : List Claim → ℕ → Option ℕ
  waiting_section cs d =
      option_map (λ p. p.claim.section) (find (λ p. of d p.claim && waits p) (in_line cs))

  -- how many claims of the dispatch wait
  abbrev pub waiting_claims : List Claim → ℕ → ℕ
  waiting_claims cs d = length (filter (λ p. of d p.claim && waits p) (in_line cs))

  -- how many claims of the dispatch are held
  abbrev pub held_count : List Claim → ℕ → ℕ
  held_count cs d = length (filter (λ p. of d p.claim && not (waits p)) (in_line cs))

  -- the dispatch holds a claim on the section
  abbrev pub holds : List Claim → ℕ → ℕ → Bool
  holds cs section d =
      any (λ p. of d p.claim && (p.claim.section == section && not (waits p))) (in_line cs)

  -- a claim of the dispatch on the section covers the use
  abbrev pub is_covered : List Claim → ℕ → ℕ → ℕ → Bool
  is_covered cs d section mode =
      any (λ c. of d c && (c.section == section && u.cover c.mode mode)) cs

  -- the dispatch's claim on the section for the use stands in the list, and waits
  abbrev pub claim_waits : List Claim → ℕ → ℕ → ℕ → Bool
  claim_waits cs d section mode =
      any (λ p. of d p.claim && (p.claim.section == section && (p.claim.mode == mode && waits p)))
      (in_line cs)
