use Rattle.std.proofs.Common.{◌≡◌, ◌<◌, not, ap, ◌∙◌, rules}
use Rattle.std.proofs.lemmas.List.Elements.{All-filter}
use Rattle.std.proofs.lemmas.List.Sums.{length-filter, count_by-le-length}
use Rattle.model.specs.Claims.{of, without}
use Rattle.claims.proofs.claim_table.ClaimTable.take_out.Goals as goal

-- the claims that stay are those of the other dispatches
stays : (c : goal.After-retain) → c.retain.new.self ≡ without c.args.d c.self.inside.list
stays c = c.retain.ensures (λ b. not (of c.args.d b)) (λ x answer says. search rules)

pub invariant_of-self : goal.invariant_of-self
invariant_of-self c = simp (stays c) (search (rules, length-filter, count_by-le-length), All-filter (λ b. not (of c.args.d b)) (λ b. b.dispatch < 64) c.self.inside.list c.self.invariant.1)

pub returns : goal.returns
returns c = stays c ∙ ap (without c.args.d) c.self.view_is
