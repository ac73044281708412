use Rattle.std.proofs.Common.{◌≡◌, not, eqb, ap, ◌∙◌, rules}
use Rattle.std.proofs.lemmas.List.Sums.{length-filter, count_by-le-length}
use Rattle.model.specs.State.{entries_without}
use Rattle.book.proofs.open_list.OpenList.take_out.Goals as goal

-- the entries that stay are those of the other dispatches
stays : (c : goal.After-retain) → c.retain.new.self ≡ entries_without c.args.dispatch c.self.inside.entries
stays c = c.retain.ensures (λ e. not (eqb e.dispatch c.args.dispatch)) (λ x answer says. search rules)

pub invariant_of-self : goal.invariant_of-self
invariant_of-self c = simp (stays c) (search (rules, length-filter, count_by-le-length))

pub returns : goal.returns
returns c = stays c ∙ ap (entries_without c.args.dispatch) c.self.view_is
