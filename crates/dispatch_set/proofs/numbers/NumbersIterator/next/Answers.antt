use Rattle.std.proofs.Common.{length, refl, sym, ap, ◌∙◌, rules}
use Rattle.dispatch_set.proofs.Bits.{marked_below}
use Rattle.dispatch_set.proofs.NumbersLemmas.{numbers_in-none, numbers_in-first}
use Rattle.dispatch_set.proofs.numbers.NumbersIterator.next.Goals as goal

pub returns-in_err-first-clause-steps : goal.returns-in_err-first-clause-steps
returns-in_err-first-clause-steps c =
    let empty = sym c.self.view_is ∙ numbers_in-none c.self.inside.left (c.in_err-first.ensures.none.0 refl) in
    rw c.from_residual.ensures (empty, empty)

pub remove-requires : goal.remove-requires
remove-requires c = marked_below c.self.inside.left c.in_ok-first.first (c.in_ok-first.ensures.least.0)

pub returns-clause-steps : goal.returns-clause-steps
returns-clause-steps c = sym c.self.view_is ∙ numbers_in-first c.self.inside.left c.remove.new.self c.in_ok-first.first c.in_ok-first.ensures.least c.remove.ensures

pub returns-clause-goes : goal.returns-clause-goes
returns-clause-goes c =
    let step = sym c.self.view_is ∙ numbers_in-first c.self.inside.left c.remove.new.self c.in_ok-first.first c.in_ok-first.ensures.least c.remove.ensures in
    let shorter = ap length step in search rules
