use Rattle.std.proofs.Common.{ℕ, Ok, refl, ap, ◌∙◌}
use Rattle.model.specs.Calls.{without_recalled}
use Rattle.model.specs.declared.call.Call.TheVariants as call
use Rattle.model.proofs.Wakes.{woken_same}
use Rattle.book.specs.Tables.{state}
use Rattle.book.specs.declared.answer.Answer.TheVariants as answer
use Rattle.book.proofs.CallLemmas.{carried_plain, history_goes_on, CarriedOutIn, done_refused}
use Rattle.book.proofs.book.Book.acknowledge.Given as given
use Rattle.book.proofs.book.Book.acknowledge.Goals as goal
use Rattle.book.proofs.book.Book.acknowledge.Goals.{After-acknowledge}

pub returns-in_err-number : goal.returns-in_err-number
returns-in_err-number g c =
    done_refused g.T.UseTable.meaning g.O.RecallOrder.meaning c.args.self.now (call.Acknowledge c.args.dispatch) _ c.from_residual.result c.in_err-number.field-0.0 c.empty.result c.from_residual.ensures.1 c.in_err-number.ensures c.empty.ensures refl refl

-- the dispatch leaves the recalled set
carried : (g : given.Over) (c : After-acknowledge g) → CarriedOutIn g.T.UseTable.meaning g.O.RecallOrder.meaning c.args.self.now (call.Acknowledge c.args.dispatch) (Ok answer.Ok) c.empty.result (state c.acknowledge.new.self)
carried g c =
    let b = c.args.self.now in
    let u = g.T.UseTable.meaning b.policy.table in
    let s = state b.tables in
    let passed = c.in_ok-number.ensures in
    let gone = c.acknowledge.ensures ∙ ap (λ (n : ℕ). without_recalled n s) passed.1 in
    carried_plain u (g.O.RecallOrder.meaning b.policy.order) s (call.Acknowledge c.args.dispatch) c.empty.result (state c.acknowledge.new.self) (without_recalled c.args.dispatch s) passed.0 refl (woken_same u s (without_recalled c.args.dispatch s) refl) c.empty.ensures gone

pub invariant_of-self : goal.invariant_of-self
invariant_of-self g c =
    let b = c.args.self.now in
    record { history = history_goes_on (g.T.UseTable.meaning b.policy.table) (g.O.RecallOrder.meaning b.policy.order) (state b.tables) (call.Acknowledge c.args.dispatch) b.history (carried g (goal.at.invariant_of-self g c).After-acknowledge) }

pub returns : goal.returns
returns g c = record { carried = carried g (goal.at.returns g c).After-acknowledge; policy = refl }
