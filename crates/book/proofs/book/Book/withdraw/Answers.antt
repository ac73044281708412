use Rattle.std.proofs.Common.{Ok, refl}
use Rattle.model.specs.declared.call.Call.TheVariants as call
use Rattle.book.specs.Tables.{state}
use Rattle.book.specs.declared.answer.Answer.TheVariants as answer
use Rattle.book.proofs.CallLemmas.{carried_end, history_goes_on, CarriedOutIn, done_refused}
use Rattle.book.proofs.book.Book.withdraw.Given as given
use Rattle.book.proofs.book.Book.withdraw.Goals as goal
use Rattle.book.proofs.book.Book.withdraw.Goals.{After-end}

pub returns-in_err-number : goal.returns-in_err-number
returns-in_err-number g c =
    done_refused g.T.UseTable.meaning g.O.RecallOrder.meaning c.args.self.now (call.Withdraw c.args.dispatch) _ c.from_residual.result c.in_err-number.field-0.0 c.empty.result c.from_residual.ensures.1 c.in_err-number.ensures c.empty.ensures refl refl

-- the dispatch is ended
carried : (g : given.Over) (c : After-end g) → CarriedOutIn g.T.UseTable.meaning g.O.RecallOrder.meaning c.args.self.now (call.Withdraw c.args.dispatch) (Ok answer.Ok) c.end.new.report (state c.end.new.tables)
carried g c =
    let b = c.args.self.now in
    let passed = c.in_ok-number.ensures in
    carried_end (g.T.UseTable.meaning b.policy.table) (g.O.RecallOrder.meaning b.policy.order) (state b.tables) (call.Withdraw c.args.dispatch) c.args.dispatch c.in_ok-number.number c.end.new.report (state c.end.new.tables) passed.0 refl passed.1 c.end.ensures.named c.end.ensures.after

pub invariant_of-self : goal.invariant_of-self
invariant_of-self g c =
    let b = c.args.self.now in
    record { history = history_goes_on (g.T.UseTable.meaning b.policy.table) (g.O.RecallOrder.meaning b.policy.order) (state b.tables) (call.Withdraw c.args.dispatch) b.history (carried g (goal.at.invariant_of-self g c).After-end) }

pub returns : goal.returns
returns g c = record { carried = carried g (goal.at.returns g c).After-end; policy = refl }
