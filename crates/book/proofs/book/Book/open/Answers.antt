use Rattle.std.proofs.Common.{Ok, refl, ap, ◌∙◌}
use Rattle.model.specs.Calls.{with_open}
use Rattle.model.specs.declared.call.Call.TheVariants as call
use Rattle.model.specs.declared.state.OpenEntry.{OpenEntry}
use Rattle.model.proofs.Steps.{passed_opening}
use Rattle.model.proofs.Wakes.{woken_same}
use Rattle.book.specs.Tables.{state}
use Rattle.book.specs.declared.answer.Answer.TheVariants as answer
use Rattle.book.proofs.CallLemmas.{carried_plain, history_goes_on, CarriedOutIn, done_refused}
use Rattle.book.proofs.book.Book.open.Given as given
use Rattle.book.proofs.book.Book.open.Goals as goal
use Rattle.book.proofs.book.Book.open.Goals.{After-open}

pub returns-in_err-newcomer : goal.returns-in_err-newcomer
returns-in_err-newcomer g c =
    done_refused g.T.UseTable.meaning g.O.RecallOrder.meaning c.args.self.now (call.Open c.args.dispatch c.args.weight) _ c.from_residual.result c.in_err-newcomer.field-0.0 c.empty.result c.from_residual.ensures.1 c.in_err-newcomer.ensures c.empty.ensures refl refl

pub open-requires : goal.open-requires
open-requires g c =
    let b = c.args.self.now in
    let checked = c.in_ok-newcomer.ensures in
    let passed = passed_opening (g.T.UseTable.meaning b.policy.table) (state b.tables) c.args.dispatch c.args.weight checked.0 in
    rw checked.1 (record { number = passed.0; weight = passed.1; light = passed.2; out = passed.3 })

-- the dispatch joins the open list
carried : (g : given.Over) (c : After-open g) → CarriedOutIn g.T.UseTable.meaning g.O.RecallOrder.meaning c.args.self.now (call.Open c.args.dispatch c.args.weight) (Ok answer.Ok) c.empty.result (state c.open.new.self)
carried g c =
    let b = c.args.self.now in
    let u = g.T.UseTable.meaning b.policy.table in
    let s = state b.tables in
    let opened = with_open c.args.dispatch c.args.weight s in
    let checked = c.in_ok-newcomer.ensures in
    let joined = c.open.ensures ∙ ap (λ (e : OpenEntry). with_open e.dispatch e.weight s) checked.1 in
    carried_plain u (g.O.RecallOrder.meaning b.policy.order) s (call.Open c.args.dispatch c.args.weight) c.empty.result (state c.open.new.self) opened checked.0 refl (woken_same u s opened refl) c.empty.ensures joined

pub invariant_of-self : goal.invariant_of-self
invariant_of-self g c =
    let b = c.args.self.now in
    record { history = history_goes_on (g.T.UseTable.meaning b.policy.table) (g.O.RecallOrder.meaning b.policy.order) (state b.tables) (call.Open c.args.dispatch c.args.weight) b.history (carried g (goal.at.invariant_of-self g c).After-open) }

pub returns : goal.returns
returns g c = record { carried = carried g (goal.at.returns g c).After-open; policy = refl }
