use Rattle.std.proofs.Common.{Ok, refl, sym, ap, ◌∙◌}
use Rattle.model.specs.Calls.{swept}
use Rattle.model.specs.Recalling.{Recalled, recall_result}
use Rattle.model.specs.declared.call.Call.TheVariants as call
use Rattle.model.proofs.Grants.{led_invariant}
use Rattle.book.specs.Tables.{state}
use Rattle.book.specs.declared.answer.Answer.TheVariants as answer
use Rattle.book.proofs.CallLemmas.{carried_accepted, history_goes_on, CarriedOutIn}
use Rattle.book.proofs.EntryLemmas.{recall_result-clear, report-nobody}
use Rattle.book.proofs.book.Book.sweep.Given as given
use Rattle.book.proofs.book.Book.sweep.Goals as goal
use Rattle.book.proofs.book.Book.sweep.Goals.{After-sweep}

-- a periodic book is swept
swept_now : (g : given.Over) (c : After-sweep g) → CarriedOutIn g.T.UseTable.meaning g.O.RecallOrder.meaning c.args.self.now call.Sweep (Ok answer.Ok) c.sweep.new.report (state c.sweep.new.tables)
swept_now g c =
    let b = c.args.self.now in
    let u = g.T.UseTable.meaning b.policy.table in
    let o = g.O.RecallOrder.meaning b.policy.order in
    carried_accepted u o (state b.tables) call.Sweep answer.Ok (swept (recall_result u o (state b.tables))) c.sweep.new.report (state c.sweep.new.tables) refl refl refl c.sweep.ensures.reported c.sweep.ensures.left

pub invariant_of-self : goal.invariant_of-self
invariant_of-self g c =
    let b = c.args.self.now in
    record { history = history_goes_on (g.T.UseTable.meaning b.policy.table) (g.O.RecallOrder.meaning b.policy.order) (state b.tables) call.Sweep b.history (swept_now g (goal.at.invariant_of-self g c).After-sweep) }

pub returns-in-Periodic : goal.returns-in-Periodic
returns-in-Periodic g c = record { carried = swept_now g (goal.at.returns-in-Periodic g c).After-sweep; policy = refl }

-- in a continuous book no cycle stands
pub returns-in-Continuous : goal.returns-in-Continuous
returns-in-Continuous g c =
    let b = c.args.self.now in
    let u = g.T.UseTable.meaning b.policy.table in
    let o = g.O.RecallOrder.meaning b.policy.order in
    let s = state b.tables in
    let nobody = recall_result-clear u o (g.met.O.RecallOrder.lawful b.policy.order) s b.tables.consistent ((led_invariant (g.T.UseTable.meaning b.policy.table) (g.met.T.UseTable.lawful b.policy.table) (g.O.RecallOrder.meaning b.policy.order) (g.met.O.RecallOrder.lawful b.policy.order) (state b.tables) b.history).no_cycle c.in-Continuous.is) in
    record {
      carried = carried_accepted u o s call.Sweep answer.Ok (swept (recall_result u o s)) c.empty.result s refl refl refl (c.empty.ensures ∙ report-nobody u s (recall_result u o s) nobody) (sym (ap (λ (r : Recalled). r.state) nobody));
      policy = refl;
    }
