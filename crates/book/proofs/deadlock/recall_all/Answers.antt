use Rattle.std.proofs.Common.{[], ap, ◌∙◌}
use Rattle.model.specs.Calls.{report_of, woken}
use Rattle.model.specs.Recalling.{recall_result}
use Rattle.model.specs.State.{State}
use Rattle.model.specs.declared.report.Report.{Report}
use Rattle.book.specs.Tables.{state}
use Rattle.book.proofs.TurnLemmas.{recalled_room}
use Rattle.book.proofs.deadlock.recall_all.Goals as goal

pub name_all_woken-requires : goal.name_all_woken-requires
name_all_woken-requires g c =
    let s = state c.args.tables.now in
    record {
      none = ap (λ (r : Report). r.woken) c.recall_victims.ensures.named;
      room = recalled_room (g.T.UseTable.meaning c.args.policy.now.table) (g.O.RecallOrder.meaning c.args.policy.now.order) (g.met.O.RecallOrder.lawful c.args.policy.now.order) s (state c.recall_victims.new.tables) c.recall_victims.new.report c.args.tables.now.consistent c.recall_victims.ensures.after c.recall_victims.ensures.named;
    }

pub returns : goal.returns
returns g c =
    let u = g.T.UseTable.meaning c.args.policy.now.table in
    let r = recall_result u (g.O.RecallOrder.meaning c.args.policy.now.order) (state c.args.tables.now) in
    record {
      after = c.recall_victims.ensures.after;
      reported = λ s sections. c.name_all_woken.ensures s r.recalls [] sections c.recall_victims.ensures.named ∙ ap (λ (t : State). report_of r.recalls (woken u s t)) c.recall_victims.ensures.after;
    }
