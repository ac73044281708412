use Rattle.std.proofs.Common.{sym, ap, ◌∙◌}
use Rattle.model.specs.Recalling.{Recalled, recall_result}
use Rattle.book.specs.Tables.{state}
use Rattle.book.proofs.EntryLemmas.{recall_result-nobody, report-nobody}
use Rattle.book.proofs.WokenLemmas.{none_is}
use Rattle.book.proofs.deadlock.sweep.Goals as goal

pub returns-then-is_none : goal.returns-then-is_none
returns-then-is_none g c =
    let u = g.T.UseTable.meaning c.args.policy.now.table in
    let o = g.O.RecallOrder.meaning c.args.policy.now.order in
    let s = state c.args.tables.now in
    let none = recall_result-nobody u o (g.met.O.RecallOrder.lawful c.args.policy.now.order) s c.args.tables.now.consistent (sym c.victim-found.ensures ∙ none_is c.victim-found.result c.if-is_none.ensures) in
    record {
      left = sym (ap (λ (r : Recalled). r.state) none);
      reported = c.requires.empty ∙ report-nobody u s (recall_result u o s) none;
    }
