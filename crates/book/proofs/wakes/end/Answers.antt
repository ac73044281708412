use Rattle.std.proofs.Common.{[], ap, ◌∙◌, arith}
use Rattle.model.specs.Calls.{report_of, woken}
use Rattle.model.specs.State.{State}
use Rattle.model.specs.declared.report.Report.{Report}
use Rattle.model.proofs.Keeps.{consistent_few}
use Rattle.book.specs.Tables.{state}
use Rattle.book.proofs.wakes.end.Goals as goal

pub name_all_woken-requires : goal.name_all_woken-requires
name_all_woken-requires g c =
    let t = c.take_out.new.self in
    record {
      none = ap (λ (r : Report). r.woken) c.requires;
      room = omega (arith, ap (λ (r : Report). r.recalled) c.requires, consistent_few (state t) t.consistent);
    }

pub returns : goal.returns
returns g c =
    let s = state c.args.tables.now in
    record {
      after = c.take_out.ensures;
      named =
          c.name_all_woken.ensures s [] [] c.waiting_sections-before.ensures c.requires
          ∙ ap (λ (t : State). report_of [] (woken (g.T.UseTable.meaning c.args.table.now) s t)) c.take_out.ensures;
    }
