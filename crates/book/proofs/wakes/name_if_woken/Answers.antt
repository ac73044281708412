use Rattle.std.proofs.Common.{get_or, None, sym, refl, ◌∙◌, arith}
use Rattle.book.specs.Tables.{state}
use Rattle.book.proofs.WokenLemmas.{woken_ran, woken_waits, woken_now, none_from}
use Rattle.book.proofs.wakes.name_if_woken.Goals as goal

pub returns-in_default : goal.returns-in_default
returns-in_default g c =
    let d = c.args.dispatch in
    record {
      named = λ s rs ws sections is. woken_ran (g.T.UseTable.meaning c.args.table.now) s (state c.args.tables.now) d rs ws c.args.report.now (sym (sections d c.requires.small) ∙ none_from (get_or c.args.before.now d None) c.in_default.not-Some) is;
      recalled = refl;
      one = omega arith;
    }

pub returns-then-not-waits : goal.returns-then-not-waits
returns-then-not-waits g c =
    let d = c.args.dispatch in
    record {
      named = λ s rs ws sections is. woken_now (g.T.UseTable.meaning c.args.table.now) s (state c.args.tables.now) d rs ws c.name_woken.new.self c.in-Some.section (sym (sections d c.requires.small) ∙ c.in-Some.is) (sym c.waits.ensures ∙ c.if-not-waits.true) (c.name_woken.ensures.named rs ws is);
      recalled = c.name_woken.ensures.recalled;
      one = omega (arith, c.name_woken.ensures.woken);
    }

pub returns-else-not-waits : goal.returns-else-not-waits
returns-else-not-waits g c =
    let d = c.args.dispatch in
    record {
      named = λ s rs ws sections is. woken_waits (g.T.UseTable.meaning c.args.table.now) s (state c.args.tables.now) d rs ws c.args.report.now (sym c.waits.ensures ∙ c.if-not-waits.false) is;
      recalled = refl;
      one = omega arith;
    }
