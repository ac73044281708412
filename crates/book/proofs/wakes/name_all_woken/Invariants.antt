use Rattle.std.proofs.Common.{◌≡◌, ◌≤◌, take}
use Rattle.model.specs.State.{numbers}
use Rattle.book.specs.Tables.{state, NamesWoken}
use Rattle.book.proofs.wakes.name_all_woken.Given as goal

abbrev pub invariant-loop-e : goal.invariant-loop-e
invariant-loop-e g l =
    (l.report.recalled ≡ l.initial.report.recalled)
    × (l.report.woken ≤ l.e-index)
    × NamesWoken (g.T.UseTable.meaning l.table) (state l.tables) (numbers (take l.e-index l.e-items)) l.before l.initial.report l.report
