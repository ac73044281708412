use Rattle.std.proofs.Common.{◌≡◌, take, filter}
use Rattle.std.specs.Option.{option_map}
use Rattle.dispatch_set.specs.DispatchSet.{contains}
use Rattle.model.specs.State.{numbers}
use Rattle.model.specs.Recalling.{first}
use Rattle.book.specs.Tables.{state, candidate}
use Rattle.book.proofs.deadlock.first_of.Given as goal

abbrev pub invariant-loop-e : goal.invariant-loop-e
invariant-loop-e g l =
    let u = g.T.UseTable.meaning l.policy.table in
    let s = state l.tables in
    l.best ≡ option_map (candidate u s) (first u (g.O.RecallOrder.meaning l.policy.order) s (filter (contains l.set) (numbers (take l.e-index l.e-items))))
