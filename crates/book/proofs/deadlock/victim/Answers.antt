use Rattle.std.proofs.Common.{refl, ap, ◌∙◌}
use Rattle.model.specs.Recalling.{first}
use Rattle.book.specs.Tables.{state}
use Rattle.book.proofs.VictimLemmas.{filter-on_cycles, first_of_none}
use Rattle.book.proofs.deadlock.victim.Goals as goal

pub returns : goal.returns
returns g c =
    let s = state c.args.tables.now in
    let u = g.T.UseTable.meaning c.args.policy.now.table in
    c.first_of.ensures
    ∙ ap (first u (g.O.RecallOrder.meaning c.args.policy.now.order) s)
    (filter-on_cycles u s c.args.tables.now.consistent c.on_cycles-set.result c.on_cycles-set.ensures)

pub returns-then-is_empty : goal.returns-then-is_empty
returns-then-is_empty g c =
    let s = state c.args.tables.now in
    first_of_none (g.T.UseTable.meaning c.args.policy.now.table) (g.O.RecallOrder.meaning c.args.policy.now.order) s c.args.tables.now.consistent c.on_cycles-set.result c.on_cycles-set.ensures (c.if-is_empty.ensures.none refl)
