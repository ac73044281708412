use Rattle.std.proofs.Common.{◌≡◌}
use Rattle.model.specs.Recalling.{first, on_cycles}
use Rattle.book.specs.Tables.{state}
use Rattle.book.proofs.TurnLemmas.{Turned}
use Rattle.book.proofs.deadlock.recall_victims.Given as goal

abbrev pub invariant-loop-turn : goal.invariant-loop-turn
invariant-loop-turn g l =
    let u = g.T.UseTable.meaning l.policy.table in
    let o = g.O.RecallOrder.meaning l.policy.order in
    Turned u o (state l.initial.tables) (state l.tables) l._turn l.report
    × (l.next ≡ first u o (state l.tables) (on_cycles u (state l.tables)))
