use Rattle.std.proofs.Common.{vec_items}
use Rattle.session.proofs.Served.{Served}
use Rattle.session.proofs.serving.serve_between.Given as goal

abbrev pub invariant-loop : goal.invariant-loop
invariant-loop g l = Served g.T.UseTable.meaning g.O.RecallOrder.meaning l.initial.console l.console (g.R.Read.remaining l.initial.input) (g.R.Read.remaining l.input) (g.W.Write.contents l.initial.output) (g.W.Write.contents l.output) (vec_items l.answers)
