use Rattle.std.proofs.Common.{length, vec_items}
use Rattle.session.proofs.Pieces.{ReadPart}
use Rattle.session.proofs.console.Console.take_all_by.Given as goal

abbrev pub invariant-loop-rest : goal.invariant-loop-rest
invariant-loop-rest g l = ReadPart g.T.UseTable.meaning g.O.RecallOrder.meaning l.initial.self l.self l.piece l.rest (vec_items l.initial.out) (vec_items l.out)

abbrev pub decreases-loop-rest : goal.decreases-loop-rest
decreases-loop-rest g l = length l.rest
