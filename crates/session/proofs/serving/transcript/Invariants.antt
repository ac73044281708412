use Rattle.std.proofs.Common.{map, drop, vec_items}
use Rattle.session.specs.Inputs.{all_bytes}
use Rattle.session.proofs.Pieces.{ReadPart}
use Rattle.session.proofs.serving.transcript.Given as goal

abbrev pub invariant-loop-piece : goal.invariant-loop-piece
invariant-loop-piece g l =
    ReadPart g.T.UseTable.meaning g.O.RecallOrder.meaning l.initial.console l.console (all_bytes (map (λ p. p.now) l.pieces)) (all_bytes (map (λ p. p.now) (drop l.piece-index l.pieces))) (vec_items l.initial.out) (vec_items l.out)
