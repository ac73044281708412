use Rattle.std.proofs.Common.{ℕ, ◌+◌, List, ◌++◌, map, drop, vec_items, ap, ◌∙◌, arith}
use Rattle.session.specs.Inputs.{all_bytes}
use Rattle.session.proofs.Pieces.{read_nothing, read_more, next_piece, no_piece, whole_input}
use Rattle.session.proofs.serving.transcript.Goals as goal

pub loop-piece-init : goal.loop-piece-init
loop-piece-init g c =
    read_nothing g.T.UseTable.meaning g.O.RecallOrder.meaning c.new-console.result (all_bytes (map (λ p. p.now) c.args.pieces.now)) (vec_items c.new-out.result) c.new-console.result.history

pub loop-piece-preserved : goal.loop-piece-preserved
loop-piece-preserved g c =
    let pieces = c.args.pieces.now in
    let i = c.loop-piece.piece-index in
    let read = c.in_ok-take_all_by.ensures.read in
    read_more g.T.UseTable.meaning g.O.RecallOrder.meaning c.new-console.result c.loop-piece.console c.take_all_by.new.self (all_bytes (map (λ p. p.now) pieces)) (all_bytes (map (λ p. p.now) (drop i pieces))) _ (all_bytes (map (λ p. p.now) (drop (i + 1) pieces))) (vec_items c.new-out.result) (vec_items c.loop-piece.out) read.0 (vec_items c.take_all_by.new.out) c.loop-piece.invariant (next_piece (λ p. p.now) pieces i _ c.loop-piece-test.true) read.2 read.1 c.take_all_by.ensures.policy

pub returns : goal.returns
returns g c =
    let pieces = c.args.pieces.now in
    let i = c.loop-piece.piece-index in
    let so_far = vec_items c.loop-piece.out in
    let starts = c.new-console.ensures in
    let grows = c.in_ok-extend_from_slice.ensures.items ∙ ap (λ (ys : List ℕ). so_far ++ ys) c.text.ensures.shown in
    whole_input g.T.UseTable.meaning g.O.RecallOrder.meaning c.args.table c.args.order c.args.detection c.new-console.result c.loop-piece.console c.finish.new.self (all_bytes (map (λ p. p.now) pieces)) (all_bytes (map (λ p. p.now) (drop i pieces))) (vec_items c.new-out.result) so_far c.finish.new.printed (vec_items c.extend_from_slice.new.self) starts.starts starts.table starts.order c.new-out.ensures.items c.loop-piece.invariant (no_piece (λ p. p.now) pieces i (omega arith)) c.finish.ensures.read grows
