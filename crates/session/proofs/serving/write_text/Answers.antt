use Rattle.session.proofs.Written.{written_nothing, written_more, written_kept}
use Rattle.session.proofs.serving.write_text.Goals as goal
use Rattle.session.proofs.serving.write_text.Goals.{in-Ok, in-Err+else-ne}

pub loop-init : goal.loop-init
loop-init g c = written_nothing _ _

pub loop-preserved : goal.loop-preserved
loop-preserved g c =
    elim c.match-write.branch [
      | in-Ok w ↦ rw w.rest-is (written_more _ _ _ _ c.loop.rest.now w.in-Ok.count c.loop.invariant w.in-Ok.ensures.bytes)
      | in-Err+else-ne w ↦ rw w.rest-is (written_kept _ _ _ _ c.loop.rest.now c.loop.invariant w.in-Err.ensures.bytes)
    ]
