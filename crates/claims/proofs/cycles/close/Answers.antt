use Rattle.claims.specs.Rows.{relation}
use Rattle.claims.proofs.Closing.{none_yet, one_more}
use Rattle.claims.proofs.cycles.close.Goals as goal

pub loop-k-init : goal.loop-k-init
loop-k-init c = none_yet (relation c.args.rows.now)

pub loop-k-preserved : goal.loop-k-preserved
loop-k-preserved c =
    one_more c.loop-k.k (relation c.args.rows.now) (relation c.loop-k.rows) (relation c.add_steps_by.new.rows) c.loop-k.invariant c.add_steps_by.ensures
