use Rattle.std.proofs.Common.{arith}
use Rattle.claims.proofs.RowsLemmas.{all_stepped}
use Rattle.claims.proofs.cycles.add_steps_by.Goals as goal

pub returns : goal.returns
returns c = all_stepped c.args.k c.args.rows.now c.loop-row.row-index c.loop-row.rows (omega arith) c.loop-row.invariant
