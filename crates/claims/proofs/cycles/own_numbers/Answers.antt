use Rattle.std.proofs.Common.{arith}
use Rattle.claims.proofs.RowsLemmas.{all_collected}
use Rattle.claims.proofs.cycles.own_numbers.Goals as goal

pub returns : goal.returns
returns c = all_collected c.args.rows.now c.loop-a.a c.loop-a.own (omega arith) c.loop-a.invariant
