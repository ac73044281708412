use Rattle.claims.proofs.Closing.{closed_exact}
use Rattle.claims.proofs.cycles.on_cycles.Goals as goal

pub returns : goal.returns
returns c = closed_exact c.args.rows c.close.new.rows c.own_numbers.result c.close.ensures c.own_numbers.ensures
