use Rattle.session.proofs.Fronts.{served_is_front}
use Rattle.session.proofs.theorems.served_is_the_front.Goals as goal

pub returns : goal.returns
returns g c = served_is_front g.T.UseTable.meaning g.O.RecallOrder.meaning c.args.before.now c.args.after.now
