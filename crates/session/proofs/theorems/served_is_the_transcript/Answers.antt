use Rattle.session.proofs.Fronts.{served_is_transcript}
use Rattle.session.proofs.theorems.served_is_the_transcript.Goals as goal

pub returns : goal.returns
returns g c = served_is_transcript g.T.UseTable.meaning g.O.RecallOrder.meaning c.args.before.now c.args.after.now
