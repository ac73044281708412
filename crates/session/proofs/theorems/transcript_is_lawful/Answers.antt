use Rattle.session.proofs.Runs.{transcript_lawful}
use Rattle.session.proofs.theorems.transcript_is_lawful.Goals as goal

pub returns : goal.returns
returns c = transcript_lawful
