use Rattle.session.proofs.OneAnswer.{transcript_unique}
use Rattle.session.proofs.theorems.transcript_is_unique.Goals as goal

pub returns : goal.returns
returns c = transcript_unique
