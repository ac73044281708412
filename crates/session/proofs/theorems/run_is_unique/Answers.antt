use Rattle.session.proofs.OneAnswer.{run_unique}
use Rattle.session.proofs.theorems.run_is_unique.Goals as goal

pub returns : goal.returns
returns c = run_unique
