use Rattle.model.proofs.LawHolds.{law}
use Rattle.model.proofs.theorems.law_over_runs.Goals as goal

pub returns : goal.returns
returns c = law
