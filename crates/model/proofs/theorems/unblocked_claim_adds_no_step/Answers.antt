use Rattle.model.proofs.ClaimLists.{no_edge}
use Rattle.model.proofs.theorems.unblocked_claim_adds_no_step.Goals as goal

pub returns : goal.returns
returns c = no_edge
