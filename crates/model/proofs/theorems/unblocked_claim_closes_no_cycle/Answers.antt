use Rattle.model.proofs.ClaimLists.{no_new_cycle}
use Rattle.model.proofs.theorems.unblocked_claim_closes_no_cycle.Goals as goal

pub returns : goal.returns
returns c = no_new_cycle
