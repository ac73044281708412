use Rattle.model.proofs.Exact.{first_exact}
use Rattle.model.proofs.theorems.first_is_unique.Goals as goal

pub returns : goal.returns
returns c = first_exact
