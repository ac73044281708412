use Rattle.model.proofs.Room.{covered_exact}
use Rattle.model.proofs.theorems.covered_is_exact.Goals as goal

pub returns : goal.returns
returns c = covered_exact
