use Rattle.model.proofs.ChangesHold.{changes_exact}
use Rattle.model.proofs.theorems.changes_are_exact.Goals as goal

pub returns : goal.returns
returns c = changes_exact
