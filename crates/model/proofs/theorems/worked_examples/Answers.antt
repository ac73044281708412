use Rattle.model.proofs.Worked.{all_right}
use Rattle.model.proofs.theorems.worked_examples.Goals as goal

pub returns : goal.returns
returns c = all_right
