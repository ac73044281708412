use Rattle.protocol.proofs.Worked.{all_right}
use Rattle.protocol.proofs.theorems.worked_examples.Goals as goal

pub returns : goal.returns
returns c = all_right
