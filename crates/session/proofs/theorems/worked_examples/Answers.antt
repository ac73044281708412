use Rattle.session.proofs.Worked.{examples_right}
use Rattle.session.proofs.theorems.worked_examples.Goals as goal

pub returns : goal.returns
returns c = examples_right
