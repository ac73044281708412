use Rattle.model.proofs.LawWorked.{law_examples_right}
use Rattle.model.proofs.theorems.law_examples.Goals as goal

pub returns : goal.returns
returns c = law_examples_right
