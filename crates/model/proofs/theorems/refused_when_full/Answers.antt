use Rattle.model.proofs.Room.{refused_when_full}
use Rattle.model.proofs.theorems.refused_when_full.Goals as goal

pub returns : goal.returns
returns c = refused_when_full
