use Rattle.session.proofs.Fronts.{printed_is_front}
use Rattle.session.proofs.theorems.printed_is_the_front.Goals as goal

pub returns : goal.returns
returns c = printed_is_front
