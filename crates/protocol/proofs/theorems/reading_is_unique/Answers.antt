use Rattle.protocol.proofs.OneReading.{reading_unique}
use Rattle.protocol.proofs.theorems.reading_is_unique.Goals as goal

pub returns : goal.returns
returns c = reading_unique
