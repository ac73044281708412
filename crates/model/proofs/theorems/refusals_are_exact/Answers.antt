use Rattle.model.proofs.Refusals.{refused_by_first, refused_changes_nothing}
use Rattle.model.proofs.theorems.refusals_are_exact.Goals as goal

pub returns : goal.returns
returns c = record { first = refused_by_first; unchanged = refused_changes_nothing }
