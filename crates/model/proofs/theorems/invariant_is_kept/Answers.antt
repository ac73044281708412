use Rattle.model.proofs.Grants.{led_invariant}
use Rattle.model.proofs.Steps.{new_invariant, step_invariant}
use Rattle.model.proofs.theorems.invariant_is_kept.Goals as goal

pub returns : goal.returns
returns c = record { kept = λ u. (new_invariant u, step_invariant u); holds = led_invariant }
