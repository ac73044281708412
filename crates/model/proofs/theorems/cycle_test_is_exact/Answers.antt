use Rattle.model.proofs.Graphs.{on_cycle_exact}
use Rattle.model.proofs.Recalls.{steps_open}
use Rattle.model.proofs.Keeps.{grounded}
use Rattle.model.proofs.theorems.cycle_test_is_exact.Goals as goal

pub returns : goal.returns
returns c = record { test = on_cycle_exact; applies = λ u s w. steps_open u s (grounded u s w) }
