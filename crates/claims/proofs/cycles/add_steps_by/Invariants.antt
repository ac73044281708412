use Rattle.claims.proofs.RowsLemmas.{Stepped}
use Rattle.claims.proofs.cycles.add_steps_by.Given as goal

abbrev pub invariant-loop-row : goal.invariant-loop-row
invariant-loop-row l = Stepped l.k l.initial.rows l.row-index l.rows
