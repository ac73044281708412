use Rattle.claims.proofs.RowsLemmas.{Collected}
use Rattle.claims.proofs.cycles.own_numbers.Given as goal

abbrev pub invariant-loop-a : goal.invariant-loop-a
invariant-loop-a l = Collected l.rows l.a l.own
