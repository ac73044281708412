use Rattle.std.proofs.Common.{◌≡◌}
use Rattle.std.specs.List.{range_with_len}
use Rattle.model.specs.Graph.{closure}
use Rattle.claims.specs.Rows.{relation}
use Rattle.claims.proofs.cycles.close.Given as goal

abbrev pub invariant-loop-k : goal.invariant-loop-k
invariant-loop-k l = relation l.rows ≡ closure (range_with_len 0 l.k) (relation l.initial.rows)
