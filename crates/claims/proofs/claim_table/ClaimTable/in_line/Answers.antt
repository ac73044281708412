use Rattle.std.proofs.Common.{arith}
use Rattle.claims.proofs.InLineLemmas.{length-in_line_behind}
use Rattle.claims.proofs.claim_table.ClaimTable.in_line.Goals as goal

pub returns-clause-fits : goal.returns-clause-fits
returns-clause-fits c = simp length-in_line_behind (omega arith)
