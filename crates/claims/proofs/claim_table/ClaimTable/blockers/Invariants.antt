use Rattle.std.proofs.Common.{◌≡◌, ℕ, ◌&&◌, ◌||◌}
use Rattle.dispatch_set.specs.DispatchSet.{contains}
use Rattle.model.specs.Claims.{of, blocks, waits_for}
use Rattle.model.specs.Search.{any}
use Rattle.claims.proofs.claim_table.ClaimTable.blockers.Given as goal

abbrev pub invariant-loop-c : goal.invariant-loop-c
invariant-loop-c g l =
    (e : ℕ) → (contains l.found e || any (λ p. of l.d p.claim && any (λ b. of e b && blocks (g.T.UseTable.meaning l.table) b p.claim) p.earlier) l.c-iterator) ≡ waits_for (g.T.UseTable.meaning l.table) l.self l.d e
