use Rattle.std.proofs.Common.{◌≡◌, ℕ, not, ◌&&◌, ◌||◌, eqb}
use Rattle.dispatch_set.specs.DispatchSet.{contains}
use Rattle.model.specs.Claims.{of, waits, holds}
use Rattle.model.specs.Search.{any}
use Rattle.claims.proofs.claim_table.ClaimTable.holders.Given as goal

abbrev pub invariant-loop-c : goal.invariant-loop-c
invariant-loop-c g l =
    (e : ℕ) → (contains l.found e || any (λ p. of e p.claim && (eqb p.claim.section l.section && not (waits (g.T.UseTable.meaning l.table) p))) l.c-iterator) ≡ holds (g.T.UseTable.meaning l.table) l.self l.section e
