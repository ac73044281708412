use Rattle.std.proofs.Common.{◌≡◌, ℕ, ◌&&◌, ◌||◌, drop}
use Rattle.dispatch_set.specs.DispatchSet.{contains}
use Rattle.model.specs.Claims.{of, blocks}
use Rattle.model.specs.Search.{any}
use Rattle.claims.proofs.in_line.InLine.blockers.Given as goal

abbrev pub invariant-loop-b : goal.invariant-loop-b
invariant-loop-b g l =
    (e : ℕ) → (contains l.found e || any (λ b. of e b && blocks (g.T.UseTable.meaning l.table) b l.self.claim) (drop l.b-index l.self.earlier)) ≡ any (λ b. of e b && blocks (g.T.UseTable.meaning l.table) b l.self.claim) l.self.earlier
