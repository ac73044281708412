use Rattle.std.proofs.Common.{◌≡◌, ℕ, ◌&&◌, ◌||◌, length}
use Rattle.model.specs.Claims.{of, blocks, waits_for}
use Rattle.model.specs.Search.{any}
use Rattle.claims.specs.Rows.{relation}
use Rattle.claims.proofs.claim_table.ClaimTable.waits_for_rows.Given as goal

abbrev pub invariant-loop-c : goal.invariant-loop-c
invariant-loop-c g l =
    let u = g.T.UseTable.meaning l.table in
    (length l.rows ≡ 64)
    × ((a b : ℕ) → (relation l.rows a b || any (λ p. of a p.claim && any (λ e. of b e && blocks u e p.claim) p.earlier) l.c-iterator) ≡ waits_for u l.self a b)
