use Rattle.std.proofs.Common.{ℕ, Bool, ◌&&◌, ◌||◌, refl, ap, ◌∙◌}
use Rattle.model.specs.Claims.{InLine, of, blocks}
use Rattle.model.specs.Search.{any}
use Rattle.claims.proofs.RowsLemmas.{same_rows}
use Rattle.claims.proofs.claim_table.ClaimTable.waits_for_rows.Goals as goal

pub loop-c-init : goal.loop-c-init
loop-c-init g c =
    let u = g.T.UseTable.meaning c.args.table.now in
    let step : ℕ → ℕ → InLine → Bool = λ a b p. of a p.claim && any (λ e. of b e && blocks u e p.claim) p.earlier in
    let all = c.into_iter-c-iterator.ensures.into_iter_gives ∙ c.in_line-c-items.ensures.value in
    (refl, λ a b. ap (λ t. t || any (step a b) c.into_iter-c-iterator.result) (same_rows c.none-rows.result c.none-rows.ensures a b) ∙ ap (any (step a b)) all)
