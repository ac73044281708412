use Rattle.std.proofs.Common.{ℕ, ◌&&◌, List, Option, refl, ap, ◌∙◌}
use Rattle.std.specs.Option.{option_map}
use Rattle.model.specs.Claims.{InLine, of, waits}
use Rattle.model.specs.Search.{find}
use Rattle.claims.proofs.InLineLemmas.{no_section_yet}
use Rattle.claims.proofs.claim_table.ClaimTable.waiting_sections.Goals as goal

pub loop-c-init : goal.loop-c-init
loop-c-init g c =
    let u = g.T.UseTable.meaning c.args.table.now in
    let section : ℕ → List InLine → Option ℕ = λ d ps. option_map (λ p. p.claim.section) (find (λ p. of d p.claim && waits u p) ps) in
    let all = c.into_iter-c-iterator.ensures.into_iter_gives ∙ c.in_line-c-items.ensures.value in
    (refl, λ d low. no_section_yet d (section d c.into_iter-c-iterator.result) low ∙ ap (section d) all)
