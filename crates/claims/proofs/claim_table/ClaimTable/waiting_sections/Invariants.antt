use Rattle.std.proofs.Common.{◌≡◌, ℕ, ◌<◌, ◌&&◌, cond, get_or, is_some, None, length}
use Rattle.std.specs.Option.{option_map}
use Rattle.model.specs.Claims.{of, waits, waiting_section}
use Rattle.model.specs.Search.{find}
use Rattle.claims.proofs.claim_table.ClaimTable.waiting_sections.Given as goal

abbrev pub invariant-loop-c : goal.invariant-loop-c
invariant-loop-c g l =
    let u = g.T.UseTable.meaning l.table in
    (length l.sections ≡ 64)
    × ((d : ℕ) → d < 64 → cond (is_some (get_or l.sections d None)) (get_or l.sections d None) (option_map (λ p. p.claim.section) (find (λ p. of d p.claim && waits u p) l.c-iterator)) ≡ waiting_section u l.self d)
