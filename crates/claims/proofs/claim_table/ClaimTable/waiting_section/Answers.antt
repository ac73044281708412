use Rattle.std.proofs.Common.{◌≡◌, Bool, ◌&&◌, ap, ◌∙◌, rules, tests}
use Rattle.std.specs.Option.{option_map}
use Rattle.std.proofs.lemmas.Iterator.Consumers.{YieldsList-from_first}
use Rattle.std.proofs.lemmas.Iterator.Search.{find_from_yields_List}
use Rattle.model.specs.Claims.{InLine, of, waits, in_line}
use Rattle.claims.proofs.claim_table.ClaimTable.waiting_section.Goals as goal

pub returns : goal.returns
returns g c =
    let test : InLine → Bool = λ p. of c.args.d p.claim && waits (g.T.UseTable.meaning c.args.table.now) p in
    let found = find_from_yields_List test _ _ c.find.result c.find.ensures.ran (YieldsList-from_first (λ p. p) (λ s. s) (in_line c.args.self.now) (cc)) (λ x b q k. search (rules, tests)) in
    let sections : c.map.result ≡ option_map (λ (p : InLine). p.claim.section) (option_map (λ (p : InLine). p) c.find.result) = search rules in
    sections ∙ ap (option_map (λ (p : InLine). p.claim.section)) found
