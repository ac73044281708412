use Rattle.std.proofs.Common.{Bool, ◌&&◌, rules, tests}
use Rattle.std.proofs.lemmas.Iterator.Consumers.{YieldsList-from_first}
use Rattle.std.proofs.lemmas.Iterator.Search.{any_from_yields_List}
use Rattle.model.specs.Claims.{InLine, of, waits, in_line}
use Rattle.claims.proofs.claim_table.ClaimTable.waits.Goals as goal

pub returns : goal.returns
returns g c =
    let test : InLine → Bool = λ p. of c.args.d p.claim && waits (g.T.UseTable.meaning c.args.table.now) p in
    any_from_yields_List test _ _ _ c.any.ensures.ran (YieldsList-from_first (λ p. p) (λ s. s) (in_line c.args.self.now) (cc)) (λ x b q k. search (rules, tests))
