use Rattle.std.proofs.Common.{Bool, ◌&&◌, eqb, rules, tests}
use Rattle.std.proofs.lemmas.Iterator.{YieldsList-from_slice}
use Rattle.std.proofs.lemmas.Iterator.Search.{any_from_yields_List}
use Rattle.model.specs.Claims.{of}
use Rattle.model.specs.declared.state.Claim.{Claim}
use Rattle.claims.proofs.claim_table.ClaimTable.is_covered.Goals as goal

pub returns : goal.returns
returns g c =
    let test : Claim → Bool = λ x. of c.args.d x && (eqb x.section c.args.section && (g.T.UseTable.meaning c.args.table.now).cover x.mode c.args.mode) in
    any_from_yields_List test _ _ _ c.any.ensures.ran (YieldsList-from_slice c.args.self.now (cc)) (λ x b q k. search (rules, tests))
