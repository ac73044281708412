use Rattle.std.proofs.Common.{Bool, rules, tests}
use Rattle.std.proofs.lemmas.Iterator.{YieldsList-from_slice}
use Rattle.std.proofs.lemmas.Iterator.Search.{any_from_yields_List}
use Rattle.model.specs.Claims.{blocks}
use Rattle.model.specs.declared.state.Claim.{Claim}
use Rattle.claims.proofs.blocking.is_blocked.Goals as goal

pub returns : goal.returns
returns g c =
    let test : Claim → Bool = λ b. blocks (g.T.UseTable.meaning c.args.table.now) b c.args.c.now in
    any_from_yields_List test _ _ _ c.any.ensures.ran (YieldsList-from_slice c.args.earlier.now (cc)) (λ x b q k. search (rules, tests))
