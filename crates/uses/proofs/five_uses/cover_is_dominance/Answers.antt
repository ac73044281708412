use Rattle.std.proofs.Common.{arith}
use Rattle.std.proofs.lemmas.Bool.Decides.{nat_tests}
use Rattle.uses.specs.FiveUses.{IS, IX, S, SIX, X}
use Rattle.uses.proofs.five_uses.cover_is_dominance.Goals as goal

pub returns : goal.returns
returns c a b a_known b_known =
    ((λ covered u clash. grind (arith, nat_tests)), λ each. grind (arith, nat_tests, each IS, each IX, each S, each SIX, each X))
