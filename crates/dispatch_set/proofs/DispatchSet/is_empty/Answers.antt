use Rattle.std.proofs.Common.{arith}
use Rattle.std.specs.Int.{w64, trailing_zeros}
use Rattle.std.proofs.lemmas.Bool.Decides.{nat_tests}
use Rattle.dispatch_set.proofs.Bits.{lowest_is_least}
use Rattle.dispatch_set.proofs.DispatchSet.is_empty.Goals as goal

pub returns-clause-some : goal.returns-clause-some
returns-clause-some c h =
    let least = lowest_is_least c.args.self (grind (arith, nat_tests)) (omega arith) in
    (trailing_zeros w64 c.args.self.bits, least.0)
