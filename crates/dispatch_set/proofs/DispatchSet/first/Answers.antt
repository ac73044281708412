use Rattle.std.proofs.Common.{ap, arith}
use Rattle.std.specs.Int.{w64, trailing_zeros}
use Rattle.dispatch_set.proofs.Bits.{lowest_is_least}
use Rattle.dispatch_set.proofs.DispatchSet.first.Goals as goal

pub returns-then-self-gt0-clause-none : goal.returns-then-self-gt0-clause-none
returns-then-self-gt0-clause-none c =
    let least = lowest_is_least c.args.self (omega arith) (omega arith) in
    ((λ h. cc), (λ none. let no = ap (λ f. f (trailing_zeros w64 c.args.self.bits)) none in cc))

pub returns-then-self-gt0-clause-least : goal.returns-then-self-gt0-clause-least
returns-then-self-gt0-clause-least c = lowest_is_least c.args.self (omega arith) (omega arith)
