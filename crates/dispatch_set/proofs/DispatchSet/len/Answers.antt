use Rattle.std.proofs.Common.{sym, arith}
use Rattle.dispatch_set.proofs.NumbersLemmas.{length-numbers_in}
use Rattle.dispatch_set.proofs.DispatchSet.len.Goals as goal

pub returns : goal.returns
returns c = sym (length-numbers_in c.args.self (omega arith))
