use Rattle.std.proofs.Common.{arith}
use Rattle.std.specs.Int.{w64}
use Rattle.std.proofs.lemmas.Nat.Bits.{bit_at_clear_same, bit_at_clear_other}
use Rattle.dispatch_set.specs.DispatchSet.{contains}
use Rattle.dispatch_set.proofs.Bits.{bits}
use Rattle.dispatch_set.proofs.DispatchSet.remove.Goals as goal

pub returns : goal.returns
unfolding contains
returns c = grind (arith, bits, bit_at_clear_same w64, bit_at_clear_other w64)
