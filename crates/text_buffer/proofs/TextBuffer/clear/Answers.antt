use Rattle.std.proofs.Common.{arith}
use Rattle.text_buffer.proofs.TextBufferLemmas.{all_blank}
use Rattle.text_buffer.proofs.TextBuffer.clear.Goals as goal
use Rattle.text_buffer.proofs.TextBuffer.clear.Goals.{then-self-le-SHORT, else-self-le-SHORT}

pub invariant_of-self : goal.invariant_of-self
invariant_of-self c =
    let s = c.self.inside in
    elim c.if-self-le-SHORT.branch [
      | then-self-le-SHORT w ↦
          (omega arith, rw w.self-inside-is (all_blank s.bytes w.fill.new.self s.count 64 w.if-self-le-SHORT.true (omega arith) c.self.told c.self.invariant.1 (w.fill.ensures.after (λ y h. h))))
      | else-self-le-SHORT w ↦
          (omega arith, rw w.self-inside-is (all_blank s.bytes w.fill-else-self-le-SHORT.new.self s.count s.count (omega arith) c.self.invariant.0 c.self.told c.self.invariant.1 (w.fill-else-self-le-SHORT.ensures.after (λ y h. h))))
    ]
