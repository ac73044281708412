use Rattle.std.proofs.Common.{append_assoc}
use Rattle.text_buffer.proofs.TextBufferLemmas.{behind_behind}
use Rattle.protocol.proofs.outcome.put_name.Goals as goal

pub returns : goal.returns
returns c =
    rw (c.put-4.ensures, c.put_number-3.ensures, c.from-2.ensures, c.put-3.ensures, c.put_number-2.ensures, c.from.ensures, c.put-2.ensures, c.put_all.ensures, c.put.ensures, c.put_number.ensures)
    (simp (behind_behind, append_assoc))
